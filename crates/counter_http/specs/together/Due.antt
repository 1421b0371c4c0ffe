-- What is due to some messages, one after another, and that they were answered so: the bank is seen as c before and as c'
-- after.
use Rattle.std.specs.Prelude.{◌≡◌, List, [], ◌∷◌, true, ⊤}
use Rattle.posting_rules.specs.believed.AnyTables.{HasRoom}
use Rattle.posting_rules.specs.believed.ByCommands.{tables_past_commands}
use Rattle.posting_rules.specs.believed.Changes.{reply_past}
use Rattle.posting_rules.specs.believed.Commands.{Command}
use Rattle.posting_rules.specs.believed.Counter.{LeavesOnly, Seen, ShowsLog}
use Rattle.posting_rules.specs.believed.Runs.{followed_by}
use Rattle.posting_rules.specs.believed.Tables.{Tables}
use Rattle.counter_http.specs.Figures.{answer_told}
use Rattle.counter_http.specs.believed.Answers.{Asked, answer_text, asked_by, is_posting, octets, shows}
use Rattle.counter_http.specs.believed.Turns.{commands_in}
use Rattle.counter_http.specs.together.Order.{Step, submitted_by}

-- each answer is the one after the log and all messages before it, of whatever client
abbrev pub AreDue : List Command → List Step → Type 0
AreDue log [] = ⊤
AreDue log (s ∷ ss) =
    (s.answer ≡ answer_told s.figures log (asked_by s.turn.message)) × AreDue (followed_by log (commands_in s.turn)) ss

-- to a record that is submitted on these tables it is the reply that they have for it
abbrev pub IsDueOn : Tables → Step → Asked → Type 0
IsDueOn t s asked =
    is_posting asked ≡ true → s.answer ≡ answer_text (octets (reply_past t asked.body)) (shows asked) asked.closes

abbrev pub AreDueOn : Tables → List Step → Type 0
AreDueOn t [] = ⊤
AreDueOn t (s ∷ ss) =
    IsDueOn t s (asked_by s.turn.message) × AreDueOn (tables_past_commands t (commands_in s.turn)) ss

-- Records were answered on these tables. It shows what they leave, with room for more; and where a crash could leave those
-- tables alone, it leaves that alone.
pub record AnswersOn (c c' : Seen) (t : Tables) (steps : List Step) : Type 0 where
  pub due : AreDueOn t steps
  pub shows : c'.tables (tables_past_commands t (submitted_by steps))
  pub room : HasRoom (tables_past_commands t (submitted_by steps))
  pub survives : LeavesOnly c (λ left. left ≡ t)
      → LeavesOnly c' (λ left. left ≡ tables_past_commands t (submitted_by steps))

-- so it is after whatever log it showed, and on whatever tables with room, be they those of a log or not
pub record AnswersAll (c c' : Seen) (steps : List Step) : Type 0 where
  pub by_log : (log : List Command) → ShowsLog c log → AreDue log steps
  pub by_tables : (t : Tables) → HasRoom t → c.tables t → AnswersOn c c' t steps
