-- Messages that were answered as it is due, one after another.
use Rattle.std.proofs.Common.{◌≡◌, List, [], ◌∷◌, ◌++◌, refl, sym, subst, ap, ◌∙◌}
use Rattle.posting_rules.specs.Counter.{StaysByTables}
use Rattle.posting_rules.specs.believed.AnyTables.{HasRoom}
use Rattle.posting_rules.specs.believed.ByCommands.{tables_past_command, tables_past_commands}
use Rattle.posting_rules.specs.believed.Commands.{Command}
use Rattle.posting_rules.specs.believed.Counter.{IsSeenUnchanged, LeavesOnly, Seen, Takes}
use Rattle.posting_rules.specs.believed.Runs.{followed_by}
use Rattle.posting_rules.specs.believed.Tables.{Tables}
use Rattle.posting_rules.proofs.{Remaining.leaves_still, Sequence.after-append}
use Rattle.counter_http.specs.believed.Turns.{commands_in}
use Rattle.counter_http.specs.together.Due.{AnswersAll, AreDue, AreDueOn}
use Rattle.counter_http.specs.together.Order.{Step, submitted_by}
use Rattle.counter_http.proofs.Steps.{submitted-append}

-- after a log
pub due_append : (log : List Command) (ss ts : List Step) → AreDue log ss → AreDue (followed_by log (submitted_by ss)) ts
    → AreDue log (ss ++ ts)
due_append log [] ts due more = more
due_append log (s ∷ ss) ts due more = (
  due.0,
  due_append (followed_by log (commands_in s.turn)) ss ts due.1
      (subst (λ (l : List Command). AreDue l ts) (after-append log (commands_in s.turn) (submitted_by ss)) more),
)

-- on tables
past_both : (t : Tables) (cs ds : List Command)
    → tables_past_commands t (cs ++ ds) ≡ tables_past_commands (tables_past_commands t cs) ds
past_both t [] ds = refl
past_both t (c ∷ cs) ds = past_both (tables_past_command t c) cs ds

due_on_append : (t : Tables) (ss ts : List Step) → AreDueOn t ss
    → AreDueOn (tables_past_commands t (submitted_by ss)) ts → AreDueOn t (ss ++ ts)
due_on_append t [] ts due more = more
due_on_append t (s ∷ ss) ts due more = (
  due.0,
  due_on_append (tables_past_commands t (commands_in s.turn)) ss ts due.1
      (subst (λ (u : Tables). AreDueOn u ts) (past_both t (commands_in s.turn) (submitted_by ss)) more),
)

-- some, and then others
pub answers_then : (c c' c'' : Seen) (ss ts : List Step) → c'.honest → Takes c c' (submitted_by ss)
    → AnswersAll c c' ss → AnswersAll c' c'' ts → AnswersAll c c'' (ss ++ ts)
answers_then c c' c'' ss ts honest takes a b = record {
  by_log = λ log shown. due_append log ss ts (a.by_log log shown)
      (b.by_log (followed_by log (submitted_by ss)) (takes.shows honest log shown));
  by_tables = λ t room there.
      let one = a.by_tables t room there in
      let u = tables_past_commands t (submitted_by ss) in
      let two = b.by_tables u one.room one.shows in
      let same : tables_past_commands u (submitted_by ts) ≡ tables_past_commands t (submitted_by (ss ++ ts)) =
      sym (ap (tables_past_commands t) (submitted-append ss ts) ∙ past_both t (submitted_by ss) (submitted_by ts)) in
      record {
        due = due_on_append t ss ts one.due two.due;
        shows = subst (λ (v : Tables). c''.tables v) same two.shows;
        room = subst (λ (v : Tables). HasRoom v) same two.room;
        survives = λ only. subst (λ (v : Tables). LeavesOnly c'' (λ left. left ≡ v)) same
            (two.survives (one.survives only));
      };
}

-- none were
pub answers_none : (c c' : Seen) → c'.honest → StaysByTables c c' → AnswersAll c c' []
answers_none c c' honest stays = record {
  by_log = λ log shown. tt;
  by_tables = λ t room there.
      record { due = tt; shows = stays.shows honest t there; room = room; survives = stays.survives honest t there };
}

-- a refusal for want of memory leaves the tables
pub unchanged_stays : (c c' : Seen) → IsSeenUnchanged c c' → StaysByTables c c'
unchanged_stays c c' same = record {
  shows = λ h t there. same.tables t there;
  survives = λ h t there only. leaves_still c c' (λ (left : Tables). left ≡ t) same.left only;
}
