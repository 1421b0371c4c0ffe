-- What each call of a counter says, as a call of its life.
use Rattle.std.proofs.Common.{◌≡◌, ◌≤◌, ◌⊎◌, ℕ, List, [], length, arith, refl, inl, inr}
use Rattle.std.proofs.Math.Seq.{take-length}
use Rattle.posting_rules.specs.declared.fault.Fault.{Fault}
use Rattle.posting_rules.specs.believed.{Commands.Command, Commands.AreCommands, Runs.followed_by, Tables.AreTablesOf}
use Rattle.posting_rules.specs.believed.Counter.{Seen, StandsAt, LeavesOnly, LeavesNoMore, ShowsPrefix, ShowsLog}
use Rattle.posting_rules.specs.believed.Counter.{Takes, Refuses}
use Rattle.posting_rules.specs.declared.fault.Fault.TheVariants.{Memory, Store, Down, Damaged}
use Rattle.posting_rules.proofs.Remaining.{leaves_still, leaves_weaker}
use Rattle.bank_lives.specs.believed.Lives.{IsCall, EndsLife, given_to}

-- what leaves the log with all the commands leaves the longest prefix
pub all_left : (c : Seen) (log commands : List Command) (least : ℕ) → least ≤ length commands
    → AreCommands (followed_by log commands) → LeavesOnly c (λ t. AreTablesOf t (followed_by log commands))
    → LeavesOnly c (ShowsPrefix log commands least)
all_left c log commands least few are left =
    leaves_weaker c (λ t. AreTablesOf t (followed_by log commands)) (ShowsPrefix log commands least)
    (λ t shown. record {
      count = length commands;
      holds = few;
      within = omega arith;
      are = rw (take-length commands) are;
      shows = rw (take-length commands) shown;
    }) left

pub all_shown : (c : Seen) (log commands : List Command) → StandsAt c (followed_by log commands)
    → LeavesOnly c (ShowsPrefix log commands (length commands))
all_shown c log commands stands =
    all_left c log commands (length commands) (omega arith) stands.shows.commands stands.survives

-- it stands where all the commands lead
pub stood_is_call : (old new : Seen) (commands : List Command) → (old.is_down → ⊥) → (new.honest → old.honest)
    → (new.honest → (log : List Command) → StandsAt old log → StandsAt new (followed_by log commands))
    → IsCall old new commands (length commands)
stood_is_call old new commands up honest stands = record {
  within = omega arith;
  honest = honest;
  survives = λ h log stood. all_shown new log commands (stands h log stood);
  stands = λ h log stood. inl (stands h log stood);
  down = λ down. absurd (up down);
}

-- it was answered
pub taken_is_call : (old new : Seen) (commands : List Command) → Takes old new commands
    → (old.is_down → ⊥) → (new.honest → old.honest) → IsCall old new commands (length commands)
taken_is_call old new commands takes up honest = stood_is_call old new commands up honest takes.stands

-- nothing was changed
pub still : (old new : Seen) (log : List Command) → StandsAt old log → (new.is_down → old.is_down)
    → (ShowsLog old log → ShowsLog new log)
    → (LeavesOnly old (λ t. AreTablesOf t log) → LeavesOnly new (λ t. AreTablesOf t log)) → StandsAt new log
still old new log stood down shows left =
    record { shows = shows stood.shows; up = λ d. stood.up (down d); survives = left stood.survives }

-- it was refused
pub refused_is_call : (fault : Fault) (old new : Seen) (commands : List Command)
    → Refuses fault old new commands
    → (old.is_down → fault ≡ Down) → (new.honest → old.honest) → IsCall old new (given_to fault commands) 0
refused_is_call Memory old new commands refuses up honest =
    let stands = λ (h : new.honest) (log : List Command) (stood : StandsAt old log).
    still old new log stood refuses.down
    (λ s. record {
      commands = s.commands;
      tables = s.tables;
      are = refuses.tables s.tables s.are;
      shows = s.shows;
    })
    (leaves_still old new (λ t. AreTablesOf t log) refuses.left) in
    record {
      within = omega arith;
      honest = honest;
      survives = λ h log stood. all_shown new log [] (stands h log stood);
      stands = λ h log stood. inl (stands h log stood);
      down = λ down. absurd (let e = up down in cc);
    }
refused_is_call Store old new commands refuses up honest = record {
  within = omega arith;
  honest = honest;
  survives = refuses.survives;
  stands = λ h log stood. inr refuses.down;
  down = λ down. absurd (let e = up down in cc);
}
refused_is_call Down old new commands refuses up honest = record {
  within = omega arith;
  honest = honest;
  survives = λ h log stood. absurd (stood.up refuses.before);
  stands = λ h log stood. absurd (stood.up refuses.before);
  down = λ down. (refuses.after, refl, refuses.left);
}
refused_is_call (Damaged rule) old new commands refuses up honest = record {
  within = omega arith;
  honest = honest;
  survives = λ h log stood. absurd (refuses.never_shown h log stood.shows);
  stands = λ h log stood. absurd (refuses.never_shown h log stood.shows);
  down = λ down. absurd (let e = up down in cc);
}

-- ---- walks and reports, which are given nothing

-- it stands where it stood, or it went down
pub told_is_call : (old new : Seen) → (old.is_down → ⊥) → (new.honest → old.honest)
    → (new.honest → (log : List Command) → StandsAt old log → LeavesOnly new (λ t. AreTablesOf t log))
    → (new.honest → (log : List Command) → StandsAt old log → StandsAt new log ⊎ new.is_down)
    → IsCall old new [] 0
told_is_call old new up honest survives stands = record {
  within = omega arith;
  honest = honest;
  survives = λ h log stood. all_left new log [] 0 (omega arith) stood.shows.commands (survives h log stood);
  stands = stands;
  down = λ down. absurd (up down);
}

no_more_than : (c : Seen) → LeavesNoMore c c
no_more_than c remains left = (remains, left, λ t found. found)

pub nothing_is_call : (c : Seen) → IsCall c c [] 0
nothing_is_call c = record {
  within = omega arith;
  honest = λ h. h;
  survives = λ h log stood. all_shown c log [] stood;
  stands = λ h log stood. inl stood;
  down = λ down. (down, refl, no_more_than c);
}

pub nothing_ends : (c : Seen) → EndsLife c c
nothing_ends c = record {
  honest = λ h. h;
  survives = λ h log stood. stood.survives;
  down = λ h down. no_more_than c;
}

pub failed_ends : (old new : Seen) → (old.is_down → ⊥) → (new.honest → old.honest)
    → (new.honest → (log : List Command) → StandsAt old log → LeavesOnly new (λ t. AreTablesOf t log))
    → EndsLife old new
failed_ends old new up honest survives = record {
  honest = honest;
  survives = survives;
  down = λ h down. absurd (up down);
}
