-- What loading a plan into a counter does.
use Rattle.std.specs.Prelude.{◌≡◌, ℕ, ◌<◌, List, length, take, drop}
use Rattle.posting_rules.specs.believed.ByCommands.{TakesByTables}
use Rattle.posting_rules.specs.believed.Commands.{Command}
use Rattle.posting_rules.specs.believed.Counter.{Seen, StandsAt, LeavesOnly, ShowsPrefix, Takes, Refuses}
use Rattle.posting_rules.specs.declared.fault.Fault.{Fault}
use Rattle.posting_rules.specs.declared.fault.Fault.TheVariants.{Down}

-- wherever the counter stood at a log, a crash may leave the log and then a prefix of the commands, so many
-- of them at least
abbrev pub LeavesPrefix : Seen → Seen → List Command → ℕ → Type 0
LeavesPrefix old new commands least =
    new.honest → (log : List Command) → StandsAt old log → LeavesOnly new (ShowsPrefix log commands least)

-- The counter answered so many of the commands, stood there, and refused the next one. Where it stood it was
-- honest and up wherever it is so afterwards, and down only where it was down from the start.
pub record IsRefusedAfter {C : Type 0} (seen : C → Seen) (old new : C) (commands : List Command)
    (fault : Fault)
    (answered : ℕ) : Type 0 where
  pub within : answered < length commands
  -- the counter after what it answered
  pub stood : C
  pub first : answered ≡ 0 → stood ≡ old
  pub taken : Takes (seen old) (seen stood) (take answered commands)
  pub by_tables : TakesByTables (seen old) (seen stood) (take answered commands)
  pub refused : Refuses fault (seen stood) (seen new) (take 1 (drop answered commands))
  pub honest : (seen new).honest → (seen stood).honest
  pub up : (seen stood).is_down → (seen old).is_down × (answered ≡ 0)
  pub tried : (seen stood).is_down → fault ≡ Down
  pub down : (seen stood).is_down → (seen new).is_down
  -- a crash may leave no less than what was answered
  pub left : LeavesPrefix (seen old) (seen new) commands answered
