-- The life of a counter from call to call, and how it ends.
use Rattle.std.specs.Prelude.{◌≡◌, ◌≤◌, ◌⊎◌, ℕ, zero, suc, ◌+◌, List, [], ◌++◌, length}
use Rattle.posting_rules.specs.declared.fault.Fault.{Fault}
use Rattle.posting_rules.specs.declared.fault.Fault.TheVariants.{Memory, Store, Down, Damaged}
use Rattle.posting_rules.specs.believed.Commands.{Command}
use Rattle.posting_rules.specs.believed.Counter.{Seen, StandsAt, LeavesOnly, LeavesNoMore, ShowsPrefix}
use Rattle.posting_rules.specs.believed.Runs.{followed_by}
use Rattle.posting_rules.specs.believed.Tables.{AreTablesOf}

-- ---- one call

-- what a call did that was given these commands, of which so many at the front were acknowledged
pub record IsCall (old new : Seen) (commands : List Command) (acknowledged : ℕ) : Type 0 where
  pub within : acknowledged ≤ length commands
  pub honest : new.honest → old.honest
  -- a crash may leave a prefix of the commands that holds all that were acknowledged
  pub survives : new.honest → (log : List Command) → StandsAt old log
      → LeavesOnly new (ShowsPrefix log commands acknowledged)
  -- it took them all, or it went down
  pub stands : new.honest → (log : List Command) → StandsAt old log
      → StandsAt new (followed_by log commands) ⊎ new.is_down
  -- where it was down it acknowledged none, it is down, and a crash leaves no more than it left
  pub down : old.is_down → new.is_down × (acknowledged ≡ 0) × LeavesNoMore old new

-- a counter that was out of memory, or down, was given nothing
abbrev pub given_to : Fault → List Command → List Command
given_to Memory commands = []
given_to Store commands = commands
given_to Down commands = []
given_to (Damaged rule) commands = commands

-- what a stream did, as one call: it took some commands, all of which count as acknowledged, and then it was
-- given those that were refused, or none of them
pub record IsStream (old new : Seen) (taken refused : List Command) : Type 0 where
  pub tried : List Command
  pub which : (tried ≡ refused) ⊎ (tried ≡ [])
  pub call : IsCall old new (taken ++ tried) (length taken)

-- ---- a life

-- how many commands must survive after one call more: as before, or all before it and those it acknowledged
abbrev pub reached : ℕ → List Command → ℕ → ℕ
reached least given zero = least
reached least given (suc n) = length given + suc n

-- Calls one after another: the counter as they began and as it is now, the commands that they were given, and
-- how many of these, from the first on, a crash must leave.
pub data Life {C : Type 0} (seen : C → Seen) (first : C) : C → List Command → ℕ → Type 0 where
  begins : Life seen first first [] 0
  goes_on : (now next : C) (given commands : List Command) (least acknowledged : ℕ)
      → Life seen first now given least → IsCall (seen now) (seen next) commands acknowledged
      → Life seen first next (given ++ commands) (reached least given acknowledged)

-- What a life ends with: nothing at all, or a walk, a report or a reopening that failed. It was given nothing,
-- and all that is known of it is what a crash leaves.
pub record EndsLife (now last : Seen) : Type 0 where
  pub honest : last.honest → now.honest
  pub survives : last.honest → (log : List Command) → StandsAt now log
      → LeavesOnly last (λ t. AreTablesOf t log)
  pub down : last.honest → now.is_down → LeavesNoMore now last
