-- Why a part of a call failed: a call of `sqlite` did, or the stored rows break a rule.
use Rattle.std.specs.Prelude.{◌≡◌, ◌≤◌, ◌⊎◌}
use Rattle.sqlite.specs.State.{State}
use Rattle.sqlite.specs.Held.{Held, state}
use Rattle.sqlite.specs.declared.error.Error.{Error}
use Rattle.sqlite_trees.specs.declared.store.Store.{Ghosts}
use Rattle.posting_rules.specs.declared.fault.Rule.{Rule}
use Rattle.store_rows.specs.believed.Failures.{Additions, HasFailed, HasMet}
use Rattle.bank_transactions.specs.believed.Stray.{IsDamage}

-- the second state came after the first: no fault of the disk was forgotten, and the limit on steps is the
-- same
pub record IsBefore (first second : State) : Type 0 where
  pub faults : first.faults ≤ second.faults
  pub limit : second.step_limit ≡ first.step_limit

-- between these two moments of a connection a call of `sqlite` failed with this error
pub record HasFailedBetween {S : Type 0} (g : Ghosts S) (old new : Held S) (e : Error) : Type 0 where
  -- the connection before that call and after it
  pub at : Held S
  pub then : Held S
  pub before : IsBefore (state g old) (state g at)
  pub failed : HasFailed (state g at) (state g then) e
  pub after : IsBefore (state g then) (state g new)

-- between these two moments of a connection a statement met, as it wrote, that the rule is broken; it puts such
-- rows in, or changes one
pub record HasMetBetween {S : Type 0} (g : Ghosts S) (Adds : Additions) (old new : Held S) (rule : Rule)
    : Type 0 where
  -- the connection before that statement and after it
  pub at : Held S
  pub then : Held S
  pub before : IsBefore (state g old) (state g at)
  pub met : HasMet Adds (state g at) (state g then) rule
  pub after : IsBefore (state g then) (state g new)

-- what damage says between two moments
abbrev pub Damage : Type 0 → Type 1
Damage S = Held S → Held S → Rule → Type 0

-- they do, or a statement met it as it wrote: the key of such a row is taken, or a row is missing
abbrev pub IsBrokenOrMet : {S : Type 0} → Ghosts S → Additions → Damage S
IsBrokenOrMet g Adds old new rule = IsDamage rule (state g old).now ⊎ HasMetBetween g Adds old new rule
