-- Why a store fault is answered, as a bank is looked for or made, and what every call promises that does so.
use Rattle.std.specs.Prelude.{◌≡◌, ◌⊎◌, true, false, Result, Err, IfErr, ⊤}
use Rattle.sqlite.specs.State.{HasCleanDisk, Survives}
use Rattle.sqlite.specs.Held.{Held, state}
use Rattle.sqlite.specs.Tree.{Trees}
use Rattle.sqlite.specs.declared.error.Error.{Error}
use Rattle.sqlite_trees.specs.declared.store.Store.{Ghosts}
use Rattle.bank_transactions.specs.believed.Causes.{HasFailedBetween, IsBefore}
use Rattle.store_rows.specs.Creation.{CreatesBank}
use Rattle.bank_store.specs.OpenFaults.{of_the_store}
use Rattle.posting_rules.specs.declared.open_fault.OpenFault.{OpenFault}
use Rattle.posting_rules.specs.declared.open_fault.OpenFault.TheVariants.{Store}

-- between these two moments of a connection a call of `sqlite` failed
abbrev pub CallFailed : {S : Type 0} → Ghosts S → Held S → Held S → Type 0
CallFailed g old new = (e : Error) × HasFailedBetween g old new e

-- where a store fault is answered, a call of `sqlite` failed
abbrev pub KnowsCause : {S : Type 0} → Ghosts S → Held S → Held S → OpenFault → Type 0
KnowsCause g old new Store = HasCleanDisk (state g new) → CallFailed g old new
KnowsCause g old new _ = ⊤

-- What every call promises by which a bank is looked for or carried over, whatever it answers.
pub record IsOpenCall {S X : Type 0} (g : Ghosts S) (old new : Held S) (Commits : Trees → Type 0)
    (result : Result X OpenFault) : Type 0 where
  -- where it answers a store fault, a call of `sqlite` failed
  pub cause : IfErr result (KnowsCause g old new)
  -- the connection is outside a transaction
  pub mode : new.in_transaction ≡ false
  -- a crash leaves what it could leave before, or what the call commits
  pub survives : Survives (state g old) (state g new) Commits

-- the same of a call that only looks
abbrev pub LooksIn : {S X : Type 0} → Ghosts S → Held S → Held S → Result X OpenFault → Type 0
LooksIn g old new result = IsOpenCall g old new (λ _. ⊥) result

-- between these two moments of a connection the tables could not be made, by an error of the store's own
pub record MakingFailed {S : Type 0} (g : Ghosts S) (old new : Held S) : Type 0 where
  -- the connection before they were made, and after it
  pub start : Held S
  pub end : Held S
  pub error : Error
  pub before : IsBefore (state g old) (state g start)
  pub failed : CreatesBank (state g start) (state g end) (Err error)
  pub own : of_the_store error ≡ true
  pub after : IsBefore (state g end) (state g new)

-- where a store fault is answered, a call of `sqlite` failed, or the tables could not be made
abbrev pub KnowsWhyUnmade : {S : Type 0} → Ghosts S → Held S → Held S → OpenFault → Type 0
KnowsWhyUnmade g old new Store = HasCleanDisk (state g new) → CallFailed g old new ⊎ MakingFailed g old new
KnowsWhyUnmade g old new _ = ⊤
