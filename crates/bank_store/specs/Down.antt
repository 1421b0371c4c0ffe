-- What else is said of a bank that goes down: which store failed, and what was broken.
use Rattle.std.specs.Prelude.{◌≡◌, ◌⊎◌, Option, Some}
use Rattle.sqlite.specs.State.{State, Fails, HasCleanDisk, IsUnchanged}
use Rattle.sqlite.specs.declared.error.Error.{Error}
use Rattle.sqlite_trees.specs.declared.store.Store.{Ghosts}
use Rattle.posting_rules.specs.declared.fault.Fault.{Fault}
use Rattle.posting_rules.specs.declared.fault.Fault.TheVariants as faults
use Rattle.posting_rules.specs.declared.fault.Rule.{Rule}
use Rattle.store_rows.specs.declared.fault.TableFault.{TableFault}
use Rattle.store_rows.specs.declared.fault.TableFault.TheVariants.{Sqlite, Damaged}
use Rattle.store_rows.specs.believed.Rules.{IsBroken}
use Rattle.bank_store.specs.believed.Seen.{database_of, file_of}
use Rattle.bank_store.specs.declared.bank.Bank.{Bank}

-- the store failed, and its error is cause
abbrev pub StoreHasFailed : State → State → Option TableFault → Fault → Type 0
StoreHasFailed old new cause fault =
    (fault ≡ faults.Store) × ((e : Error) × (cause ≡ Some (Sqlite e)) × (HasCleanDisk new → Fails old new ⊥ e))

-- an error of the store is cause; damage is reported if the store still answers, and nothing has changed
abbrev pub GoesDown : State → State → TableFault → Option TableFault → Fault → Type 0
GoesDown old new (Sqlite e) cause fault = (cause ≡ Some (Sqlite e)) × (fault ≡ faults.Store)
GoesDown old new (Damaged rule) cause fault =
    ((cause ≡ Some (Damaged rule)) × (fault ≡ faults.Damaged rule) × (HasCleanDisk new → IsUnchanged old new))
    ⊎ StoreHasFailed old new cause fault

-- on an honest disk the rows that the file held before the call break the rule
abbrev pub WasBroken : {S : Type 0} (g : Ghosts S) → Bank S g → Bank S g → Rule → Type 0
WasBroken g old new rule = HasCleanDisk (file_of new) → IsBroken rule (database_of g old)
