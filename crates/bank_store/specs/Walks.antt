-- Which fault a walk ends with, and what holds after a step.
use Rattle.std.specs.Prelude.{◌≡◌, IsTrue}
use Rattle.sqlite.specs.State.{State}
use Rattle.sqlite.specs.State.{Shows as StateShows}
use Rattle.posting_rules.specs.declared.fault.Fault.{Fault}
use Rattle.posting_rules.specs.declared.fault.Fault.TheVariants as faults
use Rattle.store_rows.specs.declared.fault.TableFault.{TableFault}
use Rattle.store_rows.specs.declared.fault.TableFault.TheVariants.{Sqlite, Damaged}

-- an error of the store, or the rule that is broken
abbrev pub TellsFault : TableFault → Fault → Type 0
TellsFault (Sqlite e) f = f ≡ faults.Store
TellsFault (Damaged rule) f = f ≡ faults.Damaged rule

-- as long as the store is open, everything is as it was
abbrev pub IsUntouchedIfOpen : State → State → Type 0
IsUntouchedIfOpen old new = IsTrue new.is_open → StateShows old new old.now old.committed old.in_transaction

-- the connection sees what it saw
abbrev pub IsStill : State → State → Type 0
IsStill old new =
    (new.now ≡ old.now) × (new.committed ≡ old.committed) × (new.in_transaction ≡ old.in_transaction)
    × (new.is_open ≡ old.is_open)
