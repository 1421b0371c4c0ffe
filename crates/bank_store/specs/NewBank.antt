-- A bank is made over a connection, or why none is.
use Rattle.std.specs.Prelude.{◌≡◌, ◌⊎◌, [], false, Result, IfErr, OnErr, OnOk}
use Rattle.sqlite.specs.Tree.{Trees}
use Rattle.sqlite.specs.Effect.{Database}
use Rattle.sqlite.specs.State.{State, HasCleanDisk, Survives}
use Rattle.sqlite.specs.Held.{Held, state}
use Rattle.sqlite.specs.declared.error.Error.{Error}
use Rattle.sqlite_trees.specs.declared.store.Store.{Ghosts}
use Rattle.posting_rules.specs.believed.Counter.{StandsAt}
use Rattle.posting_rules.specs.believed.Tables.{Tables}
use Rattle.sql_meanings.specs.Making.{KeepsTables}
use Rattle.store_rows.specs.Creation.{HasNewBank, IsAlone, RefusedIn, new_tables}
use Rattle.store_rows.specs.Probes.{all_probes}
use Rattle.store_rows.specs.believed.View.{Shows, ShowsTrees}
use Rattle.bank_store.specs.Connections.{IsAsBefore, IsUndoneIfOpen}
use Rattle.bank_store.specs.OpenFaults.{of_the_store, IsUnmade}
use Rattle.bank_store.specs.StoreFaults.{KnowsWhyUnmade}
use Rattle.bank_store.specs.believed.Seen.{bank_seen, file_of}
use Rattle.bank_store.specs.TablePresence.{IsPresent, IsReadable, OneOf}
use Rattle.bank_store.specs.declared.bank.Bank.{Bank}
use Rattle.bank_store.specs.declared.presence.Presence.TheVariants.{Absent}
use Rattle.posting_rules.specs.declared.open_fault.OpenFault.{OpenFault}
use Rattle.posting_rules.specs.declared.open_fault.OpenFault.TheVariants.{NotBlank}

-- a bank with nothing in it is there, whatever a crash leaves, and every table that was there is there, with
-- its rows, and nothing else is
pub record BankIsMade (old new : State) : Type 0 where
  pub shows : Shows new.now new_tables
  pub left : (left : Trees) → new.may_leave left → ShowsTrees left new_tables
  pub keeps : KeepsTables old.now new.now
  pub alone : IsAlone old.now new.now

-- What holds of a bank that is made over a connection: it is up and stands at the empty log, none was there
-- and none of its tables, and every table that was there is there, with its rows, and nothing else is.
pub record IsNewBank {S : Type 0} (g : Ghosts S) (conn : Held S) (bank : Bank S g) : Type 0 where
  pub stands : (bank_seen g bank).honest → StandsAt (bank_seen g bank) []
  pub keeps : HasCleanDisk (file_of bank) → KeepsTables (state g conn).now (file_of bank).now
  pub alone : HasCleanDisk (file_of bank) → IsAlone (state g conn).now (file_of bank).now
  pub blank : HasCleanDisk (file_of bank) → IsPresent (state g conn).now all_probes Absent
  pub new : HasCleanDisk (file_of bank) → (tables : Tables) → Shows (state g conn).now tables → ⊥
  pub up : (bank_seen g bank).is_down → ⊥

-- a statement that makes the bank is refused in a database on the way, by an error that isn't the store's own
abbrev pub IsRefusedOnTheWay : State → Type 0
IsRefusedOnTheWay old = (e : Error) × (db : Database) × (of_the_store e ≡ false) × RefusedIn old db e

-- why there is something already: one of the tables is there, or the bank can't be made
abbrev pub IsTaken : State → Type 0
IsTaken old = OneOf all_probes (IsReadable old.now) ⊎ IsRefusedOnTheWay old

-- where there is something already, everything is as it was
abbrev pub LeavesAll : State → State → OpenFault → Type 0
LeavesAll old new fault = fault ≡ NotBlank → IsAsBefore old new

-- What a call that makes the tables comes to: a bank is made, or, as long as the store is open, nothing has
-- changed. `Taken` says why there is something already. A crash leaves what it could leave before, or the new
-- bank.
pub record MakesBank {S : Type 0} (g : Ghosts S) (old new : Held S) (Taken : State → Type 0)
    (result : Result (Unit {0}) OpenFault) : Type 0 where
  pub made : HasCleanDisk (state g new) → OnOk result (BankIsMade (state g old) (state g new))
  pub undone : HasCleanDisk (state g new) → OnErr result (IsUndoneIfOpen (state g old) (state g new))
  pub fault : IfErr result IsUnmade
  pub refused : HasCleanDisk (state g new) → IfErr result (λ fault. fault ≡ NotBlank → Taken (state g old))
  pub cause : IfErr result (KnowsWhyUnmade g old new)
  pub survives : Survives (state g old) (state g new) (HasNewBank (state g old).now)
  pub mode : new.in_transaction ≡ false
