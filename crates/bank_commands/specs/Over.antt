-- What becomes of the connection that a command is given, over any store: g says what the store shows, conn is the
-- connection as it was given, and back as it is handed back.
use Rattle.std.specs.Prelude.{◌≡◌, ◌⊎◌, List, Result, Err, IsErrAnd}
use Rattle.sqlite.specs.Held.{Held, state}
use Rattle.sqlite.specs.State.{HasCleanDisk, Survives}
use Rattle.sqlite_trees.specs.declared.store.Store.{Ghosts}
use Rattle.posting_rules.specs.believed.Commands.{Command}
use Rattle.posting_rules.specs.believed.Counter.{LeavesOnly, ShowsLog, StandsAt}
use Rattle.posting_rules.specs.believed.Tables.{AreTablesOf}
use Rattle.posting_rules.specs.declared.open_fault.OpenFault.TheVariants.{NotBlank, Store}
use Rattle.store_rows.specs.Creation.{HasNewBank, IsEmpty}
use Rattle.bank_store.specs.Connections.{IsGivenBack, conn_seen}
use Rattle.bank_store.specs.FoundBank.{IsTakenUp, Misses}
use Rattle.bank_store.specs.Migration.{HasCarriedOver, IsMigrated, KnowsAnswer, LeavesBank, Misplaces}
use Rattle.bank_store.specs.NewBank.{IsNewBank, IsTaken}
use Rattle.bank_store.specs.OpenFaults.{IsUnmade}
use Rattle.bank_store.specs.believed.Seen.{connection_of, file_of}
use Rattle.bank_store.specs.OpenBankSparing.{SparesWhileOpen}
use Rattle.bank_store.specs.StoreFaults.{KnowsCause, KnowsWhyUnmade}
use Rattle.bank_store.specs.declared.bank.Bank.{Bank}
use Rattle.bank_store.specs.declared.migration.Migrated.{Migrated}
use Rattle.bank_store.specs.declared.refused.Refused.{Refused}
use Rattle.command_line.specs.CommandFaults.{fault_of_opening}
use Rattle.command_line.specs.declared.fault.CommandFault.{CommandFault}

-- ---- a bank is had, and what a crash may leave of the connection

-- the one that is there
pub record IsFoundOver {S : Type 0} (g : Ghosts S) (conn : Held S) (bank : Bank S g) : Type 0 where
  pub found : IsTakenUp g conn bank
  pub survives : Survives (state g conn) (file_of bank) (λ _. ⊥)

-- a new one
pub record IsMadeOver {S : Type 0} (g : Ghosts S) (conn : Held S) (bank : Bank S g) : Type 0 where
  pub made : IsNewBank g conn bank
  pub survives : Survives (state g conn) (file_of bank) (HasNewBank (state g conn).now)

-- one that was carried over, or is of this version already
pub record IsMigratedOver {S : Type 0} (g : Ghosts S) (conn : Held S) (migrated : Migrated) (bank : Bank S g)
    : Type 0 where
  pub is : IsMigrated g conn (bank, migrated)
  pub survives : Survives (state g conn) (file_of bank) (HasCarriedOver (state g conn))

-- ---- none is had: why, what the connection shows that comes back, and what a crash may leave of it

-- none is there
pub record IsMissedOver {S : Type 0} (g : Ghosts S) (conn : Held S) (refused : Refused S) : Type 0 where
  pub missed : HasCleanDisk (state g refused.conn) → Misses (state g conn) refused.fault
  pub cause : KnowsCause g conn refused.conn refused.fault
  pub known : HasCleanDisk (state g refused.conn) → (log : List Command) → ShowsLog (conn_seen g conn) log
      → refused.fault ≡ Store
  pub back : IsGivenBack g conn refused
  pub remains : HasCleanDisk (state g refused.conn) → (log : List Command) → StandsAt (conn_seen g conn) log
      → LeavesOnly (conn_seen g refused.conn) (λ tables. AreTablesOf tables log)
  pub survives : Survives (state g conn) (state g refused.conn) (λ _. ⊥)

-- none was made
pub record IsUnmadeOver {S : Type 0} (g : Ghosts S) (conn : Held S) (refused : Refused S) : Type 0 where
  pub fault : IsUnmade refused.fault
  pub taken : HasCleanDisk (state g refused.conn) → refused.fault ≡ NotBlank → IsTaken (state g conn)
  pub cause : KnowsWhyUnmade g conn refused.conn refused.fault
  pub empty : HasCleanDisk (state g refused.conn) → IsEmpty (state g conn).now → refused.fault ≡ Store
  pub back : IsGivenBack g conn refused
  pub survives : Survives (state g conn) (state g refused.conn) (HasNewBank (state g conn).now)

-- none was carried over, and none is of this version
pub record IsUnmovedOver {S : Type 0} (g : Ghosts S) (conn : Held S) (refused : Refused S) : Type 0 where
  pub misplaced : HasCleanDisk (state g refused.conn) → Misplaces (state g conn) refused.fault
  pub cause : KnowsCause g conn refused.conn refused.fault
  pub known : KnowsAnswer g conn (Err refused)
  pub back : IsGivenBack g conn refused
  pub remains : LeavesBank g conn refused
  pub survives : Survives (state g conn) (state g refused.conn) (HasCarriedOver (state g conn))

-- ---- what a command does with the connection

-- the connection comes back as it was refused, and the fault is the refusal's
pub record IsRefusedOver {S : Type 0} (Why : Refused S → Type 0) (back : Held S) (fault : CommandFault)
    : Type 0 where
  pub refused : Refused S
  pub conn : back ≡ refused.conn
  pub reason : fault ≡ fault_of_opening refused.fault
  pub why : Why refused

-- a bank was had, all that was done with it is Did, and its connection comes back
pub record WorksOver {S : Type 0} (g : Ghosts S) (Did : Bank S g → Bank S g → Type 0) (back : Held S)
    : Type 0 where
  pub first : Bank S g
  pub last : Bank S g
  pub did : Did first last
  pub conn : back ≡ connection_of last

-- no bank was had, and Idle holds; or one was
abbrev pub RunsOver : {S X : Type 0} (g : Ghosts S) → (Refused S → Type 0) → Held S → Result X CommandFault
    → (Idle : Type 0) → (Did : Bank S g → Bank S g → Type 0) → Type 0
RunsOver g Why back end Idle Did = (IsErrAnd end (IsRefusedOver Why back) × Idle) ⊎ WorksOver g Did back

-- the same of a command that takes up the bank that is there; however it ends, it spares the tables of other products
abbrev pub FindsOver : {S X : Type 0} (g : Ghosts S) → (conn back : Held S) → Result X CommandFault
    → (Idle : Type 0) → (Did : Bank S g → Bank S g → Type 0) → Type 0
FindsOver g conn back end Idle Did =
    RunsOver g (IsMissedOver g conn) back end Idle (λ old new. IsFoundOver g conn old × Did old new)
    × SparesWhileOpen g conn back
