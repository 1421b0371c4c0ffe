-- What a bank in a file shows, and what a crash may leave of it.
use Rattle.std.specs.Prelude.{Option, Some, None, IsSome}
use Rattle.sqlite.specs.Tree.{Trees}
use Rattle.sqlite.specs.Effect.{Database}
use Rattle.sqlite.specs.State.{State, HasCleanDisk}
use Rattle.sqlite.specs.Held.{Held, state}
use Rattle.sqlite_trees.specs.declared.store.Store.{Ghosts}
use Rattle.sqlite.specs.declared.error.Error.{Error}
use Rattle.posting_rules.specs.believed.Counter.{Seen}
use Rattle.store_rows.specs.believed.View.{Shows, ShowsTrees}
use Rattle.store_rows.specs.declared.fault.TableFault.{TableFault}
use Rattle.store_rows.specs.declared.fault.TableFault.TheVariants.{Sqlite, Damaged}
use Rattle.bank_store.specs.declared.bank.Bank.{Bank}

-- its tables are those that its database shows, and what a crash leaves are the trees of its files
abbrev pub seen_in : State → Type 0 → Seen
seen_in s is_down = record {
  tables = λ t. Shows s.now t;
  is_down = is_down;
  Remains = Trees;
  left = s.may_leave;
  found = ShowsTrees;
  honest = HasCleanDisk s;
}

-- the connection that the bank holds
abbrev pub connection_of : {S : Type 0} {g : Ghosts S} → Bank S g → Held S
connection_of bank = bank.conn

-- the state of its file: what its connection shows, what a crash may leave, and whether the disk is clean
abbrev pub file_of : {S : Type 0} {g : Ghosts S} → Bank S g → State
file_of {g = g} bank = state g bank.conn

-- what a bank is seen as: it is down once a fault is kept
abbrev pub bank_seen : {S : Type 0} (g : Ghosts S) → Bank S g → Seen
bank_seen g bank = seen_in (file_of bank) (IsSome bank.fault)

-- all that its file holds, as its connection shows it
abbrev pub database_of : {S : Type 0} (g : Ghosts S) → Bank S g → Database
database_of g bank = (file_of bank).now

-- the error of `sqlite` in what brought a bank down, none where it was damage
abbrev pub error_in : Option TableFault → Option Error
error_in None = None
error_in (Some (Sqlite e)) = Some e
error_in (Some (Damaged rule)) = None

-- the error of `sqlite` that brought the bank down
abbrev pub cause_of : {S : Type 0} {g : Ghosts S} → Bank S g → Option Error
cause_of bank = error_in bank.fault
