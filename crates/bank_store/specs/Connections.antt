-- A connection that no bank holds: what it is seen as, and whether it is as it was.
use Rattle.std.specs.Prelude.{◌≡◌, ◌≢◌, IsTrue, false, Result, Ok, Err}
use Rattle.sqlite.specs.State.{State, HasCleanDisk, Shows as StateShows}
use Rattle.sqlite.specs.Held.{Held, state}
use Rattle.sqlite_trees.specs.declared.store.Store.{Ghosts}
use Rattle.posting_rules.specs.believed.Counter.{Seen}
use Rattle.bank_store.specs.believed.Seen.{seen_in}
use Rattle.bank_store.specs.declared.bank.Bank.{Bank}
use Rattle.posting_rules.specs.declared.open_fault.OpenFault.{OpenFault}
use Rattle.posting_rules.specs.declared.open_fault.OpenFault.TheVariants.{Store}
use Rattle.bank_store.specs.declared.refused.Refused.{Refused}

-- a connection that no bank holds is never down
abbrev pub conn_seen : {S : Type 0} (g : Ghosts S) → Held S → Seen
conn_seen g conn = seen_in (state g conn) ⊥

-- what the connection shows that is given back, in a bank or alone
abbrev pub state_in : {S : Type 0} (g : Ghosts S) → Result (Bank S g) (Refused S) → State
state_in g (Ok bank) = state g bank.conn
state_in g (Err refused) = state g refused.conn

-- the store was open and is, and everything is as it was
abbrev pub IsAsBefore : State → State → Type 0
IsAsBefore old new = StateShows old new old.now old.committed old.in_transaction

-- as long as the store is open, everything is as it was
abbrev pub IsUndoneIfOpen : State → State → Type 0
IsUndoneIfOpen old new = IsTrue new.is_open → IsAsBefore old new

-- everything is as it was; where the store failed, as long as it is open
abbrev pub IsReadOnly : {X : Type 0} → State → State → Result X OpenFault → Type 0
IsReadOnly old new (Err Store) = IsUndoneIfOpen old new
IsReadOnly old new _ = IsAsBefore old new

-- What holds of a connection that is given back, in which no bank is made or found: it is outside a
-- transaction, and shows what it showed. Only a fault of the store can have shut the store.
pub record IsGivenBack {S : Type 0} (g : Ghosts S) (old : Held S) (refused : Refused S) : Type 0 where
  pub idle : refused.conn.in_transaction ≡ false
  pub same : HasCleanDisk (state g refused.conn) → refused.fault ≢ Store
      → IsAsBefore (state g old) (state g refused.conn)
  pub undone : HasCleanDisk (state g refused.conn) → IsUndoneIfOpen (state g old) (state g refused.conn)
