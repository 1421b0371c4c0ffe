-- A bank that is open spares the tables of other products.
use Rattle.std.specs.Prelude.{IsTrue}
use Rattle.sqlite.specs.Held.{Held, state}
use Rattle.sqlite.specs.State.{HasCleanDisk, Survives}
use Rattle.sqlite_trees.specs.declared.store.Store.{Ghosts}
use Rattle.store_rows.specs.believed.Sparing.{SparesOthers}
use Rattle.bank_transactions.specs.believed.Doing.{LeavesOthers}

-- From a connection to the connection that comes of it: they are as they were, as long as the store is open. A crash
-- leaves what it could leave before, or them as they were.
pub record SparesWhileOpen {S : Type 0} (g : Ghosts S) (old new : Held S) : Type 0 where
  pub now : HasCleanDisk (state g new) → IsTrue (state g new).is_open
      → SparesOthers (state g old).now (state g new).now
  pub left : Survives (state g old) (state g new) (LeavesOthers (state g old).now)
