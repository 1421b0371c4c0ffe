-- What the calls of a bank leave of the tables of other products, whatever rows its file holds.
use Rattle.std.specs.Prelude.{◌≡◌, IsTrue}
use Rattle.sqlite.specs.State.{State, HasCleanDisk, Survives}
use Rattle.sqlite_trees.specs.declared.store.Store.{Ghosts}
use Rattle.store_rows.specs.believed.Sparing.{SparesOthers}
use Rattle.bank_transactions.specs.believed.Doing.{LeavesOthers}
use Rattle.bank_store.specs.believed.Seen.{bank_seen, file_of}
use Rattle.bank_store.specs.declared.bank.Bank.{Bank}

-- From the bank before to the bank after, of which is_down says whether it is down, and file what its file shows
pub record SparesTables {B : Type 0} (is_down : B → Type 0) (file : B → State) (old new : B) : Type 0 where
  -- one that was down is the bank that it was
  pub untried : is_down old → new ≡ old
  -- the tables are as they were, where the bank is down as long as its store is open
  pub now : HasCleanDisk (file new) → (is_down new → IsTrue (file new).is_open)
      → SparesOthers (file old).now (file new).now
  -- a crash leaves what it could leave before, or them as they were
  pub left : Survives (file old) (file new) (LeavesOthers (file old).now)

abbrev pub SparesOtherTables : {S : Type 0} (g : Ghosts S) → Bank S g → Bank S g → Type 0
SparesOtherTables g old new = SparesTables (λ bank. (bank_seen g bank).is_down) file_of old new
