-- What reads of a bank leave of it.
use Rattle.std.specs.Prelude.{◌≡◌, OnOk, Result, Ok, Err, ⊤}
use Rattle.sqlite.specs.State.{HasCleanDisk, Survives}
use Rattle.sqlite_trees.specs.declared.store.Store.{Ghosts}
use Rattle.bank_store.specs.Leaving.{LeavesAsFound, TakesNone}
use Rattle.bank_store.specs.believed.Seen.{bank_seen, file_of}
use Rattle.bank_store.specs.Seen.{fault_of}
use Rattle.bank_store.specs.Walks.{IsStill, IsUntouchedIfOpen}
use Rattle.bank_store.specs.declared.bank.Bank.{Bank}

-- A bank was read: a crash leaves what it could leave before, and no fault brings it down. At Ok its connection
-- sees what it saw, and at a fault too, as long as the store is open.
pub record ReadsBank {S X E : Type 0} (g : Ghosts S) (old new : Bank S g) (result : Result X E) : Type 0 where
  pub survives : Survives (file_of old) (file_of new) (λ _. ⊥)
  pub still : HasCleanDisk (file_of new) → OnOk result (IsStill (file_of old) (file_of new))
  pub undone : HasCleanDisk (file_of new) → IsUntouchedIfOpen (file_of old) (file_of new)
  pub up : fault_of new ≡ fault_of old

-- there was no fault
abbrev pub HasAnswered : {X E : Type 0} → Result X E → Type 0
HasAnswered (Ok x) = ⊤
HasAnswered (Err fault) = ⊥

-- What that comes to, for who reads a bank: it was given no command, no fault brings it down, and as long as its store
-- is open, its database is the one that was found, whatever rows it has.
pub record IsOnlyRead {S X E : Type 0} (g : Ghosts S) (old new : Bank S g) (result : Result X E) : Type 0 where
  pub takes : TakesNone (bank_seen g old) (bank_seen g new) (HasAnswered result)
  pub up : fault_of new ≡ fault_of old
  pub leaves : LeavesAsFound g old new
