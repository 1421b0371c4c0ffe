-- What a transaction leaves that a fault ended.
use Rattle.std.specs.Prelude.{◌≡◌, IsTrue, OnErr, Result}
use Rattle.sqlite.specs.Held.{Held, state}
use Rattle.sqlite.specs.State.{State, HasCleanDisk}
use Rattle.sqlite_trees.specs.declared.store.Store.{Ghosts}
use Rattle.store_rows.specs.declared.fault.TableFault.{TableFault}

-- as long as the store is open, it was, and all is as it was
abbrev pub IsUndone : State → State → Type 0
IsUndone old new = IsTrue new.is_open → IsTrue old.is_open × (new.now ≡ old.now)

-- so it is after every fault
abbrev pub UndoesFaults : {S X : Type 0} (g : Ghosts S) → (old new : Held S) → Result X TableFault → Type 0
UndoesFaults g old new result = HasCleanDisk (state g new) → OnErr result (IsUndone (state g old) (state g new))
