-- Why rows can't be read: a call of `sqlite` failed, or a row breaks a rule.
use Rattle.std.specs.Prelude.{⊤}
use Rattle.sqlite.specs.Held.{Held}
use Rattle.sqlite_trees.specs.declared.store.Store.{Ghosts}
use Rattle.store_rows.specs.Failures.{HasFailedAtLast}
use Rattle.store_rows.specs.declared.fault.TableFault.{TableFault}
use Rattle.store_rows.specs.declared.fault.TableFault.TheVariants.{Sqlite, Damaged}

-- the rows are at fault, and no call of `sqlite` is
abbrev pub IsOfRows : TableFault → Type 0
IsOfRows (Sqlite e) = ⊥
IsOfRows (Damaged broken) = ⊤

-- an error of `sqlite` is one with which its last call failed, whatever the file holds
abbrev pub HasItsCause : {S : Type 0} → Ghosts S → Held S → Held S → TableFault → Type 0
HasItsCause g old new (Sqlite e) = HasFailedAtLast g old new e
HasItsCause g old new (Damaged broken) = ⊤
