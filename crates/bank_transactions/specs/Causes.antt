-- Which rule was broken first, and whom a fault blames.
use Rattle.std.specs.Prelude.{Result, Ok, Err, ⊤}
use Rattle.sqlite.specs.Held.{Held, state}
use Rattle.sqlite_trees.specs.declared.store.Store.{Ghosts}
use Rattle.store_rows.specs.believed.Rules.{IsBroken}
use Rattle.store_rows.specs.declared.fault.TableFault.{TableFault}
use Rattle.store_rows.specs.declared.fault.TableFault.TheVariants.{Sqlite, Damaged}
use Rattle.bank_transactions.specs.believed.{Causes.Damage, Causes.HasFailedBetween, Stray.IsDamage}

-- the rows that the file held at first break the rule
abbrev pub IsFirstBroken : {S : Type 0} → Ghosts S → Damage S
IsFirstBroken g old new rule = IsBroken rule (state g old).now

-- or one of them is stray
abbrev pub IsFirstDamaged : {S : Type 0} → Ghosts S → Damage S
IsFirstDamaged g old new rule = IsDamage rule (state g old).now

-- an error of `sqlite` is one with which a call of it failed, and damage says this
abbrev pub IsFault : {S : Type 0} → Damage S → Ghosts S → Held S → Held S → TableFault → Type 0
IsFault Says g old new (Sqlite e) = HasFailedBetween g old new e
IsFault Says g old new (Damaged rule) = Says old new rule

-- the same of an answer
abbrev pub Blames : {S X : Type 0} → Damage S → Ghosts S → Held S → Held S → Result X TableFault → Type 0
Blames Says g old new (Ok x) = ⊤
Blames Says g old new (Err fault) = IsFault Says g old new fault
