-- What a call on the tables of a bank reports, and what it leaves.
use Rattle.std.specs.Prelude.{◌≡◌, IsTrue, Bool, true, false, Option, Result, Ok, Err}
use Rattle.sqlite.specs.State.{State, IsUnchanged}
use Rattle.sqlite.specs.declared.error.Error.{Error}
use Rattle.posting_rules.specs.believed.Tables.{Tables}
use Rattle.posting_rules.specs.declared.fault.Rule.{Rule}
use Rattle.posting_rules.specs.declared.fault.Rule.TheVariants as rule
use Rattle.sqlite.specs.Schema.{Schema}
use Rattle.sqlite.specs.Table.{Table}
use Rattle.sqlite.specs.Tree.{Trees}
use Rattle.sql_meanings.specs.Making.{SparesStanding, SparesTables}
use Rattle.sql_meanings.specs.believed.Entries.{Entry}
use Rattle.sql_meanings.specs.StatementAnswers.{IsStoreError, GoesOn, PutFails, SetFails, has_unique}
use Rattle.store_rows.specs.declared.fault.TableFault.{TableFault}
use Rattle.store_rows.specs.declared.fault.TableFault.TheVariants.{Sqlite, Damaged}
use Rattle.store_rows.specs.declared.metas.StoredMeta.{StoredMeta}
use Rattle.store_rows.specs.believed.Stored.{FindsStored}
use Rattle.store_rows.specs.believed.View.{Shows}

-- what the stored row reads as is reported, and nothing has changed; or the store failed
abbrev pub Finds : {X : Type 0} → State → State → Option Entry → (Entry → Result X Rule) → Result (Option X) TableFault
    → Type 0
Finds old new stored read (Ok found) = FindsStored stored read (Ok found) × IsUnchanged old new
Finds old new stored read (Err (Sqlite e)) = IsStoreError old new e
Finds old new stored read (Err (Damaged broken)) = FindsStored stored read (Err (Damaged broken)) × IsUnchanged old new

-- the same of the row of the bank, whose numbers break no rule
abbrev pub FindsMeta : State → State → Option StoredMeta → Result (Option StoredMeta) TableFault → Type 0
FindsMeta old new wanted (Ok found) = (found ≡ wanted) × IsUnchanged old new
FindsMeta old new wanted (Err (Sqlite e)) = IsStoreError old new e
FindsMeta old new wanted (Err (Damaged broken)) = ⊥

-- a UNIQUE of the schema is on the table, and no sound file with this schema shows these tables
abbrev pub IsForbidden : Schema → Table → Tables → Type 0
IsForbidden schema table t = IsTrue (has_unique schema table)
    × ((trees : Trees) → ¬ Shows (record { schema = schema; trees = trees }) t)

-- the answer is whether there is such a row; the tables are these now, and every table but this one that
-- has a tree of its own is as it was
abbrev pub SetsRow : State → State → Table → Bool → Tables → Result Bool Error → Type 0
SetsRow old new table there after (Ok answer) = (answer ≡ there) × Shows new.now after × GoesOn old new
    × SparesStanding old.now new.now table.name
SetsRow old new table there after (Err e) = SetFails old new table (IsForbidden old.now.schema table after) e

-- the row is put in, if its key is free, and every table but this one is as it was; a taken key is reported,
-- and nothing has changed
abbrev pub PutsOneRow : State → State → Table → Bool → Tables → Result (Unit {0}) TableFault → Type 0
PutsOneRow old new table taken after (Ok done) = (taken ≡ false) × Shows new.now after × GoesOn old new
    × SparesTables old.now new.now table.name
PutsOneRow old new table taken after (Err (Sqlite e)) = PutFails old new table
    (IsForbidden old.now.schema table after) e
PutsOneRow old new table taken after (Err (Damaged broken)) = (broken ≡ rule.Key) × (taken ≡ true)
    × IsUnchanged old new

-- what was read of columns is this, or they break this rule; no row that was shown is told as a failed store
abbrev pub Gives : {X : Type 0} → Result X Rule → Result X TableFault → Type 0
Gives reading (Ok x) = reading ≡ Ok x
Gives reading (Err (Sqlite e)) = ⊥
Gives reading (Err (Damaged broken)) = reading ≡ Err broken
