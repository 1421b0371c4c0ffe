-- A file of an earlier version on its way to this one.
use Rattle.std.specs.Prelude.{◌≡◌, ◌≤◌, ◌<◌, ◌+◌, ℕ, ℤ, pos, nat_abs, List, [], ◌∷◌, drop, Bool, false, is_some}
use Rattle.std.specs.Prelude.{Result, Ok, Err}
use Rattle.std.specs.List.{AllByRecursion}
use Rattle.sqlite.specs.Change.{is_used}
use Rattle.sqlite.specs.Does.{lacks_sequence}
use Rattle.sqlite.specs.Effect.{Database, IsDatabase}
use Rattle.sqlite.specs.Schema.{Schema}
use Rattle.sqlite.specs.State.{State}
use Rattle.sqlite.specs.Table.{Table}
use Rattle.sqlite.specs.declared.error.Error.{Error}
use Rattle.posting_rules.specs.believed.Tables.{Tables}
use Rattle.sql_meanings.specs.believed.Contents.{HoldsEach}
use Rattle.sql_meanings.specs.believed.Entries.{Entry}
use Rattle.sql_meanings.specs.Making.{KeepsWhatStood, SparesStanding}
use Rattle.sql_meanings.specs.StatementAnswers.{Forbids, GoesOn, SetFails}
use Rattle.sql_meanings.specs.believed.Tables.{Defines, Holds, tree_of}
use Rattle.store_rows.specs.believed.BankTables as bank
use Rattle.store_rows.specs.believed.BankTables.{bank_tables}
use Rattle.store_rows.specs.believed.Columns.{meta_in}
use Rattle.store_rows.specs.Creation.{AreEmpty, MakesAll, RefusesNext, all_texts, no_rows}
use Rattle.store_rows.specs.believed.View.{ShowsAs, meta_entry, rows_of}
use Rattle.store_rows.specs.View.{HoldsRows}
use Rattle.store_rows.specs.declared.metas.TheConstants.{VERSION}
use Rattle.store_rows.specs.declared.migration.TheConstants.{EARLIEST}

-- a sound database has the tables of this version with these rows, and `meta` has this version written
pub record HoldsTables (written : ℤ) (db : Database) (t : Tables) : Type 0 where
  pub sound : ∥ IsDatabase db ∥₁
  pub each : HoldsEach db bank_tables ((meta_entry written t.decided ∷ []) ∷ rows_of t)

-- the versions before this one, of which a file is carried over
abbrev pub IsEarlier : ℕ → Type 0
IsEarlier from = (nat_abs EARLIEST ≤ from) × (from < nat_abs VERSION)

-- the tables that a version lacks, each with the text that makes it: those after its own
abbrev pub lacking : ℕ → List (List ℕ × Table)
lacking from = drop (5 + from) all_texts

-- a bank of an earlier version: the tables that it lacks would have no rows
pub record ShowsLess (from : ℕ) (db : Database) (t : Tables) : Type 0 where
  pub shows : ShowsAs from db t
  pub none : drop (4 + from) (rows_of t) ≡ no_rows (lacking from)

-- ---- the tables that a version lacks

-- They are there and empty. Every table that was there is there, with its rows; what was defined is defined, and what
-- was held is held, in its tree. So where a bank of that version was, all tables of this version are.
pub record LackingAreMade (from : ℕ) (old new : Database) : Type 0 where
  pub empty : AreEmpty (lacking from) new
  pub keeps : KeepsWhatStood old new
  pub defines : (table : Table) → table.references ≡ [] → Defines old.schema table → Defines new.schema table
  pub holds : (table : Table) (es : List Entry) → table.references ≡ [] → Holds old table es → Holds new table es
  pub places : (table : Table) → table.references ≡ [] → Defines old.schema table
      → tree_of new.schema table.name ≡ tree_of old.schema table.name
  pub tables : (t : Tables) → ShowsLess from old t → HoldsTables (pos from) new t

-- one of them is refused by this error, under the schema to which this one grows by those before it
abbrev pub RefusesLacking : ℕ → Schema → Error → Type 0
RefusesLacking from schema e = (now : Schema) × RefusesNext (lacking from) schema now e

-- they are made; or the store failed, and the transaction is rolled back; or one is refused
abbrev pub MakesLacking : ℕ → State → State → Result (Unit {0}) Error → Type 0
MakesLacking from old new (Ok done) = LackingAreMade from old.now new.now × GoesOn old new
MakesLacking from old new (Err e) = MakesAll (lacking from) old new (Err e)

-- Nothing else has the name of one of them; and where a table counts its rows, the one in which SQLite counts is
-- there.
pub record TakesLacking (from : ℕ) (schema : Schema) : Type 0 where
  pub free : AllByRecursion (λ it. is_used schema it.1.name ≡ false) (lacking from)
  pub counts : lacks_sequence schema ≡ false

-- ---- the version

-- The answer is whether `meta` has the row of the bank. Where the tables are there, whichever version was
-- written, this one is now, and every other table that has a tree of its own is as it was; or why it isn't.
abbrev pub SetsVersion : ℤ → State → State → Result Bool Error → Type 0
SetsVersion version old new (Ok there) =
    ((rows : List Entry) → HoldsRows old.now bank.meta rows → there ≡ is_some (meta_in rows))
    × ((written : ℤ) (t : Tables) → HoldsTables written old.now t → HoldsTables version new.now t
    × GoesOn old new × SparesStanding old.now new.now bank.meta.name)
SetsVersion version old new (Err e) = (written : ℤ) (t : Tables) → HoldsTables written old.now t
    → SetFails old new bank.meta (Forbids old.now.schema bank.meta (meta_entry version t.decided ∷ [])) e
