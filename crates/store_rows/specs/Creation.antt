-- The tables of a bank come to be, beside whatever the file has.
use Rattle.std.specs.Prelude.{◌≡◌, ◌≢◌, ◌⊎◌, List, [], ◌∷◌, codes, fold, length, map, take, slice_get, false}
use Rattle.std.specs.Prelude.{Some, Result, Ok, Err, ℕ}
use Rattle.std.specs.List.{AllByRecursion}
use Rattle.sqlite.specs.Schema.{Schema}
use Rattle.sqlite.specs.Table.{Table}
use Rattle.sqlite.specs.Tree.{Trees}
use Rattle.sqlite.specs.Change.{created}
use Rattle.sqlite.specs.Effect.{Database, IsDatabase}
use Rattle.sqlite.specs.State.{State, Fails, KeepsCounts}
use Rattle.sqlite.specs.declared.error.Error.{Error}
use Rattle.sqlite.specs.declared.error.Error.TheVariants.{SqliteFailure}
use Rattle.sqlite.specs.declared.error.ErrorCode.TheVariants.{ConstraintViolation}
use Rattle.sqlite_schema.specs.declared.schema.Constraint.TheVariants.{Unique}
use Rattle.sqlite_rules.specs.Lists.{Has}
use Rattle.posting_rules.specs.believed.Tables.{Tables}
use Rattle.sql_meanings.specs.Making.{IsGrown, KeepsTables, KeepsWhatStood, NotMade, SparesTables, counts_rows}
use Rattle.sql_meanings.specs.StatementAnswers.{GoesOn, HasWideIndex, IsInterrupted, IsUndone, NamesCause, PutFails}
use Rattle.sql_meanings.specs.believed.Tables.{tree_of}
use Rattle.store_rows.specs.TableAnswers.{IsForbidden}
use Rattle.sql_meanings.specs.believed.Contents.{HoldsEach}
use Rattle.sql_meanings.specs.believed.Entries.{Entry}
use Rattle.store_rows.specs.believed.BankTables as bank
use Rattle.store_rows.specs.declared.texts.TheConstants as text
use Rattle.store_rows.specs.believed.View.{Shows}

-- the texts that make the tables of a bank, each with its table, in the order of `bank_tables`
abbrev pub all_texts : List (List ℕ × Table)
all_texts =
    (text.MAKE_META.now, bank.meta) ∷ (text.MAKE_BRANCH.now, bank.branch)
    ∷ (text.MAKE_TELLER.now, bank.teller) ∷ (text.MAKE_ACCOUNT.now, bank.account)
    ∷ (text.MAKE_HISTORY.now, bank.history) ∷ (text.MAKE_REQUEST.now, bank.request)
    ∷ (text.MAKE_FLOOR.now, bank.floor) ∷ (text.MAKE_REFERENCE.now, bank.reference)
    ∷ (text.MAKE_CLOSING.now, bank.closing) ∷ []

-- ---- tables that are made one after another, each by its text

-- no rows in each of them
abbrev pub no_rows : List (List ℕ × Table) → List (List Entry)
no_rows texts = map (λ it. []) texts

-- a sound database defines these tables, and they have no rows
pub record AreEmpty (texts : List (List ℕ × Table)) (db : Database) : Type 0 where
  pub sound : ∥ IsDatabase db ∥₁
  pub each : HoldsEach db (map (λ it. it.1) texts) (no_rows texts)

-- the schema with the first so many of them more, and nothing else
abbrev pub with_first : List (List ℕ × Table) → ℕ → Schema → Schema
with_first texts n schema = fold (λ s it. created s it.1) schema (take n texts)

-- the rows of this table are in a tree that no table of the old schema has
abbrev pub IsApart : Schema → Schema → Table → Type 0
IsApart old new table = (t : Table) → Has old.tables t → t.tree ≢ tree_of new table.name

-- one schema grows to the other as these tables are made, one after another
abbrev pub AreGrown : List (List ℕ × Table) → Schema → Schema → Type 0
AreGrown [] old new = new ≡ old
AreGrown (it ∷ its) old new = (mid : Schema) × IsGrown old it.1 mid × AreGrown its mid new

-- These tables are there and empty, and every table that was there is there, with its rows. Where no table
-- counts its rows, nothing else is new.
pub record TablesAreMade (texts : List (List ℕ × Table)) (old new : Database) : Type 0 where
  pub empty : AreEmpty texts new
  pub keeps : KeepsWhatStood old new
  pub alone : counts_rows old.schema ≡ false → new.schema ≡ with_first texts (length texts) old.schema
  pub apart : AllByRecursion (λ it. IsApart old.schema new.schema it.1) texts

-- The first so many of these tables are made, and the next is refused under the schema as it is now, to which
-- that has grown by those tables.
pub record RefusesNext (texts : List (List ℕ × Table)) (old now : Schema) (e : Error) : Type 0 where
  pub made : ℕ
  pub next : List ℕ × Table
  pub is_next : slice_get texts made ≡ Some next
  pub grown : AreGrown (take made texts) old now
  pub refused : NotMade now next.0 next.1 e

-- All were made. Or the store failed, and the transaction is rolled back; or one is refused, beside what was
-- there and those before it.
abbrev pub MakesAll : List (List ℕ × Table) → State → State → Result (Unit {0}) Error → Type 0
MakesAll texts old new (Ok done) = TablesAreMade texts old.now new.now × GoesOn old new × KeepsCounts old new
MakesAll texts old new (Err e) =
    Fails old new ⊥ e ⊎ (RefusesNext texts old.now.schema new.now.schema e × KeepsTables old.now new.now
    × GoesOn old new × KeepsCounts old new)

-- ---- a new bank

-- the tables of a new bank: nothing is decided, and nothing is open
abbrev pub new_tables : Tables
new_tables = record {
  decided = 0;
  branches = [];
  tellers = [];
  accounts = [];
  history = [];
  requests = [];
  floors = [];
  references = [];
  closings = [];
}

-- the first row is there, and every table but meta is as it was; or why the row can't be put in
abbrev pub StartsBank : State → State → Result ℕ Error → Type 0
StartsBank old new (Ok count) =
    Shows new.now new_tables × SparesTables old.now new.now (codes "meta") × (new.now.schema ≡ old.now.schema)
StartsBank old new (Err e) = PutFails old new bank.meta (IsForbidden old.now.schema bank.meta new_tables) e

-- once the tables are made, an index of meta has more columns than can be stored
abbrev pub MakesWide : Database → Type 0
MakesWide old = (made : Database) × TablesAreMade all_texts old made × HasWideIndex made.schema bank.meta

-- A statement is refused in this database: one of the tables, where only those before it were made; or the
-- first row, since the limit on steps was met, or since a UNIQUE of the file's own allows no such row.
abbrev pub RefusedIn : State → Database → Error → Type 0
RefusedIn old db e =
    (RefusesNext all_texts old.now.schema db.schema e × KeepsTables old.now db)
    ⊎ ((IsInterrupted old e ⊎ ((e ≡ SqliteFailure (ConstraintViolation Unique))
    × IsForbidden db.schema bank.meta new_tables)) × TablesAreMade all_texts old.now db)

-- where no table counts its rows, the tables of a bank are new, and nothing else is
abbrev pub IsAlone : Database → Database → Type 0
IsAlone old new = counts_rows old.schema ≡ false
    → new.schema ≡ with_first all_texts (length all_texts) old.schema

-- The tables of a new bank are there, and every table that was there is there, with its rows, and nothing
-- else is. Or the store failed, and the transaction is rolled back; or a statement is refused in the database
-- as it is now.
abbrev pub CreatesBank : State → State → Result (Unit {0}) Error → Type 0
CreatesBank old new (Ok done) = Shows new.now new_tables × KeepsTables old.now new.now
    × IsAlone old.now new.now
CreatesBank old new (Err e) =
    Fails old new (MakesWide old.now) e ⊎ (RefusedIn old new.now e × GoesOn old new × KeepsCounts old new)

-- why there is no new bank: the store failed, or a statement was refused in a database on the way; and all is
-- undone
abbrev pub CreationFails : State → State → Error → Type 0
CreationFails old new e = (NamesCause old new (MakesWide old.now) e ⊎ ((db : Database) × RefusedIn old db e))
    × IsUndone old new

-- no table, no index and no view is there
abbrev pub IsEmpty : Database → Type 0
IsEmpty db = db.schema ≡ record { tables = []; indexes = []; views = [] }

-- the tables of a new bank, of bare trees
abbrev pub HasNewBank : Database → Trees → Type 0
HasNewBank old trees = (schema : Schema) × Shows (record { schema = schema; trees = trees }) new_tables
    × KeepsTables old (record { schema = schema; trees = trees })
