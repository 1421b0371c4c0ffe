-- What CREATE TABLE leaves, and when it is refused.
use Rattle.sql_meanings.specs.Names.{IsTrue, IsUtf8, List, ℕ, [], Bool, true}
use Rattle.sql_meanings.specs.Names.{false, codes, length, Ok, Err, None, slice_range, list_any, Schema, Table}
use Rattle.sql_meanings.specs.Names.{CreateTable, automatics, created, is_used, next_tree, lacks_sequence}
use Rattle.sql_meanings.specs.Names.{sequence_text, Database, Error, SqliteFailure, SqlInputError, SchemaTooBig, Text}
use Rattle.sql_meanings.specs.Names.{understood, table_defined_by, Compiled, CompileError, IsBadName, is_fit}
use Rattle.sql_meanings.specs.Names.{is_formed, Index, table_reals, Has}
use Rattle.std.specs.Prelude.{◌*◌, ◌≡◌, ◌≢◌, ◌⊎◌, ◌+◌, ◌^◌, ◌<◌, ◌≤◌, ◌==◌}
use Rattle.sqlite.specs.declared.error.ErrorCode.TheVariants.{NameTaken}
use Rattle.sql_meanings.specs.believed.Tables.{placed_at, tree_of}
use Rattle.sql_meanings.specs.believed.Making.{Stands}

-- every table is kept with its rows, and each that had its tree to itself still has
pub record KeepsWhatStood (old after : Database) : Type 0 where
  pub stands : (t : Table) → Stands old.schema t → Stands after.schema t
  pub has : (t : Table) → Has old.schema.tables t → Has after.schema.tables t
  pub rows : (t : Table) → Has old.schema.tables t → after.trees t.tree ≡ old.trees t.tree

-- a table of the schema counts its rows, by AUTOINCREMENT
abbrev pub counts_rows : Schema → Bool
counts_rows schema = list_any (λ t. t.is_counted) schema.tables

-- a schema has the table more, and the one that counts for AUTOINCREMENT, where a table needs it and there is none
abbrev pub IsGrown : Schema → Table → Schema → Type 0
IsGrown old t new =
    ((lacks_sequence (created old t) ≡ false) × (new ≡ created old t))
    ⊎ (IsTrue (lacks_sequence (created old t)) × (counts : Table) × (table_defined_by sequence_text ≡ Ok counts)
    × (new ≡ created (created old t) counts))

-- the table is new and empty, and the others are kept; nothing else is new, but for the one that counts
pub record AddsTable (old after : Database) (t : Table) : Type 0 where
  pub keeps : KeepsWhatStood old after
  pub stands : Stands after.schema (placed_at t (next_tree old.schema))
  pub empty : after.trees (next_tree old.schema) ≡ []
  pub grown : IsGrown old.schema t after.schema

-- a table of no REAL column, short enough that any schema takes it that has its names free and room for it
pub record IsMakeable (text : List ℕ) (t : Table) : Type 0 where
  pub defined : table_defined_by text ≡ Ok t
  pub utf8 : IsUtf8 text
  pub allowed : ¬ IsBadName t.name (length t.uniques == 0)
  pub integral : table_reals t ≡ 0
  pub formed : is_formed t ≡ true
  pub fit : is_fit (Text (codes "table")) (Text t.name) (Text t.name) (Text text) ≡ true
  pub short : 2 * length t.name + length text + 200 < 10 ^ 9

-- it is this one command, whole, with no parameters, which returns nothing and reads no time
pub record IsCreation (text : List ℕ) (c : Compiled) : Type 0 where
  pub command : c.command ≡ CreateTable
  pub bare : c.returning ≡ None
  pub timeless : c.formats ≡ []
  pub text_is : slice_range text c.start c.end ≡ text
  pub whole : length text ≤ c.tail
  pub nameless : c.names ≡ []

-- the text is a CREATE TABLE of this table, under any schema that takes it
pub record CreatesOnly (text : List ℕ) (t : Table) : Type 0 where
  pub makeable : IsMakeable text t
  pub free : t.references ≡ []
  pub command : (schema : Schema) (c : Compiled) → understood schema text ≡ Ok c → IsCreation text c

-- a new table is refused: a name of its own is taken, or the file has no room for its trees
abbrev pub RefusesNew : Schema → Table → Error → Type 0
RefusesNew schema t e =
    ((e ≡ SqliteFailure NameTaken)
    × ((is_used schema t.name ≡ true)
    ⊎ ((i : Index) × Has (automatics t 0 0 t.uniques) i × (is_used schema i.name ≡ true))))
    ⊎ ((e ≡ SqliteFailure SchemaTooBig) × (65536 ≤ next_tree schema + length t.uniques))

-- A CREATE TABLE is refused: under the schema the text isn't understood, as where an index has the name; or
-- the table is refused, or the one that counts for AUTOINCREMENT, where a table needs it and there is none.
abbrev pub NotMade : Schema → List ℕ → Table → Error → Type 0
NotMade schema text t e =
    ((fault : CompileError) × (understood schema text ≡ Err fault) × (e ≡ SqlInputError fault))
    ⊎ (RefusesNew schema t e
    ⊎ (IsTrue (lacks_sequence (created schema t)) × (counts : Table)
    × (table_defined_by sequence_text ≡ Ok counts)
    × RefusesNew (created schema t) counts e))

-- every table that was there is there, with its rows
abbrev pub KeepsTables : Database → Database → Type 0
KeepsTables old new = (t : Table) → Has old.schema.tables t → Has new.schema.tables t ×
    (new.trees t.tree ≡ old.trees t.tree)

-- every table but the one of this name is there, with its rows
abbrev pub SparesTables : Database → Database → List ℕ → Type 0
SparesTables old new name = (t : Table) → Has old.schema.tables t → t.tree ≢ tree_of old.schema name
    → Has new.schema.tables t × (new.trees t.tree ≡ old.trees t.tree)

-- every table but the one of this name is there, with its rows, unless a foreign key of its own acts
abbrev pub SparesStanding : Database → Database → List ℕ → Type 0
SparesStanding old new name = (t : Table) → Stands old.schema t → t.tree ≢ tree_of old.schema name
    → Stands new.schema t × (new.trees t.tree ≡ old.trees t.tree)
