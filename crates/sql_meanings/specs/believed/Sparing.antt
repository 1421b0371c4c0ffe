-- What a statement leaves of the tables that it doesn't name, whatever file it runs on.
use Rattle.sql_meanings.specs.Names.{ℕ, List, codes, AllByRecursion, Database, Schema, Table}
use Rattle.sql_meanings.specs.believed.Making.{Stands}
use Rattle.sql_meanings.specs.believed.Tables.{tree_of}
use Rattle.std.specs.Prelude.{◌≡◌, ◌≢◌}

-- the table has its rows in another tree than the table of this name
abbrev pub IsNot : Schema → Table → List ℕ → Type 0
IsNot schema table name = table.tree ≢ tree_of schema name

-- The schema is as it was, and so are the rows of every table but those of these names, unless a foreign key of
-- its own acts.
pub record SparesAllBut (names : List (List ℕ)) (old new : Database) : Type 0 where
  pub schema : new.schema ≡ old.schema
  pub rows : (t : Table) → Stands old.schema t → AllByRecursion (IsNot old.schema t) names
      → new.trees t.tree ≡ old.trees t.tree

-- the table in which SQLite counts for AUTOINCREMENT
abbrev pub sequence_name : List ℕ
sequence_name = codes "sqlite_sequence"
