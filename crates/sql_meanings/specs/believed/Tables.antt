-- A table that a schema defines, and the rows that a database holds of it.
use Rattle.sql_meanings.specs.Names.{ℕ, List, length, filter, Option, Some, slice_get, option_map}
use Rattle.sql_meanings.specs.Names.{option_and_then, unwrap_or, AllByRecursion, kind_code, Schema, Table, Database}
use Rattle.sql_meanings.specs.Names.{table_named}
use Rattle.sql_meanings.specs.believed.Entries.{Entry, IsTree}
use Rattle.std.specs.Prelude.{◌≡◌, ◌==◌, ◌-◌}

-- the table that the name finds
abbrev pub table_of : Schema → List ℕ → Option Table
table_of schema name = option_and_then (slice_get schema.tables) (table_named schema name)

-- the tree that holds its rows
abbrev pub tree_of : Schema → List ℕ → ℕ
tree_of schema name = unwrap_or (option_map (λ t. t.tree) (table_of schema name)) 0

-- the table with its rows in this tree
abbrev pub placed_at : Table → ℕ → Table
placed_at table tree = record table { tree = tree }

-- the name finds this table, but for its tree, and no other table has that tree
pub record Defines (schema : Schema) (table : Table) : Type 0 where
  pub found : table_of schema table.name ≡ Some (placed_at table (tree_of schema table.name))
  pub apart : AllByRecursion (λ t. t.tree ≡ tree_of schema table.name
      → t ≡ placed_at table (tree_of schema table.name)) schema.tables

-- how many of its columns are TEXT
abbrev pub texts_of : Table → ℕ
texts_of table = length (filter (λ c. kind_code c.kind == 3) table.columns)

-- how many columns of numbers it has beside its key, and how many of texts after them
abbrev pub width_of : Table → ℕ × ℕ
width_of table = (length table.columns - 1 - texts_of table, texts_of table)

-- the table is defined, and has these rows
pub record Holds (db : Database) (table : Table) (entries : List Entry) : Type 0 where
  pub defined : Defines db.schema table
  pub rows : IsTree (width_of table) (db.trees (tree_of db.schema table.name)) entries
