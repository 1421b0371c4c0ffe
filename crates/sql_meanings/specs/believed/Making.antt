-- How a table comes to be, and what is kept beside it.
use Rattle.sql_meanings.specs.Names.{[]}
use Rattle.sql_meanings.specs.Names.{Schema, Table}
use Rattle.sql_meanings.specs.Names.{Has}
use Rattle.std.specs.Prelude.{◌≡◌}

-- a table of the schema that has its tree to itself, and no foreign key
pub record Stands (schema : Schema) (table : Table) : Type 0 where
  pub listed : Has schema.tables table
  pub apart : (t : Table) → Has schema.tables t → t.tree ≡ table.tree → t ≡ table
  pub free : table.references ≡ []
