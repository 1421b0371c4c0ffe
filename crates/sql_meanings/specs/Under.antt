-- The rows of a table as they lie in its tree, whatever values they have and in whatever order.
use Rattle.sql_meanings.specs.Names.{ℤ, List, [], filter, false, Row, Schema, Table, Database}
use Rattle.sqlite.specs.Tree.{has_rowid}
use Rattle.sql_meanings.specs.believed.Tables.{Defines, tree_of}
use Rattle.std.specs.Prelude.{◌≡◌, ◌≢◌, ◌^◌, nat_le}

-- the schema defines the table, in a tree below those that a query makes for itself
pub record IsStored (schema : Schema) (table : Table) : Type 0 where
  pub defined : Defines schema table
  pub low : nat_le (2 ^ 31) (tree_of schema table.name) ≡ false

-- the rows of the table, as they lie
abbrev pub rows_of : Database → Table → List Row
rows_of db table = db.trees (tree_of db.schema table.name)

-- those that lie under a key
abbrev pub rows_under : Database → Table → ℤ → List Row
rows_under db table k = filter (has_rowid k) (rows_of db table)

-- the schema is as it was, and every other table that it defines has the rows that it had
pub record OthersStay (old new : Database) (table : Table) : Type 0 where
  pub schema : new.schema ≡ old.schema
  pub rows : (other : Table) → other.references ≡ [] → other.name ≢ table.name → Defines old.schema other
      → rows_of new other ≡ rows_of old other
