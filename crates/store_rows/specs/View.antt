-- The rows that a database holds of one table.
use Rattle.std.specs.Prelude.{nat_abs, List}
use Rattle.sqlite.specs.Table.{Table}
use Rattle.sqlite.specs.Effect.{Database, IsDatabase}
use Rattle.posting_rules.specs.believed.Tables.{Tables}
use Rattle.sql_meanings.specs.believed.Entries.{Entry}
use Rattle.sql_meanings.specs.believed.Tables.{Holds}
use Rattle.store_rows.specs.declared.metas.TheConstants.{VERSION}
use Rattle.store_rows.specs.believed.View.{contents_of}

-- ---- the view

-- a sound database defines this table, and holds these rows of it by rising keys, whatever numbers they are
pub record HoldsRows (db : Database) (table : Table) (rows : List Entry) : Type 0 where
  pub sound : ∥ IsDatabase db ∥₁
  pub holds : Holds db table rows

-- ---- the view as the version that is ours

-- the rows of each table as a file holds them
abbrev pub contents : Tables → List (List Entry)
contents = contents_of (nat_abs VERSION)
