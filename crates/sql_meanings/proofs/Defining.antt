-- 'A schema defines a table' is a proposition, and the same as that the table stands.
use Rattle.sql_meanings.specs.Names.{ℕ, [], Some, None, Option, slice_get, option_and_then, AllByRecursion-prop}
use Rattle.sql_meanings.specs.Names.{table_named, Schema, Table, Trees, IsSound, Has}
use Rattle.sql_meanings.proofs.Names.{sym, ap, ◌∙◌, all_has}
use Rattle.std.specs.Coded.{coded_option}
use Rattle.sqlite_catalog.proofs.AlterLemmas.{place_has}
use Rattle.sqlite_rules.proofs.ListLemmas.{all_from}
use Rattle.sql_meanings.specs.believed.{Making.Stands, Tables.Defines, Tables.table_of, Tables.tree_of}
use Rattle.sql_meanings.proofs.TableStands.{has_table}
use base.Stored.{Coded-set}
use mathlib.Core.HLevel.{Π_prop}
use Rattle.sqlite_schema.specs.contracts.schema.Table as table_row
use Rattle.std.specs.Prelude.{◌≡◌}

Table-set : IsSet Table
Table-set = Coded-set table_row.the_row.coded

abbrev alone_at : Table → ℕ → Table → Type 0
alone_at table tree t = t.tree ≡ tree → t ≡ record table { tree = tree }

alone_prop : (table : Table) (tree : ℕ) (t : Table) → IsProp (alone_at table tree t)
alone_prop table tree t = Π_prop {A = t.tree ≡ tree} (λ _. Table-set t (record table { tree = tree }))

-- that a schema defines a table is a proposition
pub Defines-prop : (schema : Schema) (table : Table) → IsProp (Defines schema table)
Defines-prop schema table =
    let sets : IsSet (Option Table) = Coded-set (coded_option table_row.the_row.coded) in
    let each = AllByRecursion-prop (alone_at table (tree_of schema table.name))
    (alone_prop table (tree_of schema table.name)) schema.tables in
    hlevel (sets, each)

-- a table that is defined stands
pub defined_stands : (schema : Schema) (table : Table) → table.references ≡ [] → Defines schema table
    → Stands schema (record table { tree = tree_of schema table.name })
defined_stands schema table free defines = record {
  listed = listed (table_named schema table.name) defines.found;
  apart = λ t h same. all_has _ schema.tables t defines.apart h same;
  free = free;
}
  where
    listed : (o : Option ℕ) → option_and_then (slice_get schema.tables) o ≡
        Some (record table { tree = tree_of schema table.name })
        → Has schema.tables (record table { tree = tree_of schema table.name })
    listed None h = absurd (cc)
    listed (Some at) h = place_has schema.tables at _ h

-- a table that stands in a sound schema is defined, in its tree
pub stands_defined : (schema : Schema) (db : Trees) (table : Table) → IsSound schema db → Stands schema table
    → (tree_of schema table.name ≡ table.tree) × Defines schema table
stands_defined schema db table sound stands =
    let it = (has_table schema db table sound stands).1 in
    let found : table_of schema table.name ≡ Some table = rw it.named it.listed in
    let tree : tree_of schema table.name ≡ table.tree = rw found in (
      tree,
      record {
        found = rw tree found;
        apart = all_from _ schema.tables (λ t h same. stands.apart t h (same ∙ tree)
            ∙ ap (λ n. record table { tree = n }) (sym tree));
      },
    )
