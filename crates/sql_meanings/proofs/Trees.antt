-- Trees tell their schema, and what a database holds of a table is a proposition.
use Rattle.sql_meanings.specs.Names.{AllByRecursion, length, ℕ, List, AllByRecursion-prop, Schema, Table, Row, Trees}
use Rattle.sql_meanings.specs.Names.{Database, IsDatabase, IsSound}
use Rattle.sql_meanings.proofs.{Names.Less, Names.∥∥₁_elim, Defining.Defines-prop}
use Rattle.std.specs.Coded.{coded_ℕ}
use Rattle.sqlite_trees.specs.{Props.rows_set, Props.IsAscending-prop, Props.Ordering-set, Objects.catalog_tree}
use Rattle.sqlite_catalog.proofs.ReadLemmas.{lists_once}
use Rattle.sql_meanings.specs.believed.Entries.{HasWidth, Entry, IsTree, Rise}
use Rattle.sql_meanings.specs.believed.Tables.{Holds, tree_of, width_of}
use base.Stored.{Coded-set}
use Rattle.sqlite_schema.specs.contracts.schema.Schema as schema_row
use Rattle.std.specs.Prelude.{◌≡◌}

Schema-set : IsSet Schema
Schema-set = Coded-set schema_row.the_row.coded

pub nat_set : IsSet ℕ
nat_set = Coded-set coded_ℕ

-- that a tree is of these rows is a proposition
pub IsTree-prop : (width : ℕ × ℕ) (rows : List Row) (es : List Entry) → IsProp (IsTree width rows es)
IsTree-prop width rows es = let up : IsProp (Rise es) = IsAscending-prop _ (λ a b. Ordering-set _ Less) es in
    let wide : IsProp (AllByRecursion (λ e. HasWidth width e) es) = AllByRecursion-prop _
    (λ e. let one = nat_set (length e.values) width.0 in let two = nat_set (length e.texts) width.1 in
    hlevel (one, two)) es in
    hlevel (rows_set, up, wide)

-- what a database holds of a table is a proposition
pub Holds-prop : (db : Database) (table : Table) (es : List Entry) → IsProp (Holds db table es)
Holds-prop db table es = let one = Defines-prop db.schema table in
    let two = IsTree-prop (width_of table) (db.trees (tree_of db.schema table.name)) es in hlevel (one, two)

-- trees tell their schema
schema_once : (db : Trees) (s t : Schema) → IsSound s db → IsSound t db → s ≡ t
schema_once db s t p q = lists_once (db catalog_tree) s t p.lists q.lists

-- two sound databases over the same trees have one schema
pub same_schema : (db : Database) (other : Schema) → ∥ IsDatabase db ∥₁
    → ∥ IsDatabase (record { schema = other; trees = db.trees }) ∥₁
    → other ≡ db.schema
same_schema db other p q = ∥∥₁_elim p (Schema-set other db.schema)
    (λ ours. ∥∥₁_elim q (Schema-set other db.schema)
    (λ theirs. schema_once db.trees other db.schema theirs ours))
