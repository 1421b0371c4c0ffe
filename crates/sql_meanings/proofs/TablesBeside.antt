-- What a statement takes of a table that is defined, and what a step on one table leaves of the others.
use Rattle.sql_meanings.specs.Names.{ℕ, List, [], Some, None, Option, slice_get, false, option_and_then, table_named}
use Rattle.sql_meanings.specs.Names.{Schema, Table, Row, Database, IsDatabase}
use Rattle.sql_meanings.proofs.Names.{nat_le, refl, sym, ap, subst, ◌∙◌, ∥∥₁_elim, all_has}
use Rattle.std.specs.Coded.{coded_bool}
use Rattle.sql_meanings.proofs.{Statements.HasTable, Defining.defined_stands, Growing.low_tree}
use Rattle.sql_meanings.specs.{believed.Making.Stands, believed.Entries.Entry, believed.Entries.IsTree}
use Rattle.sql_meanings.proofs.TableStands.{found_apart, high_not}
use Rattle.sql_meanings.specs.believed.Tables.{Defines, Holds, placed_at, tree_of, width_of}
use base.Stored.{Coded-set}
use Rattle.sql_meanings.specs.Under.{IsStored}
use Rattle.std.specs.Prelude.{◌≡◌, ◌≢◌, ◌^◌}

-- the place of the table in the schema
pub record Standing (schema : Schema) (table : Table) : Type 0 where
  pub place : ℕ
  pub has : HasTable schema table.name place (placed_at table (tree_of schema table.name))
  pub stands : Stands schema (placed_at table (tree_of schema table.name))

record Found (schema : Schema) (table : Table) : Type 0 where
  pub place : ℕ
  pub named : table_named schema table.name ≡ Some place
  pub listed : slice_get schema.tables place ≡ Some (placed_at table (tree_of schema table.name))

found : (schema : Schema) (table : Table) → Defines schema table → Found schema table
found schema table d = go (table_named schema table.name) refl d.found
  where
    go : (o : Option ℕ) → table_named schema table.name ≡ o
        → option_and_then (slice_get schema.tables) o ≡ Some (placed_at table (tree_of schema table.name))
        → Found schema table
    go None is h = absurd (cc)
    go (Some p) is h = record { place = p; named = is; listed = h }

low : (db : Database) (table : Table) → table.references ≡ [] → ∥ IsDatabase db ∥₁ → Defines db.schema table
    → nat_le (2 ^ 31) (tree_of db.schema table.name) ≡ false
low db table free sound d =
    ∥∥₁_elim sound (Coded-set coded_bool _ _) (λ it. high_not (tree_of db.schema table.name)
    (low_tree db.schema db.trees (placed_at table (tree_of db.schema table.name)) it
    (defined_stands db.schema table free d).listed))

-- a table that is stored is found, and stands
pub standing_stored : (schema : Schema) (table : Table) → table.references ≡ [] → IsStored schema table
    → Standing schema table
standing_stored schema table free there =
    let at = found schema table there.defined in
    let stands = defined_stands schema table free there.defined in
    record {
      place = at.place;
      has = record {
        named = at.named;
        listed = at.listed;
        found = found_apart schema.tables (placed_at table (tree_of schema table.name)) stands.listed stands.apart;
        low = there.low;
      };
      stands = stands;
    }

-- a table that a sound database defines is stored
pub is_stored : (db : Database) (table : Table) → table.references ≡ [] → ∥ IsDatabase db ∥₁ → Defines db.schema table
    → IsStored db.schema table
is_stored db table free sound d = record { defined = d; low = low db table free sound d }

pub standing : (db : Database) (table : Table) → table.references ≡ [] → ∥ IsDatabase db ∥₁
    → Defines db.schema table
    → Standing db.schema table
standing db table free sound d =
    standing_stored db.schema table free (is_stored db table free sound d)

-- two names have two trees
pub trees_apart : (schema : Schema) (a b : Table) → a.references ≡ [] → b.references ≡ [] → Defines schema a
    → Defines schema b
    → a.name ≢ b.name → tree_of schema a.name ≢ tree_of schema b.name
trees_apart schema a b free free' p q other same =
    let ours = (defined_stands schema a free p).listed in
    let is : placed_at a (tree_of schema a.name) ≡ placed_at b (tree_of schema b.name) =
    all_has _ schema.tables (placed_at a (tree_of schema a.name)) q.apart ours same in
    other (ap (λ (t : Table). t.name) is)

-- one table has these rows now, and each other table what it had
pub record ChangesOneTable (old after : Database) (name : List ℕ) (rows : List Row) : Type 0 where
  pub schema : after.schema ≡ old.schema
  pub now : after.trees (tree_of old.schema name) ≡ rows
  pub others : (t : Table) → Stands old.schema t → t.tree ≢ tree_of old.schema name
      → after.trees t.tree ≡ old.trees t.tree

module _ (old after : Database) (table : Table) (rows : List Row) (steps : ChangesOneTable old after table.name rows)
    (free : table.references
    ≡ []) where
  -- the table that was written holds its rows
  pub stepped : (es : List Entry) → Defines old.schema table → IsTree (width_of table) rows es
      → Holds after table es
  stepped es d tree = record {
    defined = subst (λ s. Defines s table) (sym steps.schema) d;
    rows = subst (λ rs. IsTree (width_of table) rs es)
        (sym (ap (λ (s : Schema). after.trees (tree_of s table.name)) steps.schema
        ∙ steps.now)) tree;
  }

  -- every other holds what it held
  pub stayed : (other : Table) (es : List Entry) → other.references ≡ [] → other.name ≢ table.name
      → Defines old.schema table
      → Holds old other es → Holds after other es
  stayed other es free' apart d holds = record {
    defined = subst (λ s. Defines s other) (sym steps.schema) holds.defined;
    rows = subst (λ rs. IsTree (width_of other) rs es)
        (sym (ap (λ (s : Schema). after.trees (tree_of s other.name)) steps.schema
        ∙ steps.others (placed_at other (tree_of old.schema other.name))
        (defined_stands old.schema other free' holds.defined)
        (trees_apart old.schema other table free' free holds.defined d apart)))
        holds.rows;
  }
