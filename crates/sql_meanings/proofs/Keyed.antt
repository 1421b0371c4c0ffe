-- What a text means that reads or writes the row under its key, by what is computed of the text alone.
use Rattle.sql_meanings.specs.Names.{ℕ, ℤ, true, false, List, [], length, slice_get, Ok, Some, None, Schema, Table}
use Rattle.sql_meanings.specs.Names.{Term, col, op2, eval_all, Int, Expr, out-Expr, Expr-F, Inner, first, chosen}
use Rattle.sql_meanings.specs.Names.{nothing, declared, ungrouped, number, column_named, place_of, passes_checks}
use Rattle.sql_meanings.specs.Names.{Compare, Eq, Parsed, accepts_program, Row, Update}
use Rattle.sql_meanings.proofs.{Names.refl, Means.Means, Means.means, ReadTables.ReadsAs, SetRows.ChangesAs}
use Rattle.sql_meanings.proofs.{ShownColumns.outputs_at, Statements.HasTable, Texts.IsSelect, Texts.reads_by}
use Rattle.sqlite_value.specs.declared.keys.Collation.TheVariants.{Binary}
use Rattle.sql_meanings.specs.believed.Entries.{HasWidth, Entry, stored}
use Rattle.sql_meanings.specs.believed.{Plain.key_column, Tables.placed_at, Tables.texts_of, Tables.width_of}
use Rattle.sql_meanings.specs.Queries.{by_key, key_is, no_limit}
use Rattle.sql_meanings.proofs.ByKey.{Tests, key_at, update_by_key}
use Rattle.sqlite_ast.specs.declared.Binary.TheVariants as binary
use Rattle.sqlite_ast.specs.declared.Statement.TheVariants as written
use Rattle.sqlite_resolve.specs.Program as program
use Rattle.sqlite_resolve.specs.Write as write
use Rattle.std.specs.Prelude.{◌≡◌, ◌≤◌, ◌∷◌}

-- the key of the table stands first
abbrev pub IsFirst : Table → List ℕ → Type 0
IsFirst table key = (tree : ℕ) → Tests (placed_at table tree) key 0

-- it does where that computes
abbrev pub first_key : {table : Table} (key : List ℕ) → column_named table key ≡ Some 0
    → slice_get table.columns 0 ≡ Some (key_column key) → place_of table 0 ≡ 0
    → chosen (declared table 0 (key_column key)) nothing ≡ Binary → Tests table key 0
first_key key named there is_at by_bytes = record {
  place = 0;
  column = key_column key;
  named = named;
  there = there;
  is_at = is_at;
  by_bytes = by_bytes;
}

-- ---- SELECT columns FROM table WHERE key = ?1

pub record Gets (table : Table) (text : List ℕ) (places : List ℕ) (terms : List Term) : Type 0 where
  pub is : IsSelect table text 1 places
  pub reads : (k : ℤ) → ReadsAs table text (Int k ∷ []) (λ tree. by_key tree terms)

pub gets_by : {table : Table} {text places : List ℕ} (is : IsSelect table text 1 places) (terms : List Term)
    (test a b : Expr) (key : List ℕ)
    → IsFirst table key → is.order ≡ [] → is.limit ≡ None → is.filter ≡ Some test
    → out-Expr test ≡ Expr-F.Binary binary.Eq a b → out-Expr a ≡ Expr-F.Column None key
    → out-Expr b ≡ Expr-F.Parameter 1
    → ((schema : Schema) (p tree : ℕ) → HasTable schema table.name p (placed_at table tree)
    → program.program schema [] (ungrouped (Inner tree ∷ []) key_is (outputs_at (placed_at table tree) places)
    false [] no_limit (number 0))
    ≡ Ok (record { lets = []; body = by_key tree terms }))
    → ((k : ℤ) (schema : Schema) (p tree : ℕ) → HasTable schema table.name p (placed_at table tree)
    → accepts_program schema [] (by_key tree terms) (Int k ∷ []) ≡ true)
    → Gets table text places terms
gets_by {table = table} {text = text} {places = places} is terms test a b key first unordered unlimited
    filtered equal left right typed accepts =
    record {
      is = is;
      reads = λ k. reads_by table text places is terms test a b key first unordered unlimited filtered equal
          left right typed k (accepts k);
    }

-- ---- UPDATE table SET column = ?2 WHERE key = ?1

-- with these parameters the text writes these terms of the row under the key
pub record WritesAs (table : Table) (text : List ℕ) (params : Row) (project : List Term) : Type 0 where
  pub means : (schema : Schema) (p tree : ℕ) → HasTable schema table.name p (placed_at table tree)
      → Means schema text (length params) (Update p (record { lets = []; body = by_key tree project }))

pub writes_by : (table : Table) (text : List ℕ) (project : List Term) (k v : ℤ)
    (P : Parsed)
    (key wanted : List ℕ) (e test a b : Expr) (places : List ℕ) → IsFirst table key
    → first text ≡ Ok P → P.statement ≡ written.Update table.name ((wanted, e) ∷ []) (Some test) []
    → P.formats ≡ []
    → length text ≤ P.tail → 2 ≡ length P.names
    → out-Expr e ≡ Expr-F.Parameter 2 → out-Expr test ≡ Expr-F.Binary binary.Eq a b
    → out-Expr a ≡ Expr-F.Column None key
    → out-Expr b ≡ Expr-F.Parameter 1
    → ((tree : ℕ) → write.with_place (placed_at table tree) [] wanted ≡ Ok places)
    → ((tree : ℕ) → write.row (placed_at table tree) None places (col 1 0 ∷ []) (col 0 1 ∷ []) ≡ Ok project)
    → ((schema : Schema) (p tree : ℕ) → HasTable schema table.name p (placed_at table tree)
    → program.program schema [] (write.simple (Inner tree ∷ [])
    (op2 (Compare Eq Binary) (col 1 0) (col 0 0) ∷ []) project)
    ≡ Ok (record { lets = []; body = by_key tree project }))
    → WritesAs table text (Int k ∷ Int v ∷ []) project
writes_by table text project k v P key wanted e test a b places tests parsed is plain whole given value
    equal left right place row typed = record {
      means = λ schema p tree has. means schema text 2 _ _
          (update_by_key schema table.name p (placed_at table tree) has text P wanted key e test a b 2 1 0
          places project (tests tree) _ parsed is plain value equal left right (place tree) (row tree)
          (key_at schema table.name p [] false) (typed schema p tree has)) refl whole given refl refl;
    }

-- and so changes a typed row
pub sets_by : (table : Table) (text : List ℕ) (change : ℤ → Entry → Entry) (project : List Term) (k v : ℤ)
    → WritesAs table text (Int k ∷ Int v ∷ []) project
    → ((schema : Schema) (p tree : ℕ) → HasTable schema table.name p (placed_at table tree)
    → accepts_program schema [] (by_key tree project) (Int k ∷ Int v ∷ []) ≡ true)
    → ((e : Entry) → HasWidth (width_of table) e
    → eval_all project ((Int k ∷ Int v ∷ []) ∷ stored e ∷ []) ≡ Int e.key ∷ stored (change v e))
    → ((e : Entry) → (change v e).key ≡ e.key)
    → ((e : Entry) → HasWidth (width_of table) e → HasWidth (width_of table) (change v e))
    → ((e : Entry) → HasWidth (width_of table) e → e.key ≡ k → passes_checks table (stored (change v e))
    ≡ true)
    → texts_of table ≡ 0 → ChangesAs table text k (Int v ∷ []) (change v)
sets_by table text change project k v writes accepts projects keeps_key keeps_width passes untexted = record {
  project = project;
  means = writes.means;
  projects = projects;
  keeps_key = keeps_key;
  keeps_width = keeps_width;
  untexted = untexted;
  accepts = accepts;
  passes = passes;
}
