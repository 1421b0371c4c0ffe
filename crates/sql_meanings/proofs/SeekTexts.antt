-- What the texts of seeks mean of a table in whatever schema, by what is computed of the text alone.
use Rattle.sql_meanings.specs.Names.{ℕ, ℤ, pos, List, [], map, Ok, Some, None, true, false, Int, Binary, Schema}
use Rattle.sql_meanings.specs.Names.{Table, Term, col, lit, Expr-F, Expr, out-Expr, Sort, out-Sort, Inner, integer}
use Rattle.sql_meanings.specs.Names.{alone, affinity_of, Name, alias_of, declared, ungrouped, number, accepts_program}
use Rattle.sql_meanings.proofs.{Names.refl, Names.arith, Above.Onwards, Above.select_rising}
use Rattle.sql_meanings.proofs.{AtOrAboveOf.select_two_from, ByKey.Tests, ByKey.key_at, Columns.over_one, Means.means}
use Rattle.sql_meanings.proofs.{ReadTables.ReadsAs, Statements.HasTable, Texts.IsSelect, Texts.left_over, Texts.many}
use Rattle.sql_meanings.specs.{Queries.ascending, believed.Tables.placed_at}
use Rattle.sql_meanings.specs.Seeks.{key_from, next_from, next_of_from, of_from}
use Rattle.sql_meanings.proofs.ShownColumns.{has_room, outputs_at, shows_named}
use Rattle.sqlite_ast.specs.declared.Binary.TheVariants as binary
use Rattle.sqlite_resolve.specs.Program as prog
use Rattle.sqlite_resolve.specs.declared.compare.Affinity.TheVariants as affinity
use Rattle.std.specs.Prelude.{◌≡◌, ◌∷◌}

module _ (table : Table) (text : List ℕ) (places : List ℕ) (most : ℕ) (terms : List Term) (key : Name)
    (keys : (tree : ℕ) → Tests (placed_at table tree) key 0)
    (by_bytes : (tree : ℕ) → alone (declared (placed_at table tree) (keys tree).place (keys tree).column) ≡
    Binary)
    (unnamed : (tree : ℕ) → alias_of key (outputs_at (placed_at table tree) places) ≡ None) where
  -- SELECT columns FROM table WHERE key >= ?1 ORDER BY key LIMIT most
  pub seeks_by : (is : IsSelect table text 1 places) (sort : Sort) (cap test e a b : Expr) (most_text : Name)
      → is.order ≡ sort ∷ [] → is.limit ≡ Some cap → is.filter ≡ Some test
      → out-Sort sort ≡ record { key = e; descending = false; nulls_first = None }
      → out-Expr e ≡ Expr-F.Column None key
      → out-Expr test ≡ Expr-F.Binary binary.Ge a b → out-Expr a ≡ Expr-F.Column None key
      → out-Expr b ≡ Expr-F.Parameter 1
      → out-Expr cap ≡ Expr-F.Integer most_text → integer false most_text ≡ Ok (Int (pos most))
      → ((schema : Schema) (p tree : ℕ) → HasTable schema table.name p (placed_at table tree)
      → prog.program schema [] (ungrouped (Inner tree ∷ []) key_from
      (outputs_at (placed_at table tree) places) false ascending (lit (Int (pos most))) (number 0))
      ≡ Ok (record { lets = []; body = next_from most tree terms }))
      → (k : ℤ) → ((schema : Schema) (p tree : ℕ) → HasTable schema table.name p (placed_at table tree)
      → accepts_program schema [] (next_from most tree terms) (Int k ∷ []) ≡ true)
      → ReadsAs table text (Int k ∷ []) (λ tree. next_from most tree terms)
  seeks_by is sort cap test e a b most_text ordered limited filtered sorts by_key above left right capped
      value typed k accepts = record {
        names = map (λ o. o.name) (outputs_at table places);
        means = λ schema p tree has.
            let os = outputs_at (placed_at table tree) places in
            let low = many (placed_at table tree) places is.few in
            let rest = left_over (placed_at table tree) places is.few in
            means schema text 1 _ _ (select_rising schema table.name p (placed_at table tree) has Onwards text
            is.P is.s is.core is.source is.shown test a b e cap
            sort key most_text (Int (pos most)) 0 1 (keys tree) os _ is.parsed is.statement is.plain
            (rw (ordered, limited) at is.select)
            (rw filtered at is.body) is.from above left right sorts by_key (unnamed tree) capped value
            (shows_named _ _ _ (is.shows tree))
            (has_room 100000 _ (omega arith)) (key_at schema table.name p os false) (grind arith)
            (grind arith)
            (grind arith) (grind arith)
            (by_bytes tree) (typed schema p tree has)) refl is.whole is.given refl refl;
        accepts = accepts;
        unfolded = λ _. refl;
        ungrouped = λ _. refl;
      }

  -- SELECT columns FROM table WHERE one = ?1 AND key >= ?2 ORDER BY key LIMIT most
  pub seeks_of_by : (one : Name) (ones : (tree : ℕ) → Tests (placed_at table tree) one 2)
      (is : IsSelect table text 2 places) (sort : Sort) (cap both e test test' a b a' b' : Expr)
      (most_text : Name)
      → is.order ≡ sort ∷ [] → is.limit ≡ Some cap → is.filter ≡ Some both
      → out-Sort sort ≡ record { key = e; descending = false; nulls_first = None }
      → out-Expr e ≡ Expr-F.Column None key
      → out-Expr both ≡ Expr-F.Binary binary.And test test'
      → out-Expr test ≡ Expr-F.Binary binary.Eq a b → out-Expr a ≡ Expr-F.Column None one
      → out-Expr b ≡ Expr-F.Parameter 1
      → out-Expr test' ≡ Expr-F.Binary binary.Ge a' b' → out-Expr a' ≡ Expr-F.Column None key
      → out-Expr b' ≡ Expr-F.Parameter 2
      → out-Expr cap ≡ Expr-F.Integer most_text → integer false most_text ≡ Ok (Int (pos most))
      → ((schema : Schema) (p tree : ℕ) → HasTable schema table.name p (placed_at table tree)
      → affinity_of (over_one schema table.name p (outputs_at (placed_at table tree) places) false) (col 1 2)
      ≡ affinity.Numeric)
      → ((schema : Schema) (p tree : ℕ) → HasTable schema table.name p (placed_at table tree)
      → prog.program schema [] (ungrouped (Inner tree ∷ []) of_from
      (outputs_at (placed_at table tree) places) false ascending (lit (Int (pos most))) (number 0))
      ≡ Ok (record { lets = []; body = next_of_from most tree terms }))
      → (n k : ℤ) → ((schema : Schema) (p tree : ℕ) → HasTable schema table.name p (placed_at table tree)
      → accepts_program schema [] (next_of_from most tree terms) (Int n ∷ Int k ∷ []) ≡ true)
      → ReadsAs table text (Int n ∷ Int k ∷ []) (λ tree. next_of_from most tree terms)
  seeks_of_by one ones is sort cap both e test test' a b a' b' most_text ordered limited filtered sorts
      by_key and equal left right above left' right' capped value numeric typed n k accepts = record {
        names = map (λ o. o.name) (outputs_at table places);
        means = λ schema p tree has.
            let os = outputs_at (placed_at table tree) places in
            let low = many (placed_at table tree) places is.few in
            let rest = left_over (placed_at table tree) places is.few in
            means schema text 2 _ _ (select_two_from schema table.name p (placed_at table tree) has text is.P
            is.s is.core is.source is.shown both test a b
            test' a' b' e cap sort one key most_text (Int (pos most)) 2 1 0 2 (ones tree)
            (keys tree) os _ is.parsed is.statement is.plain
            (rw (ordered, limited) at is.select)
            (rw filtered at is.body) is.from and equal left right above left' right' sorts by_key
            (unnamed tree)
            capped value (shows_named _ _ _ (is.shows tree)) (has_room 100000 _ (omega arith))
            (numeric schema p tree has)
            (key_at schema table.name p os false) (grind arith) (grind arith) (grind arith) (grind arith)
            (grind arith) (grind arith) (grind arith)
            (grind arith) (by_bytes tree) (typed schema p tree has)) refl is.whole is.given refl refl;
        accepts = accepts;
        unfolded = λ _. refl;
        ungrouped = λ _. refl;
      }
