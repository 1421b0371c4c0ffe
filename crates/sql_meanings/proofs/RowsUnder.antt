-- What a query by key answers, and what an UPDATE by key leaves, by the rows that lie under the key.
use Rattle.sql_meanings.specs.Names.{ℕ, ℤ, List, [], map, filter, flat_map, Value, Row, Int, Term}
use Rattle.sql_meanings.specs.Names.{Env, eval_all, holds, col, IsAnswerAs, matches_as, end, output, Trees}
use Rattle.sql_meanings.specs.Names.{is_eq, is_true, binary, Compare, Eq, Binary, Null, Text}
use Rattle.sql_meanings.proofs.Names.{refl, sym, ap, subst, ◌∙◌, map-map}
use Rattle.std.specs.List.Sorted.{IsPermutation}
use Rattle.std.proofs.lemmas.List.Sorted.{IsPermutation-map}
use Rattle.sqlite.specs.{Query.Output, Tree.has_rowid}
use Rattle.sqlite_value.specs.Order.{column, value_cmp}
use Rattle.sqlite_value.specs.declared.value.Value.TheVariants.{Real, Blob}
use Rattle.sql_meanings.proofs.EntryLists.{truth_back}
use Rattle.sql_meanings.proofs.KeyedAnswers.{kept_by, map_cond}
use Rattle.sql_meanings.specs.Queries.{by_key, is}
use Rattle.std.specs.Prelude.{◌≡◌, ◌∷◌}

-- a value is equal to a number in SQL where it is tied with it
equal_as : (v : Value) (k : ℤ) → is_true (binary (Compare Eq Binary) v (Int k)) ≡ is_eq (value_cmp v (Int k))
unfolding binary value_cmp
equal_as Null k = refl
equal_as (Int n) k = truth_back _
equal_as (Real x) k = truth_back _
equal_as (Text t) k = truth_back _
equal_as (Blob b) k = truth_back _

module _ (lost : Value) (db : Trees) (k : ℤ) (more : Row) where
  -- the environment of each row
  abbrev pub beside : Row → Env
  beside r = (Int k ∷ more) ∷ r ∷ []

  when_under : (r : Row) → holds (beside r) (is (col 1 0) (col 0 0)) ≡ has_rowid k r
  when_under r = equal_as (column r 0) k

  -- the rows that pass the test of the key
  rows_match : (rows : List Row)
      → flat_map (λ r. matches_as lost db (is (col 1 0) (col 0 0) ∷ []) end (beside r)) rows
      ≡ map beside (filter (has_rowid k) rows)
  rows_match [] = refl
  rows_match (r ∷ rows) =
      kept_by (holds (beside r) (is (col 1 0) (col 0 0))) (beside r) _
      ∙ rw (when_under r, rows_match rows) (sym (map_cond beside (has_rowid k r) r (filter (has_rowid k) rows)))

  -- the rows that the query shows are those under the key, in some order
  pub answer_under : (t : ℕ) (project : List Term) (rows : List Row)
      → IsAnswerAs lost (by_key t project) db (Int k ∷ more) rows
      → IsPermutation (map (λ r. eval_all project (beside r)) (filter (has_rowid k) (db t))) rows
  answer_under t project rows a =
      let q = by_key t project in
      let found = filter (has_rowid k) (db t) in
      let staged : a.staged ≡ map beside found = a.grouped ∙ rows_match (db t) in
      let kept : a.kept ≡ map (λ r. output q (beside r)) found = a.distinct ∙ ap (map (output q)) staged
      ∙ map-map (output q) beside found in
      let moved = IsPermutation-map (λ (o : Output). o.1) (map (λ r. output q (beside r)) found) a.ordered
      (subst (λ l. IsPermutation l a.ordered) kept a.same) in
      subst (λ l. IsPermutation l rows) (map-map (λ (o : Output). o.1) (λ r. output q (beside r)) found)
      (subst (IsPermutation _) (sym a.shown) moved)
