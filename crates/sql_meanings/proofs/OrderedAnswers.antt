-- What a query of one table with ORDER BY its key answers.
use Rattle.sql_meanings.specs.Names.{ℕ, ℤ, pos, List, [], map, filter, find, cond, Bool, true, false, Some}
use Rattle.sql_meanings.specs.Names.{AllByRecursion, flat_map, list_all, is_gt, Value, Int, Row, Binary, is_true}
use Rattle.sql_meanings.specs.Names.{binary, Compare, Gt, Trees, IsAscending, Term, Env, eval_all, holds}
use Rattle.sql_meanings.specs.Names.{lit, col, Query, Join, IsAnswerAs, matches_as, page, inner, end, output}
use Rattle.sql_meanings.proofs.Names.{take, refl, ap, subst, ◌∙◌, Less, int_cmp, IsPermutation, value_cmp-Int, and-true}
use Rattle.sql_meanings.proofs.Names.{map-map}
use Rattle.sqlite.specs.{Order.value_cmp, Term.eval, Query.output_cmp, Query.Output}
use Rattle.sqlite_sql.proofs.QueryLemmas.{output_cmp_total}
use Rattle.sql_meanings.specs.believed.Entries.{Entry, IsTree, Rise, stored}
use Rattle.sql_meanings.specs.Entries.{is_above, listed}
use Rattle.sql_meanings.specs.Queries.{ascending, above, key_above, query}
use Rattle.sql_meanings.proofs.{EntryLists.Above, EntryLists.truth_back, TestedAnswers.passing, RisingOrder.sorted_is}
use Rattle.std.specs.Prelude.{◌≡◌, ◌∷◌}

module _ (from : Join) (tests project : List Term) (most : Term) (f : Entry → Env) (keyed : (e : Entry)
    → eval (col 1 0) (f e) ≡ Int e.key) where
  abbrev q : Query
  q = query from tests project ascending most

  first_below : (a b : Entry) → int_cmp a.key b.key ≡ Less
      → output_cmp q (output q (f a)) (output q (f b)) ≡ Less
  first_below a b low = let e : value_cmp (Int a.key) (Int b.key) ≡ Less = value_cmp-Int a.key b.key
      ∙ low in rw (keyed a, keyed b, e)

  rise_outputs : (es : List Entry) → Rise es
      → IsAscending (λ a b. output_cmp q a b ≡ Less) (map (λ e. output q (f e)) es)
  rise_outputs [] up = up
  rise_outputs (e ∷ es) up = (all_below es up.0, rise_outputs es up.1)
    where
      all_below : (xs : List Entry) → Above e xs
          → AllByRecursion (λ b. output_cmp q (output q (f e)) b ≡ Less)
          (map (λ x. output q (f x)) xs)
      all_below = elim [ [] ↦ λ h. h | x ∷ (xs → more) ↦ λ h. (first_below e x h.0, more h.1) ]

  -- the rows are those of the entries that match, in their order, cut by the limit
  pub ordered_answer : (lost : Value) (db : Trees) (params : Row) (rows : List Row) (es : List Entry)
      → Rise es
      → matches_as lost db tests from (params ∷ []) ≡ map f es
      → IsAnswerAs lost q db params rows → rows ≡ page q params (map (λ e. eval_all project (f e)) es)
  ordered_answer lost db params rows es rise matched a =
      let staged : a.staged ≡ map f es = a.grouped ∙ matched in
      let kept : a.kept ≡ map (λ e. output q (f e)) es = a.distinct ∙ ap (map (output q)) staged ∙ map-map
      (output q) f es in
      let ordered : a.ordered ≡ map (λ e. output q (f e)) es =
      sorted_is (output_cmp q) (output_cmp_total q) (map (λ e. output q (f e)) es) a.ordered
      (rise_outputs es rise) a.sorted
      (subst (λ l. IsPermutation l a.ordered) kept a.same) in
      a.shown ∙ ap (λ (l : List Output). page q params (map (λ (o : Output). o.1) l)) ordered
      ∙ ap (page q params) (map-map (λ (o : Output). o.1) (λ e. output q (f e)) es)

-- ---- those that pass a test

above_filter : (e : Entry) (p : Entry → Bool) (es : List Entry) → Above e es → Above e (filter p es)
above_filter e p [] above = above
above_filter e p (x ∷ xs) above = go (p x) (above_filter e p xs above.1)
  where
    go : (b : Bool) → Above e (filter p xs) → Above e (cond b (x ∷ filter p xs) (filter p xs))
    go true more = (above.0, more)
    go false more = more

-- the rows that pass rise too
pub rise_filter : (p : Entry → Bool) (es : List Entry) → Rise es → Rise (filter p es)
rise_filter p [] up = up
rise_filter p (e ∷ es) up = go (p e) (rise_filter p es up.1)
  where
    go : (b : Bool) → Rise (filter p es) → Rise (cond b (e ∷ filter p es) (filter p es))
    go true more = (above_filter e p es up.0, more)
    go false more = more

-- ---- one table

int_above : (a b : ℤ) → is_true (binary (Compare Gt Binary) (Int a) (Int b)) ≡ is_gt (int_cmp a b)
unfolding binary
int_above a b = truth_back _ ∙ ap is_gt (value_cmp-Int a b)

passes_above : (k : ℤ) (e : Entry) → list_all (holds ((Int k ∷ []) ∷ stored e ∷ [])) key_above ≡ is_above k e
passes_above k e = rw (int_above e.key k) (and-true (is_above k e))

first_of : {X Y : Type 0} (g : X → Y) (p : X → Bool) (xs : List X)
    → take 1 (map g (filter p xs)) ≡ map g (listed (find p xs))
first_of g p [] = refl
first_of g p (x ∷ xs) = go (p x) (first_of g p xs)
  where
    go : (b : Bool) → take 1 (map g (filter p xs)) ≡ map g (listed (find p xs))
        → take 1 (map g (cond b (x ∷ filter p xs) (filter p xs))) ≡ map g
        (listed (cond b (Some x) (find p xs)))
    go true more = refl
    go false more = more

-- the row with the least key above the parameter
pub next_answer : (lost : Value) {width : ℕ × ℕ} (t : ℕ) (project : List Term) (db : Trees) (k : ℤ)
    (rows : List Row) (es : List Entry)
    → IsTree width (db t) es
    → IsAnswerAs lost (query (inner t end) key_above project ascending (lit (Int (pos 1)))) db
    (Int k ∷ []) rows
    → rows ≡ map (λ e. eval_all project ((Int k ∷ []) ∷ stored e ∷ [])) (listed (find (is_above k) es))
next_answer lost t project db k rows es tree a =
    let params : Row = Int k ∷ [] in
    let f : Entry → Env = λ e. params ∷ stored e ∷ [] in
    let kept = filter (is_above k) es in
    let matched : matches_as lost db key_above (inner t end) (params ∷ []) ≡ map f kept =
    ap (flat_map (λ r. matches_as lost db key_above end (params ∷ r ∷ []))) tree.are
    ∙ passing params key_above (is_above k) (passes_above k) lost db es in
    ordered_answer (inner t end) key_above project (lit (Int (pos 1))) f (λ e. refl) lost db params rows kept
    (rise_filter (is_above k) es tree.rise) matched a
    ∙ first_of (λ e. eval_all project (f e)) (is_above k) es
