-- What a keyed SELECT answers.
use Rattle.sql_meanings.specs.Names.{ℕ, ℤ, List, [], map, filter, find, cond, Bool, true, false, Some, None}
use Rattle.sql_meanings.specs.Names.{Option, flat_map, Value, Int, Row, Term, Env, eval_all, holds, col, IsAnswerAs}
use Rattle.sql_meanings.specs.Names.{matches_as, inner, end, output, Trees}
use Rattle.sql_meanings.proofs.Names.{refl, sym, ap, subst, ◌∙◌, length_permutation, map-map, nil_from_length}
use Rattle.std.specs.List.Sorted.{IsPermutation}
use Rattle.sqlite.specs.Query.{Output}
use Rattle.sqlite.proofs.Callers.{one_permutation}
use Rattle.sql_meanings.proofs.EntryLists.{int_equals, one_filter}
use Rattle.sql_meanings.specs.believed.Entries.{Entry, IsTree, has_key, stored}
use Rattle.sql_meanings.specs.{Entries.listed, Queries.no_limit, Queries.is, Queries.query}
use Rattle.std.specs.Prelude.{◌≡◌, ◌∷◌, ◌++◌, ◌&&◌}

-- the environment of each row that is met
abbrev met : ℤ → Row → Entry → Env
met k more e = (Int k ∷ more) ∷ stored e ∷ []

when_met : (k : ℤ) (more : Row) (e : Entry) → holds (met k more e) (is (col 1 0) (col 0 0)) ≡ has_key k e
when_met k more e = int_equals e.key k

pub kept_by : {X : Type 0} (b : Bool) (x : X) (xs : List X)
    → cond (b && true) (x ∷ []) [] ++ xs ≡ cond b (x ∷ xs) xs
kept_by true x xs = refl
kept_by false x xs = refl

pub map_cond : {X Y : Type 0} (f : X → Y) (b : Bool) (x : X) (xs : List X)
    → map f (cond b (x ∷ xs) xs) ≡ cond b (f x ∷ map f xs) (map f xs)
map_cond f true x xs = refl
map_cond f false x xs = refl

-- the rows that pass the test of the key
pub keyed_matches : (lost : Value) (db : Trees) (k : ℤ) (more : Row) (es : List Entry)
    → flat_map (λ r. matches_as lost db (is (col 1 0) (col 0 0) ∷ []) end ((Int k ∷ more) ∷ r ∷ []))
    (map stored es)
    ≡ map (met k more) (filter (has_key k) es)
keyed_matches lost db k more [] = refl
keyed_matches lost db k more (e ∷ es) =
    kept_by (holds (met k more e) (is (col 1 0) (col 0 0))) (met k more e) _
    ∙ rw (when_met k more e, keyed_matches lost db k more es)
    (sym (map_cond (met k more) (has_key k e) e (filter (has_key k) es)))

-- a list of one element at most has one order
pub small_permutation : {X Y : Type 0} (f : X → Y) (o : Option X) (ys : List Y)
    → IsPermutation (map f (listed o)) ys
    → ys ≡ map f (listed o)
small_permutation f None ys h = nil_from_length ys (length_permutation [] ys h)
small_permutation f (Some x) ys h = one_permutation (f x) ys h

-- the rows that a keyed query shows are those of the entry with the key
pub keyed_answer : (lost : Value) {width : ℕ × ℕ} (t : ℕ) (project : List Term) (db : Trees) (k : ℤ)
    (more : Row) (rows : List Row) (es : List Entry) → IsTree width (db t) es
    → IsAnswerAs lost (query (inner t end) (is (col 1 0) (col 0 0) ∷ []) project [] no_limit) db
    (Int k ∷ more) rows
    → rows ≡ map (λ e. eval_all project (met k more e)) (listed (find (has_key k) es))
keyed_answer lost t project db k more rows es tree a =
    let q = query (inner t end) (is (col 1 0) (col 0 0) ∷ []) project [] no_limit in
    let found = listed (find (has_key k) es) in
    let matched : flat_map (λ r. matches_as lost db (is (col 1 0) (col 0 0) ∷ []) end
    ((Int k ∷ more) ∷ r ∷ [])) (db t)
    ≡ map (met k more) found
    = ap (flat_map (λ r. matches_as lost db (is (col 1 0) (col 0 0) ∷ []) end ((Int k ∷ more) ∷ r ∷ [])))
    tree.are
    ∙ keyed_matches lost db k more es ∙ ap (map (met k more)) (one_filter k es tree.rise) in
    let staged : a.staged ≡ map (met k more) found = a.grouped ∙ matched in
    let kept : a.kept ≡ map (λ e. output q (met k more e)) found = a.distinct ∙ ap (map (output q)) staged
    ∙ map-map (output q) (met k more) found in
    let ordered : a.ordered ≡ map (λ e. output q (met k more e)) found =
    small_permutation (λ e. output q (met k more e)) (find (has_key k) es) a.ordered
    (subst (λ l. IsPermutation l a.ordered) kept a.same) in
    a.shown ∙ ap (λ (l : List Output). map (λ (o : Output). o.1) l) ordered
    ∙ map-map (λ (o : Output). o.1) (λ e. output q (met k more e)) found
