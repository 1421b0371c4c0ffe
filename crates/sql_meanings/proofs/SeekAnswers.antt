-- What a query of one table answers that asks for the next rows from a key on.
use Rattle.sql_meanings.specs.Names.{ℕ, ℤ, List, [], map, filter, true, flat_map, list_all, is_ge}
use Rattle.sql_meanings.specs.Names.{int_eq, Value, Int, Row, Binary, is_true, binary, Compare, Ge, Trees}
use Rattle.sql_meanings.specs.Names.{Term, Env, eval_all, holds, IsAnswerAs, matches_as, page, inner, end}
use Rattle.sql_meanings.proofs.Names.{refl, ap, ◌∙◌, int_cmp, value_cmp-Int, and-true}
use Rattle.sql_meanings.specs.believed.Entries.{Entry, IsTree, stored}
use Rattle.sql_meanings.specs.Seeks.{is_from, is_of_from, key_from, next_from, next_of_from, of_from}
use Rattle.sql_meanings.proofs.EntryLists.{and_both, int_equals, text_apart, truth_back}
use Rattle.sql_meanings.proofs.TestedAnswers.{passing}
use Rattle.sql_meanings.proofs.OrderedAnswers.{ordered_answer, rise_filter}
use Rattle.std.specs.Prelude.{◌≡◌, ◌&&◌, ◌∷◌}

int_from : (a b : ℤ) → is_true (binary (Compare Ge Binary) (Int a) (Int b)) ≡ is_ge (int_cmp a b)
unfolding binary
int_from a b = truth_back _ ∙ ap is_ge (value_cmp-Int a b)

passes_from : (k : ℤ) (e : Entry) → list_all (holds ((Int k ∷ []) ∷ stored e ∷ [])) key_from ≡ is_from k e
passes_from k e = rw (int_from e.key k) (and-true (is_from k e))

first_two : (one k key n : ℤ) (more : List ℤ) (texts : List (List ℕ))
    → list_all (holds ((Int one ∷ Int k ∷ [])
    ∷ stored (record { key = key; values = n ∷ more; texts = texts }) ∷ [])) of_from
    ≡ (int_eq n one && (is_ge (int_cmp key k) && true))
first_two one k key n more texts = rw (int_equals n one, int_from key k)

passes_of : (one k key : ℤ) (values : List ℤ) (texts : List (List ℕ))
    → list_all (holds ((Int one ∷ Int k ∷ [])
    ∷ stored (record { key = key; values = values; texts = texts }) ∷ [])) of_from
    ≡ is_of_from one k (record { key = key; values = values; texts = texts })
unfolding binary
passes_of one k key [] [] = refl
passes_of one k key [] (s ∷ texts) = rw (text_apart s one) refl
passes_of one k key (n ∷ more) texts = first_two one k key n more texts
    ∙ and_both (int_eq n one) (is_ge (int_cmp key k))

-- the rows from the parameter on, by rising keys, cut by the limit
pub from_answer : (lost : Value) {width : ℕ × ℕ} (most t : ℕ) (project : List Term) (db : Trees) (k : ℤ)
    (rows : List Row) (es : List Entry)
    → IsTree width (db t) es
    → IsAnswerAs lost (next_from most t project) db (Int k ∷ []) rows
    → rows ≡ page (next_from most t project) (Int k ∷ [])
    (map (λ e. eval_all project ((Int k ∷ []) ∷ stored e ∷ [])) (filter (is_from k) es))
from_answer lost most t project db k rows es tree a =
    let params : Row = Int k ∷ [] in
    let f : Entry → Env = λ e. params ∷ stored e ∷ [] in
    let kept = filter (is_from k) es in
    let matched : matches_as lost db key_from (inner t end) (params ∷ []) ≡ map f kept =
    ap (flat_map (λ r. matches_as lost db key_from end (params ∷ r ∷ []))) tree.are
    ∙ passing params key_from (is_from k) (passes_from k) lost db es in
    ordered_answer (inner t end) key_from project _ f (λ e. refl) lost db params rows kept
    (rise_filter (is_from k) es tree.rise) matched a

-- the same of those with the first parameter after their keys
pub of_from_answer : (lost : Value) {width : ℕ × ℕ} (most t : ℕ) (project : List Term) (db : Trees) (one k : ℤ)
    (rows : List Row)
    (es : List Entry) → IsTree width (db t) es
    → IsAnswerAs lost (next_of_from most t project) db (Int one ∷ Int k ∷ []) rows
    → rows ≡ page (next_of_from most t project) (Int one ∷ Int k ∷ [])
    (map (λ e. eval_all project ((Int one ∷ Int k ∷ []) ∷ stored e ∷ [])) (filter (is_of_from one k) es))
of_from_answer lost most t project db one k rows es tree a =
    let params : Row = Int one ∷ Int k ∷ [] in
    let f : Entry → Env = λ e. params ∷ stored e ∷ [] in
    let kept = filter (is_of_from one k) es in
    let matched : matches_as lost db of_from (inner t end) (params ∷ []) ≡ map f kept =
    ap (flat_map (λ r. matches_as lost db of_from end (params ∷ r ∷ []))) tree.are
    ∙ passing params of_from (is_of_from one k) (λ e. passes_of one k e.key e.values e.texts) lost db es in
    ordered_answer (inner t end) of_from project _ f (λ e. refl) lost db params rows kept
    (rise_filter (is_of_from one k) es tree.rise) matched a
