-- The runs of numbers that a log closes: no two share a number, so that each has a row of its own, and rows in whatever
-- order say the same of a number.
use Rattle.std.proofs.Common.{◌≡◌, ◌≤◌, ℕ, Bool, true, false, cond, eqb, leb, List, [], ◌∷◌, map, Option, Some, None, refl}
use Rattle.std.proofs.Common.{sym, ap, ◌∙◌, arith, inl, inr}
use Rattle.std.specs.Prelude.{nat_eq, is_some, not, ◌&&◌}
use Rattle.std.specs.List.{find, list_any, AllByRecursion}
use Rattle.std.proofs.lemmas.{Bool.and_parts, Bool.leb-true, Bool.Decides.nat_tests}
use Rattle.std.proofs.lemmas.Map.Keys.{IsDistinct-cons}
use Rattle.posting_rules.specs.declared.judgments.Books.TheVariants.{Current, Closed, Sealed}
use Rattle.posting_rules.specs.declared.rows.ClosingRow.{ClosingRow}
use Rattle.posting_rules.specs.declared.closed_numbers.Closing.TheVariants as answer
use Rattle.posting_rules.specs.believed.Closings.{meets, is_closed_in, are_free, closings, books_of}
use Rattle.posting_rules.specs.Closings.{closing_for, covers}
use Rattle.posting_rules.specs.believed.Commands.{Command, Open, Post, Close, number_key}
use Rattle.posting_rules.specs.believed.Tables.{HasKeys, row_at, closing_key}
use Rattle.posting_rules.proofs.Keyed.{by_test, row_at-found, found_passes, none_passes}
use Rattle.posting_rules.proofs.Empty.{none_distinct}

-- ---- rows in another order

any_found : {R : Type 0} (test : R → Bool) (rows : List R) → list_any test rows ≡ is_some (find test rows)
any_found test [] = refl
any_found test (r ∷ rows) = elim (by_test (test r)) [ inl t ↦ rw t refl | inr f ↦ rw f (any_found test rows) ]

-- a row passes a test in both, or in neither
pub some_same : {R : Type 0} (key : R → ℕ) (test : R → Bool) (one two : List R) → HasKeys key one → HasKeys key two
    → ((k : ℕ) → row_at key one k ≡ row_at key two k) → list_any test one ≡ list_any test two
some_same {R} key test one two first second same =
    any_found test one ∙ by_found (find test one) (find test two) refl refl ∙ sym (any_found test two)
  where
    other : (xs ys : List R) (x : R) → HasKeys key xs → ((k : ℕ) → row_at key xs k ≡ row_at key ys k)
        → find test xs ≡ Some x → find test ys ≡ None → ⊥
    other xs ys x keys same found none =
        let passes = found_passes test xs x found in
        let fails = none_passes key test ys (key x) x none (sym (same (key x)) ∙ row_at-found key test xs x keys found) in
        absurd (let g = sym passes ∙ fails in cc)

    by_found : (o p : Option R) → find test one ≡ o → find test two ≡ p → is_some o ≡ is_some p
    by_found None None e f = refl
    by_found (Some x) (Some y) e f = refl
    by_found (Some x) None e f = absurd (other one two x first same e f)
    by_found None (Some y) e f = absurd (other two one y second (λ k. sym (same k)) f e)

pub closed_shown : (rows runs : List ClosingRow) → HasKeys closing_key rows → HasKeys closing_key runs
    → ((x : ℕ) → row_at closing_key rows x ≡ row_at closing_key runs x) → (x : ℕ)
    → is_closed_in rows x ≡ is_closed_in runs x
closed_shown rows runs first second same x = some_same closing_key (meets x x) rows runs first second same

pub free_shown : (rows runs : List ClosingRow) → HasKeys closing_key rows → HasKeys closing_key runs
    → ((x : ℕ) → row_at closing_key rows x ≡ row_at closing_key runs x) → (first last : ℕ)
    → are_free rows first last ≡ are_free runs first last
free_shown rows runs keys others same first last =
    ap (λ (b : Bool). leb first last && not b)
    (some_same closing_key (meets first last) rows runs keys others same)

pub answer_shown : (rows runs : List ClosingRow) → HasKeys closing_key rows → HasKeys closing_key runs
    → ((x : ℕ) → row_at closing_key rows x ≡ row_at closing_key runs x) → (first last : ℕ)
    → closing_for rows first last ≡ closing_for runs first last
answer_shown rows runs keys others same first last =
    ap (λ (b : Bool). cond b answer.Closed
    (cond (list_any (covers first last) rows) answer.Already answer.Overlaps))
    (free_shown rows runs keys others same first last)
    ∙ ap (λ (b : Bool). cond (are_free runs first last) answer.Closed (cond b answer.Already answer.Overlaps))
    (some_same closing_key (covers first last) rows runs keys others same)

pub books_shown : (rows runs : List ClosingRow) (t n : ℕ) → HasKeys closing_key rows → HasKeys closing_key runs
    → ((x : ℕ) → row_at closing_key rows x ≡ row_at closing_key runs x) → books_of rows t n ≡ books_of runs t n
books_shown rows runs t n first second same =
    let at = closed_shown rows runs first second same in
    ap (λ (b : Bool). cond b Closed (cond (is_closed_in rows 0) Sealed Current)) (at (number_key t n))
    ∙ ap (λ (b : Bool). cond (is_closed_in runs (number_key t n)) Closed (cond b Sealed Current)) (at 0)

-- where closed books say nothing of a number, it isn't closed, and there is no seal
pub current_parts : (runs : List ClosingRow) (t n : ℕ) → books_of runs t n ≡ Current
    → (is_closed_in runs (number_key t n) ≡ false) × (is_closed_in runs 0 ≡ false)
current_parts runs t n e = by (is_closed_in runs (number_key t n)) (is_closed_in runs 0) e
  where
    by : (b c : Bool) → cond b Closed (cond c Sealed Current) ≡ Current → (b ≡ false) × (c ≡ false)
    by false false e = (refl, refl)
    by false true e = absurd cc
    by true c e = absurd cc

-- ---- no two share a number

abbrev AreApart : List ClosingRow → Type 0
AreApart [] = Unit {0}
AreApart (r ∷ runs) =
    (r.first ≤ r.last) × AllByRecursion (λ s. meets r.first r.last s ≡ false) runs × AreApart runs

none_meets : (test : ClosingRow → Bool) (runs : List ClosingRow) → list_any test runs ≡ false
    → AllByRecursion (λ s. test s ≡ false) runs
none_meets test [] e = tt
none_meets test (r ∷ runs) e =
    elim (by_test (test r)) [
      | inl t ↦ absurd (let g = rw t at e in cc)
      | inr f ↦ (f, none_meets test runs (let g = rw f at e in g))
    ]

not_false : (b : Bool) → not b ≡ true → b ≡ false
not_false false e = refl
not_false true e = absurd cc

are_apart : (log : List Command) → AreApart (closings log)
are_apart [] = tt
are_apart (Open b terms ∷ log) = are_apart log
are_apart (Post m bytes ∷ log) = are_apart log
are_apart (Close first last ∷ log) =
    elim (by_test (are_free (closings log) first last)) [
      | inl t ↦ let two = and_parts (leb first last) _ t in
          rw t (
            leb-true _ _ two.0,
            none_meets (meets first last) (closings log) (not_false _ two.1),
            are_apart log,
          )
      | inr f ↦ rw f (are_apart log)
    ]

-- runs that share no number have other last numbers
meets_last : (first last : ℕ) (s : ClosingRow) → first ≤ last → s.first ≤ s.last → meets first last s ≡ false
    → eqb last s.last ≡ false
meets_last first last s low own apart = grind (arith, nat_tests)

other_keys : (first last : ℕ) (runs : List ClosingRow) → first ≤ last → AreApart runs
    → AllByRecursion (λ s. meets first last s ≡ false) runs
    → AllByRecursion (λ k. nat_eq last k ≡ false) (map closing_key runs)
other_keys first last [] low apart none = tt
other_keys first last (s ∷ runs) low apart none =
    (meets_last first last s low apart.0 none.0, other_keys first last runs low apart.2 none.1)

keys_apart : (runs : List ClosingRow) → AreApart runs → HasKeys closing_key runs
keys_apart [] apart = none_distinct
keys_apart (r ∷ runs) apart =
    IsDistinct-cons nat_eq r.last (map closing_key runs) (other_keys r.first r.last runs apart.0 apart.2 apart.1)
    (keys_apart runs apart.2)

pub closing_keys : (log : List Command) → HasKeys closing_key (closings log)
closing_keys log = keys_apart (closings log) (are_apart log)

-- the last of numbers that are free has no row
pub last_free : (log : List Command) (first last : ℕ) → are_free (closings log) first last ≡ true
    → row_at closing_key (closings log) last ≡ None
last_free log first last free =
    let two = and_parts (leb first last) _ free in
    go (closings log) (are_apart log) (leb-true _ _ two.0) (none_meets (meets first last) (closings log) (not_false _ two.1))
  where
    eqb_flip : (s : ClosingRow) (k : ℕ) → eqb k s.last ≡ false → eqb s.last k ≡ false
    eqb_flip s k f = grind (arith, nat_tests)

    go : (runs : List ClosingRow) → AreApart runs → first ≤ last
        → AllByRecursion (λ s. meets first last s ≡ false) runs → row_at closing_key runs last ≡ None
    go [] apart low none = refl
    go (s ∷ runs) apart low none =
        let f : eqb s.last last ≡ false = eqb_flip s last (meets_last first last s low apart.0 none.0) in
        rw f (go runs apart.2 low none.1)
