-- Which numbers runs have.
use Rattle.std.proofs.Common.{rules, ◌≡◌, ◌≤◌, ◌<◌, ◌+◌, ◌++◌, ◌∙◌, ℕ, Bool, false, leb, List, [], ◌∷◌, refl, sym, inl, inr}
use Rattle.std.proofs.Common.{arith}
use Rattle.std.specs.Prelude.{◌&&◌, ◌||◌, All, IsPermutation}
use Rattle.std.specs.List.{list_any}
use Rattle.std.proofs.lemmas.Bool.Decides.{nat_tests}
use Rattle.std.proofs.lemmas.List.Elements.{All-head, All-tail, All-cons}
use Rattle.std.proofs.lemmas.List.Sorted.{All-permutation, IsPermutation-sym}
use Rattle.posting_rules.specs.declared.rows.ClosingRow.{ClosingRow}
use Rattle.posting_rules.specs.believed.Closings.{is_closed_in}
use Rattle.posting_rules.proofs.Keyed.{by_test}
use Rattle.posting_rules.specs.Numbers.{RiseFrom}

pub any-append : {X : Type 0} (test : X → Bool) (xs ys : List X) → list_any test (xs ++ ys) ≡ (list_any test xs || list_any test ys)
any-append test [] ys = refl
any-append test (x ∷ xs) ys = elim (by_test (test x)) [ inl t ↦ rw t refl | inr f ↦ rw f (any-append test xs ys) ]

-- ---- in another order

none_any : {X : Type 0} (test : X → Bool) (xs : List X) → list_any test xs ≡ false → All (λ x. test x ≡ false) xs
none_any test [] none = search rules
none_any test (x ∷ xs) none = elim (by_test (test x)) [
  | inl t ↦ absurd (let g = rw t at none in cc)
  | inr f ↦ All-cons (λ y. test y ≡ false) x xs f (none_any test xs (let g = rw f at none in g))
]

any_none : {X : Type 0} (test : X → Bool) (xs : List X) → All (λ x. test x ≡ false) xs → list_any test xs ≡ false
any_none test [] all = refl
any_none test (x ∷ xs) all =
    let f : test x ≡ false = All-head (λ y. test y ≡ false) x xs all in
    rw f (any_none test xs (All-tail (λ y. test y ≡ false) x xs all))

pub any_permuted : {X : Type 0} (test : X → Bool) (xs ys : List X) → IsPermutation xs ys
    → list_any test ys ≡ list_any test xs
any_permuted test xs ys same = elim (by_test (list_any test xs)) [
  | inr f ↦ any_none test ys (All-permutation (λ x. test x ≡ false) xs ys same (none_any test xs f)) ∙ sym f
  | inl t ↦ elim (by_test (list_any test ys)) [
    | inl u ↦ u ∙ sym t
    | inr f ↦
        let none = any_none test xs
        (All-permutation (λ x. test x ≡ false) ys xs (IsPermutation-sym xs ys same) (none_any test ys f)) in
        absurd (let g = sym t ∙ none in cc)
  ]
]

-- ---- runs that rise

-- what lies below them they don't have
pub below_runs : (low x : ℕ) (runs : List ClosingRow) → RiseFrom low runs → x < low → is_closed_in runs x ≡ false
below_runs low x [] rise below = refl
below_runs low x (r ∷ runs) rise below =
    let f : (leb r.first x && leb x r.last) ≡ false = apart in
    rw f (below_runs (r.last + 2) x runs rise.2 (omega (arith, rise.0, rise.1, below)))
  where
    apart : (leb r.first x && leb x r.last) ≡ false
    apart =
        let one = rise.0 in
        grind (arith, nat_tests)

-- they rise from every number before the first
pub rise_earlier : (low high : ℕ) (runs : List ClosingRow) → low ≤ high → RiseFrom high runs → RiseFrom low runs
rise_earlier low high [] le rise = tt
rise_earlier low high (r ∷ runs) le rise = (omega (arith, le, rise.0), rise.1, rise.2)
