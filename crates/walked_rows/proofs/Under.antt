-- The first of the rows that were found beside others.
use Rattle.std.proofs.Common.{◌≡◌, ◌<ℤ◌, ◌≤ℤ◌, ◌+ℤ◌, ℤ, pos, List, [], ◌∷◌, map, find}
use Rattle.std.proofs.Common.{true, false, Some, None, Option, int_cmp, refl, sym, ap, subst, ◌∙◌, inl}
use Rattle.std.proofs.Common.{inr, arith}
use Rattle.std.specs.{Prelude.IfSome, Ordering.int_eq, Ordering.is_ge}
use Rattle.std.proofs.{lemmas.Bool.cases_Bool, lemmas.Int.ints}
use Rattle.sqlite.specs.declared.error.Error.{Error}
use Rattle.posting_rules.specs.declared.fault.Rule.{Rule}
use Rattle.sql_meanings.specs.believed.Entries.{Entry, Rise, has_key}
use Rattle.sql_meanings.specs.Seeks.{is_from}
use Rattle.store_rows.specs.declared.fault.TableFault.{TableFault, TheVariants.Sqlite, TheVariants.Damaged}
use Rattle.walked_rows.specs.{StepOutcomes.BreaksFirst, Pairs.BreaksUnder, Pairs.row_under, Rising.RisesFrom, Rows.rows_from}
use Rattle.walked_rows.proofs.Gathering.{first_left, found_of}

-- ---- keys

below_other : (a k : ℤ) → is_ge (int_cmp a k) ≡ false → int_eq a k ≡ false
below_other a k low = grind (arith, ints)

equal_key : (a k : ℤ) → is_ge (int_cmp a k) ≡ true → a ≤ℤ k → int_eq a k ≡ true
equal_key a k from low = grind (arith, ints)

itself : (a : ℤ) → is_ge (int_cmp a a) ≡ true
itself a = grind (arith, ints)

below_too : (a k b : ℤ) → is_ge (int_cmp a k) ≡ false → is_ge (int_cmp b k) ≡ true
    → is_ge (int_cmp a b) ≡ false
below_too a k b low from = grind (arith, ints)

-- ---- the first of the rows from a number on

-- is found from its own key on too
found_again : (k : ℤ) (es : List Entry) (e : Entry) → find (is_from k) es ≡ Some e → is_from k e ≡ true
    → find (is_from e.key) es ≡ Some e
found_again k [] e some from = absurd (cc)
found_again k (x ∷ xs) e some from = elim (cases_Bool (is_from k x)) [
  | inl here ↦ let same : x ≡ e = let it = rw here at some in cc in
      let at : is_from e.key x ≡ true = subst (λ (y : Entry). is_from e.key y ≡ true) (sym same)
      (itself e.key) in
      rw at (ap Some same)
  | inr away ↦ rw (below_too x.key k e.key away from) (found_again k xs e (rw away at some) from)
]

passes : (k : ℤ) (es : List Entry) (e : Entry) → find (is_from k) es ≡ Some e → is_from k e ≡ true
passes k [] e some = absurd (cc)
passes k (x ∷ xs) e some = elim (cases_Bool (is_from k x)) [
  | inl here ↦ let same : x ≡ e = let it = rw here at some in cc in subst (λ y. is_from k y ≡ true) same here
  | inr away ↦ passes k xs e (rw away at some)
]

-- those from its key on are the same
pub from_its_key : (k : ℤ) (es : List Entry) (e : Entry) (more : List Entry) → Rise es
    → rows_from k es ≡ e ∷ more → rows_from k es ≡ rows_from e.key es
from_its_key k es e more rise is =
    let some = found_of (is_from k) es e more is in
    first_left k es e rise some
    ∙ sym (first_left e.key es e rise (found_again k es e some (passes k es e some)))

-- it is under the number, unless it is above it
pub first_under : (k : ℤ) (es : List Entry) (e : Entry) (more : List Entry) → rows_from k es ≡ e ∷ more
    → e.key ≤ℤ k → row_under es k ≡ Some e
first_under k [] e more is low = absurd (cc)
first_under k (x ∷ xs) e more is low = elim (cases_Bool (is_from k x)) [
  | inl here ↦ let same : x ≡ e = let it = rw here at is in cc in
      let at : has_key k x ≡ true =
      equal_key x.key k here (subst (λ (y : Entry). y.key ≤ℤ k) (sym same) low) in
      rw at (ap Some same)
  | inr away ↦ rw (below_other x.key k away) (first_under k xs e more (rw away at is) low)
]

-- ---- faults

-- the fault of the first that can't be read
pub broken_first : {X : Type 0} (Because : Error → Type 0) (Breaks : Rule → X → Type 0) (items : List X)
    (fault : TableFault) (broken : Rule)
    → fault ≡ Damaged broken → BreaksFirst Because Breaks items fault
    → BreaksFirst Because Breaks items (Damaged broken)
broken_first Because Breaks items fault broken is h = subst (BreaksFirst Because Breaks items) is h

-- where the store can't have failed
pub never_under : (Failed : Error → Type 0) (Breaks : Rule → Entry → Type 0) (k : ℤ) (es : List Entry)
    (fault : TableFault) → BreaksUnder (λ _. ⊥) Breaks k es fault → BreaksUnder Failed Breaks k es fault
never_under Failed Breaks k es (Sqlite e) never = absurd never
never_under Failed Breaks k es (Damaged broken) broke = broke

-- ---- keys that rise

module _ {R : Type 0} (key : R → ℤ) where
  last_above : (from : ℤ) (rs : List R) (k : ℤ) → RisesFrom from (map key rs) (Some k) → from ≤ℤ k
  last_above from [] k rises = rises
  last_above from (r ∷ rs) k rises =
      let first : from ≤ℤ key r = rises.0 in let more = last_above (key r +ℤ pos 1) rs k rises.1 in omega
      (arith, ints)

  -- the others follow above the number
  pub beyond : (from : ℤ) (rs : List R) (rest : Option ℤ) → RisesFrom from (map key rs) rest
      → (rs ≡ [] → rest ≡ None)
      → IfSome rest (λ k. from <ℤ k)
  beyond from rs None rises ended = tt
  beyond from [] (Some k) rises ended = let none = ended refl in absurd (cc)
  beyond from (r ∷ rs) (Some k) rises ended =
      let first : from ≤ℤ key r = rises.0 in let more = last_above (key r +ℤ pos 1) rs k rises.1 in omega
      (arith, ints)
