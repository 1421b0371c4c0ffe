-- The place of the first run that doesn't end before a number.
use Rattle.std.proofs.Common.{◌≡◌, ◌≤◌, ◌<◌, ◌+◌, ◌∙◌, ℕ, zero, suc, Bool, true, false, leb, ltb, List, [], ◌∷◌, length, get_or}
use Rattle.std.proofs.Common.{Option, Some, None, refl, sym, ap, subst, inl, inr, arith}
use Rattle.std.specs.Prelude.{◌&&◌, ◌||◌, slice_get, IfSome}
use Rattle.std.specs.List.Sorted.{IsNonDecreasingBy, IsPartitionPoint}
use Rattle.std.proofs.lemmas.Bool.{leb-false, ltb-true, Decides.nat_tests}
use Rattle.posting_rules.specs.declared.rows.ClosingRow.{ClosingRow}
use Rattle.posting_rules.specs.believed.Closings.{is_closed_in}
use Rattle.posting_rules.proofs.Keyed.{by_test}
use Rattle.posting_rules.specs.Numbers.{RiseFrom}
use Rattle.posting_rules.proofs.Runs.{below_runs}

-- a run, where there is one, begins by the number
abbrev pub begins_by : ℕ → Option ClosingRow → Bool
begins_by x None = false
begins_by x (Some run) = leb run.first x

pub sought : (low x : ℕ) (runs : List ClosingRow) (place : ℕ) → RiseFrom low runs
    → ((k : ℕ) (d : ClosingRow) → k < place → k < length runs → (get_or runs k d).last < x)
    → ((d : ClosingRow) → place < length runs → x ≤ (get_or runs place d).last)
    → is_closed_in runs x ≡ begins_by x (slice_get runs place)
sought low x [] place rise before after = refl
sought low x (r ∷ runs) zero rise before after =
    let within : x ≤ r.last = after r (omega arith) in
    let end : leb x r.last ≡ true = grind (arith, nat_tests) in
    rw (end, below_runs (r.last + 2) x runs rise.2 (omega arith)) (only (leb r.first x))
  where
    only : (b : Bool) → ((b && true) || false) ≡ b
    only true = refl
    only false = refl
sought low x (r ∷ runs) (suc place) rise before after =
    let past : r.last < x = before 0 r (omega arith) (omega arith) in
    let f : (leb r.first x && leb x r.last) ≡ false = grind (arith, nat_tests) in
    rw f
    (sought (r.last + 2) x runs place rise.2 (λ k d lt within. before (suc k) d (omega (arith, lt)) (omega (arith, within)))
    (λ d within. after d (omega (arith, within))))

-- what the lasts of runs are, from a number on
above : (low : ℕ) (runs : List ClosingRow) (j : ℕ) (d : ClosingRow) → RiseFrom low runs → j < length runs
    → low ≤ (get_or runs j d).last
above low [] j d rise lt = absurd (omega (arith, lt))
above low (r ∷ runs) zero d rise lt = omega (arith, rise.0, rise.1)
above low (r ∷ runs) (suc j) d rise lt =
    let more = above (r.last + 2) runs j d rise.2 (omega (arith, lt)) in
    omega (arith, rise.0, rise.1, more)

pub lasts_rise : (low : ℕ) (runs : List ClosingRow) → RiseFrom low runs → IsNonDecreasingBy (λ r. r.last) runs
lasts_rise low [] rise i j d le lt = absurd (omega (arith, lt))
lasts_rise low (r ∷ runs) rise zero zero d le lt = omega arith
lasts_rise low (r ∷ runs) rise zero (suc j) d le lt =
    let more = above (r.last + 2) runs j d rise.2 (omega (arith, lt)) in
    omega (arith, more)
lasts_rise low (r ∷ runs) rise (suc i) zero d le lt = absurd (omega (arith, le))
lasts_rise low (r ∷ runs) rise (suc i) (suc j) d le lt =
    lasts_rise (r.last + 2) runs rise.2 i j d (omega (arith, le)) (omega (arith, lt))

-- the run at the place tells whether one has the number
pub has_is : (all runs again : List ClosingRow) (place x : ℕ) (found : Option ClosingRow) → runs ≡ all → again ≡ runs
    → RiseFrom 0 runs → IsPartitionPoint (λ y. ltb y.last x ≡ true) (λ y. ltb y.last x ≡ false) runs place
    → found ≡ slice_get again place → is_closed_in all x ≡ begins_by x found
has_is all runs again place x found is same rise at looked =
    ap (λ (l : List ClosingRow). is_closed_in l x) (sym is)
    ∙ sought 0 x runs place rise
    (λ k d low within. ltb-true (get_or runs k d).last x (at.0 k d (omega arith) low))
    (λ d within. no_less (get_or runs place d).last x (at.1 place d (omega arith) within))
    ∙ ap (begins_by x) (ap (λ (l : List ClosingRow). slice_get l place) (sym same) ∙ sym looked)
  where
    no_less : (a b : ℕ) → ltb a b ≡ false → b ≤ a
    no_less a b f = grind (arith, nat_tests)

-- ---- the run at a place

record StandsAt (runs : List ClosingRow) (place : ℕ) (run : ClosingRow) : Type 0 where
  within : place < length runs
  there : get_or runs place run ≡ run
  own : run.first ≤ run.last
  has : (y : ℕ) → run.first ≤ y → y ≤ run.last → is_closed_in runs y ≡ true

one_run : (r run : ClosingRow) → (let o : Option ClosingRow = Some r in o) ≡ Some run → r ≡ run
one_run r run is = cc

own_number : (r : ClosingRow) (runs : List ClosingRow) (y : ℕ) → r.first ≤ y → y ≤ r.last → is_closed_in (r ∷ runs) y ≡ true
own_number r runs y low high =
    let t : (leb r.first y && leb y r.last) ≡ true = grind (arith, nat_tests) in
    rw t refl

stands_at : (low : ℕ) (runs : List ClosingRow) (place : ℕ) (run : ClosingRow) → RiseFrom low runs
    → slice_get runs place ≡ Some run → StandsAt runs place run
stands_at low [] place run rise is = absurd cc
stands_at low (r ∷ runs) zero run rise is =
    subst (StandsAt (r ∷ runs) zero) (one_run r run is)
    (record { within = omega arith; there = refl; own = rise.1; has = λ y low high. own_number r runs y low high })
stands_at low (r ∷ runs) (suc place) run rise is =
    let more = stands_at (r.last + 2) runs place run rise.2 is in
    let deep = more.within in
    record {
      within = omega (arith, deep);
      there = more.there;
      own = more.own;
      has = λ y low high. elim (by_test (leb r.first y && leb y r.last)) [
        | inl t ↦ rw t refl
        | inr f ↦ rw f (more.has y low high)
      ];
    }

pub record EndsAbove (all : List ClosingRow) (x : ℕ) (run : ClosingRow) : Type 0 where
  pub above : x < run.last
  pub own : run.first ≤ run.last
  pub has : (y : ℕ) → run.first ≤ y → y ≤ run.last → is_closed_in all y ≡ true

-- the run at the place, before which all end by a number
pub ends_above : (all runs again : List ClosingRow) (place x : ℕ) (found : Option ClosingRow) (run : ClosingRow)
    → runs ≡ all → again ≡ runs → RiseFrom 0 runs
    → IsPartitionPoint (λ y. leb y.last x ≡ true) (λ y. leb y.last x ≡ false) runs place
    → found ≡ slice_get again place → found ≡ Some run → EndsAbove all x run
ends_above all runs again place x found run is same rise at looked some =
    let here = stands_at 0 runs place run rise
    (ap (λ (l : List ClosingRow). slice_get l place) (sym same) ∙ sym looked ∙ some) in
    record {
      above = subst (λ (r : ClosingRow). x < r.last) here.there
          (leb-false (get_or runs place run).last x (at.1 place run (omega arith) here.within));
      own = here.own;
      has = λ y low high. ap (λ (l : List ClosingRow). is_closed_in l y) (sym is) ∙ here.has y low high;
    }

-- ---- the numbers before the run at a place

free_before : (low y : ℕ) (runs : List ClosingRow) (place : ℕ) → RiseFrom low runs
    → ((k : ℕ) (d : ClosingRow) → k < place → k < length runs → (get_or runs k d).last < y)
    → IfSome (slice_get runs place) (λ r. y < r.first) → is_closed_in runs y ≡ false
free_before low y [] place rise before first = refl
free_before low y (r ∷ runs) zero rise before first =
    let f : (leb r.first y && leb y r.last) ≡ false = grind (arith, nat_tests) in
    rw f (below_runs (r.last + 2) y runs rise.2 (omega (arith, rise.1)))
free_before low y (r ∷ runs) (suc place) rise before first =
    let past : r.last < y = before 0 r (omega arith) (omega arith) in
    let f : (leb r.first y && leb y r.last) ≡ false = grind (arith, nat_tests) in
    rw f
    (free_before (r.last + 2) y runs place rise.2
    (λ k d lt within. before (suc k) d (omega (arith, lt)) (omega (arith, within))) first)

-- between a number by which all before the place end, and the run there, none has a number
pub free_between : (all runs again : List ClosingRow) (place x y : ℕ) (found : Option ClosingRow) → runs ≡ all
    → again ≡ runs → RiseFrom 0 runs → IsPartitionPoint (λ r. leb r.last x ≡ true) (λ r. leb r.last x ≡ false) runs place
    → found ≡ slice_get again place → x < y → IfSome found (λ r. y < r.first) → is_closed_in all y ≡ false
free_between all runs again place x y found is same rise at looked over first =
    ap (λ (l : List ClosingRow). is_closed_in l y) (sym is)
    ∙ free_before 0 y runs place rise
    (λ k d lt within. below (get_or runs k d).last (at.0 k d (omega (arith, within)) lt))
    (subst (λ (o : Option ClosingRow). IfSome o (λ r. y < r.first))
    (looked ∙ ap (λ (l : List ClosingRow). slice_get l place) same) first)
  where
    below : (l : ℕ) → leb l x ≡ true → l < y
    below l t = grind (arith, nat_tests)
