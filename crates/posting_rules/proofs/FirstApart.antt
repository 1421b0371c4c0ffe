-- The first number that one of two lists of runs has and the other hasn't.
use Rattle.std.proofs.Common.{◌≡◌, ◌≢◌, ◌≤◌, ◌<◌, ◌+◌, ◌∙◌, ℕ, zero, suc, Bool, true, false, eqb, leb, min, add-one, List, [], ◌∷◌, length, drop}
use Rattle.std.proofs.Common.{Option, Some, None, ◌⊎◌, refl, sym, ap, subst, inl, inr, arith}
use Rattle.std.specs.Prelude.{◌&&◌, slice_get}
use Rattle.std.proofs.lemmas.{Bool.eqb-true, List.drop_all}
use Rattle.std.proofs.lemmas.Bool.Decides.{nat_tests}
use Rattle.posting_rules.specs.declared.rows.ClosingRow.{ClosingRow}
use Rattle.posting_rules.specs.believed.Closings.{is_closed_in}
use Rattle.posting_rules.proofs.Keyed.{by_test}
use Rattle.posting_rules.specs.Numbers.{DifferAt, RiseFrom, SameNumbers, apart_at, between}
use Rattle.posting_rules.proofs.Runs.{below_runs}

abbrev or_else : Option ℕ → Option ℕ → Option ℕ
or_else None next = next
or_else (Some x) next = Some x

abbrev pub first_apart : List ClosingRow → List ClosingRow → Option ℕ
first_apart [] [] = None
first_apart [] (b ∷ bs) = Some b.first
first_apart (a ∷ ones) [] = Some a.first
first_apart (a ∷ ones) (b ∷ bs) = or_else (between a b) (first_apart ones bs)

-- ---- one place after another

pub first_from : (place : ℕ) (one two : List ClosingRow) → first_apart (drop place one) (drop place two)
    ≡ or_else (apart_at (slice_get one place) (slice_get two place)) (first_apart (drop (suc place) one) (drop (suc place) two))
first_from zero [] [] = refl
first_from zero [] (b ∷ bs) = refl
first_from zero (a ∷ ones) [] = refl
first_from zero (a ∷ ones) (b ∷ bs) = refl
first_from (suc place) [] [] = refl
first_from (suc place) [] (b ∷ bs) = nothing place bs
  where
    nothing : (k : ℕ) (l : List ClosingRow) → first_apart [] (drop k l)
        ≡ or_else (apart_at None (slice_get l k)) (first_apart [] (drop (suc k) l))
    nothing zero [] = refl
    nothing zero (x ∷ l) = refl
    nothing (suc k) [] = refl
    nothing (suc k) (x ∷ l) = nothing k l
first_from (suc place) (a ∷ ones) [] = nothing place ones
  where
    nothing : (k : ℕ) (l : List ClosingRow) → first_apart (drop k l) []
        ≡ or_else (apart_at (slice_get l k) None) (first_apart (drop (suc k) l) [])
    nothing zero [] = refl
    nothing zero (x ∷ l) = refl
    nothing (suc k) [] = refl
    nothing (suc k) (x ∷ l) = nothing k l
first_from (suc place) (a ∷ ones) (b ∷ bs) = first_from place ones bs

pub none_here : (place : ℕ) (one two : List ClosingRow) → apart_at (slice_get one place) (slice_get two place) ≡ None
    → first_apart (drop place one) (drop place two) ≡ first_apart (drop (place + 1) one) (drop (place + 1) two)
none_here place one two none =
    first_from place one two
    ∙ ap (λ (o : Option ℕ). or_else o (first_apart (drop (suc place) one) (drop (suc place) two))) none
    ∙ ap (λ (k : ℕ). first_apart (drop k one) (drop k two)) (sym (add-one place))

-- what was looked up at the place
pub of_places : (one two : List ClosingRow) (place : ℕ) (a b : Option ClosingRow) (o found : Option ℕ) → o ≡ apart_at a b
    → a ≡ slice_get one place → b ≡ slice_get two place → o ≡ found
    → apart_at (slice_get one place) (slice_get two place) ≡ found
of_places one two place a b o found is first second same =
    sym (is ∙ ap (λ (x : Option ClosingRow). apart_at x b) first ∙ ap (apart_at (slice_get one place)) second) ∙ same

pub one_here : (place x : ℕ) (one two : List ClosingRow) → apart_at (slice_get one place) (slice_get two place) ≡ Some x
    → first_apart (drop place one) (drop place two) ≡ Some x
one_here place x one two some =
    first_from place one two
    ∙ ap (λ (o : Option ℕ). or_else o (first_apart (drop (suc place) one) (drop (suc place) two))) some

-- ---- what it says

same_run : (a b : ClosingRow) → between a b ≡ None → a ≡ b
same_run a b none = elim (by_test (eqb a.first b.first)) [
  | inl f ↦ elim (by_test (eqb a.last b.last)) [
    | inl l ↦ rows (eqb-true a.first b.first f) (eqb-true a.last b.last l)
    | inr l ↦ absurd (let g = rw (f, l) at none in cc)
  ]
  | inr f ↦ absurd (let g = rw f at none in cc)
]
  where
    rows : a.first ≡ b.first → a.last ≡ b.last → a ≡ b
    rows f l = ap (λ (k : ℕ). let r : ClosingRow = record { last = k; first = a.first } in r) l
        ∙ ap (λ (k : ℕ). let r : ClosingRow = record { last = b.last; first = k } in r) f

pub none_apart : (one two : List ClosingRow) → first_apart one two ≡ None → one ≡ two
none_apart [] [] none = refl
none_apart [] (b ∷ bs) none = absurd cc
none_apart (a ∷ ones) [] none = absurd cc
none_apart (a ∷ ones) (b ∷ bs) none = by (λ rest. none_apart ones bs rest) (between a b) refl
  where
    by : (first_apart ones bs ≡ None → ones ≡ bs) → (o : Option ℕ) → between a b ≡ o → a ∷ ones ≡ b ∷ bs
    by others None e =
        let rest = others (let g = rw e at none in g) in
        ap (λ (r : ClosingRow). r ∷ ones) (same_run a b e) ∙ ap (λ (l : List ClosingRow). b ∷ l) rest
    by others (Some x) e = absurd (let g = rw e at none in cc)

-- one has the number, and the other hasn't, and it is no less than what they rise from
pub record Apart (low x : ℕ) (one two : List ClosingRow) : Type 0 where
  pub above : low ≤ x
  pub differ : DifferAt one two x

ordered : (m n : ℕ) → eqb m n ≡ false → (m < n) ⊎ (n < m)
ordered m n f = elim (by_test (leb m n)) [
  | inl t ↦ inl (grind (arith, nat_tests))
  | inr g ↦ inr (grind (arith, nat_tests))
]

has_own : (r : ClosingRow) (runs : List ClosingRow) (x : ℕ) → r.first ≤ x → x ≤ r.last
    → is_closed_in (r ∷ runs) x ≡ true
has_own r runs x low high =
    let t : (leb r.first x && leb x r.last) ≡ true = grind (arith, nat_tests) in
    rw t refl

-- beyond a run its number lies with those after it
beyond : (r : ClosingRow) (runs : List ClosingRow) (x : ℕ) → r.last < x → is_closed_in (r ∷ runs) x ≡ is_closed_in runs x
beyond r runs x high =
    let f : (leb r.first x && leb x r.last) ≡ false = grind (arith, nat_tests) in
    rw f refl

two_tests : (a b : Bool) → a ≡ true → b ≡ false → a ≢ b
two_tests a b t f same = absurd (let g = sym t ∙ same ∙ f in cc)

other_tests : (a b : Bool) → a ≡ false → b ≡ true → a ≢ b
other_tests a b f t same = absurd (let g = sym t ∙ sym same ∙ f in cc)

module _ (a b : ClosingRow) (ones bs : List ClosingRow) where
  -- one begins earlier
  earlier : (low : ℕ) → RiseFrom low (a ∷ ones) → RiseFrom low (b ∷ bs) → a.first < b.first → Apart low a.first (a ∷ ones) (b ∷ bs)
  earlier low one two lt = record {
    above = one.0;
    differ = two_tests (is_closed_in (a ∷ ones) a.first) (is_closed_in (b ∷ bs) a.first)
        (has_own a ones a.first (omega arith) one.1)
        (below_runs b.first a.first (b ∷ bs) (omega arith, two.1, two.2) lt);
  }

  -- both begin together, and one ends earlier
  shorter : (low : ℕ) → RiseFrom low (a ∷ ones) → RiseFrom low (b ∷ bs) → a.first ≡ b.first → a.last < b.last
      → Apart low (a.last + 1) (a ∷ ones) (b ∷ bs)
  shorter low one two same lt = record {
    above = omega (arith, one.0, one.1);
    differ = other_tests (is_closed_in (a ∷ ones) (a.last + 1)) (is_closed_in (b ∷ bs) (a.last + 1))
        (beyond a ones (a.last + 1) (omega arith) ∙ below_runs (a.last + 2) (a.last + 1) ones one.2 (omega arith))
        (has_own b bs (a.last + 1) (omega (arith, one.1, same)) (omega (arith, lt)));
  }

turned : (low x : ℕ) (one two : List ClosingRow) → Apart low x one two → Apart low x two one
turned low x one two apart = record { above = apart.above; differ = λ e. apart.differ (sym e) }

at_number : (low x y : ℕ) (one two : List ClosingRow) → y ≡ x → Apart low y one two → Apart low x one two
at_number low x y one two is apart = subst (λ (k : ℕ). Apart low k one two) is apart

one_some : (x y : ℕ) → (let o : Option ℕ = Some x in o) ≡ Some y → x ≡ y
one_some x y is = cc

-- a run of two that aren't one
between_apart : (low x : ℕ) (a b : ClosingRow) (ones bs : List ClosingRow) → RiseFrom low (a ∷ ones) → RiseFrom low (b ∷ bs)
    → between a b ≡ Some x → Apart low x (a ∷ ones) (b ∷ bs)
between_apart low x a b ones bs one two some = elim (by_test (eqb a.first b.first)) [
  | inl f ↦ elim (by_test (eqb a.last b.last)) [
    | inl l ↦ absurd (let g = rw (f, l) at some in cc)
    | inr l ↦
        let same = eqb-true a.first b.first f in
        let is : min a.last b.last + 1 ≡ x = one_some (min a.last b.last + 1) x (let g = rw (f, l) at some in g) in
        elim (ordered a.last b.last l) [
          | inl lt ↦ at_number low x (a.last + 1) (a ∷ ones) (b ∷ bs) (omega (arith, is, lt)) (shorter a b ones bs low one two same lt)
          | inr gt ↦
              at_number low x (b.last + 1) (a ∷ ones) (b ∷ bs) (omega (arith, is, gt))
              (turned low (b.last + 1) (b ∷ bs) (a ∷ ones) (shorter b a bs ones low two one (sym same) gt))
        ]
  ]
  | inr f ↦
      let is : min a.first b.first ≡ x = one_some (min a.first b.first) x (let g = rw f at some in g) in
      elim (ordered a.first b.first f) [
        | inl lt ↦ at_number low x a.first (a ∷ ones) (b ∷ bs) (omega (arith, is, lt)) (earlier a b ones bs low one two lt)
        | inr gt ↦
            at_number low x b.first (a ∷ ones) (b ∷ bs) (omega (arith, is, gt))
            (turned low b.first (b ∷ bs) (a ∷ ones) (earlier b a bs ones low two one gt))
      ]
]

pub some_apart : (low x : ℕ) (one two : List ClosingRow) → RiseFrom low one → RiseFrom low two
    → first_apart one two ≡ Some x → Apart low x one two
some_apart low x [] [] one two some = absurd cc
some_apart low x [] (b ∷ bs) one two some =
    at_number low x b.first [] (b ∷ bs) (one_some b.first x some) (record {
      above = two.0;
      differ = other_tests false (is_closed_in (b ∷ bs) b.first) refl (has_own b bs b.first (omega arith) two.1);
    })
some_apart low x (a ∷ ones) [] one two some =
    at_number low x a.first (a ∷ ones) [] (one_some a.first x some) (record {
      above = one.0;
      differ = two_tests (is_closed_in (a ∷ ones) a.first) false (has_own a ones a.first (omega arith) one.1) refl;
    })
some_apart low x (a ∷ ones) (b ∷ bs) one two some =
    by (λ low_two rest. some_apart (a.last + 2) x ones bs one.2 low_two rest) (between a b) refl
  where
    by : (RiseFrom (a.last + 2) bs → first_apart ones bs ≡ Some x → Apart (a.last + 2) x ones bs)
        → (o : Option ℕ) → between a b ≡ o → Apart low x (a ∷ ones) (b ∷ bs)
    by others None e =
        let same = same_run a b e in
        let more = others
        (subst (λ (r : ClosingRow). RiseFrom (r.last + 2) bs) (sym same) two.2) (let g = rw e at some in g) in
        record {
          above = omega (arith, one.0, one.1, more.above);
          differ = λ is. more.differ
              (sym (beyond a ones x (omega (arith, more.above))) ∙ is
              ∙ beyond b bs x (let l : a.last ≡ b.last = ap (λ (r : ClosingRow). r.last) same in omega (arith, l, more.above)));
        }
    by others (Some y) e = between_apart low x a b ones bs one two (e ∙ (let g = rw e at some in g))

-- ---- from the first place on

pub same_all : (one two : List ClosingRow) (most : ℕ) → length one ≤ most → length two ≤ most
    → first_apart one two ≡ first_apart (drop most one) (drop most two) → SameNumbers one two
same_all one two most few less is x =
    let none : first_apart one two ≡ None =
    is ∙ ap (λ (l : List ClosingRow). first_apart l (drop most two)) (drop_all most one few)
    ∙ ap (λ (l : List ClosingRow). first_apart [] l) (drop_all most two less) in
    ap (λ (l : List ClosingRow). is_closed_in l x) (none_apart one two none)

pub differ_here : (one two : List ClosingRow) (place x : ℕ) → RiseFrom 0 one → RiseFrom 0 two
    → first_apart one two ≡ first_apart (drop place one) (drop place two)
    → apart_at (slice_get one place) (slice_get two place) ≡ Some x → DifferAt one two x
differ_here one two place x low high is here = (some_apart 0 x one two low high (is ∙ one_here place x one two here)).differ
