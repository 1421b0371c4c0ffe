-- What two walks gave, and the first rows of theirs that differ.
use Rattle.std.proofs.Common.{◌≡◌, ◌<◌, ◌≤◌, ◌++◌, ℕ, ℤ, pos, Bool, true, false, List, [], ◌∷◌, find, Option, Some, None, Ok}
use Rattle.std.proofs.Common.{Less, int_cmp, int_eq, refl, sym, ap, subst, ◌∙◌, inl, inr, arith}
use Rattle.std.specs.{Prelude.◌≤ℤ◌, Prelude.◌<ℤ◌, Prelude.IsSome, Prelude.option_map, List.AllByRecursion}
use Rattle.std.proofs.lemmas.{Bool.cases_Bool, Int.ints}
use Rattle.posting_rules.specs.declared.fault.Rule.{Rule}
use Rattle.sql_meanings.proofs.Places.{all_weaker}
use Rattle.walked_rows.proofs.RisingRows.{find_after}
use Rattle.bank_store.specs.Walking.{Steps}
use Rattle.bank_replays.specs.NextRows.{AreFirst, DifferFirst, HaveKeysFrom, HaveRisingKeys, next_of, under}
use Rattle.bank_replays.specs.declared.difference.Sides.{Sides}

-- ---- what two walks gave

-- of two lists these were given, the same of both, and these are to come
pub record SameSoFar {X : Type 0} (all others rest rest' : List X) : Type 0 where
  pub given : List X
  pub are : given ++ rest ≡ all
  pub are_due : given ++ rest' ≡ others

pub row_after : {X : Type 0} (xs : List X) (x : X) (more : List X) → (xs ++ x ∷ []) ++ more ≡ xs ++ x ∷ more
row_after [] x more = refl
row_after (y ∷ xs) x more = ap (λ l. y ∷ l) (row_after xs x more)

-- a row more of both
pub so_far_more : {X : Type 0} (all others rest rest' next next' : List X) (x : X)
    → SameSoFar all others rest rest' → (rest ≡ x ∷ next) × (rest' ≡ x ∷ next') → SameSoFar all others next next'
so_far_more all others rest rest' next next' x it step = record {
  given = it.given ++ x ∷ [];
  are = row_after it.given x next ∙ ap (λ l. it.given ++ l) (sym step.0) ∙ it.are;
  are_due = row_after it.given x next' ∙ ap (λ l. it.given ++ l) (sym step.1) ∙ it.are_due;
}

-- nothing is to come of either, or the same
pub so_far_same : {X : Type 0} (all others rest rest' : List X) → SameSoFar all others rest rest' → rest ≡ rest'
    → all ≡ others
so_far_same all others rest rest' it same =
    sym it.are ∙ ap (λ l. it.given ++ l) same ∙ it.are_due

-- ---- numbers

int_is : (a b : ℤ) → int_eq a b ≡ true → a ≡ b
int_is a b h = grind (arith, ints, h)

is_not_below : (a k : ℤ) → int_eq a k ≡ true → a <ℤ k → ⊥
is_not_below a k h low = grind (arith, ints, h, low)

is_not_above : (a k : ℤ) → int_eq a k ≡ true → k <ℤ a → ⊥
is_not_above a k h low = grind (arith, ints, h, low)

less_then : (a b k : ℤ) → int_cmp a b ≡ Less → k ≤ℤ a → k <ℤ b
less_then a b k h low = grind (arith, ints, h, low)

less_is : (a b : ℤ) → int_cmp a b ≡ Less → a <ℤ b
less_is a b h = grind (arith, ints, h)

below_then : (a k j : ℤ) → j <ℤ k → k ≤ℤ a → j <ℤ a
below_then a k j low at = grind (arith, ints, low, at)

below_from : (j a : ℤ) → j <ℤ a → j ≤ℤ a
below_from j a low = grind (arith, ints, low)

not_true : false ≡ true → ⊥
not_true is = cc

or_none : {X : Type 0} (p : X → Bool) (xs ys : List X) → find p ys ≡ None → find p (xs ++ ys) ≡ find p xs
or_none p [] ys none = none
or_none p (x ∷ xs) ys none = elim (cases_Bool (p x)) [ inl t ↦ rw t refl | inr f ↦ rw f (or_none p xs ys none) ]

module _ {X : Type 0} (key : X → ℤ) where
  -- a key that no row has
  none_above : (k : ℤ) (xs : List X) → AllByRecursion (λ x. k <ℤ key x) xs → under key xs k ≡ None
  none_above k [] all = refl
  none_above k (x ∷ xs) all = elim (cases_Bool (int_eq (key x) k)) [
    | inl t ↦ absurd (is_not_above (key x) k t all.0)
    | inr f ↦ rw f (none_above k xs all.1)
  ]

  none_below : (k : ℤ) (xs : List X) → AllByRecursion (λ x. key x <ℤ k) xs → under key xs k ≡ None
  none_below k [] all = refl
  none_below k (x ∷ xs) all = elim (cases_Bool (int_eq (key x) k)) [
    | inl t ↦ absurd (is_not_below (key x) k t all.0)
    | inr f ↦ rw f (none_below k xs all.1)
  ]

  -- ---- keys that rise

  later : (x : X) (more : List X) → HaveRisingKeys key (x ∷ more) → (k : ℤ) → k ≤ℤ key x
      → AllByRecursion (λ y. k <ℤ key y) more
  later x more rise k low =
      all_weaker (λ y. int_cmp (key x) (key y) ≡ Less) (λ y. k <ℤ key y) (λ y less. less_then (key x) (key y) k less low)
      more rise.0

  rising_tail : (given rest : List X) → HaveRisingKeys key (given ++ rest) → HaveRisingKeys key rest
  rising_tail [] rest rise = rise
  rising_tail (x ∷ given) rest rise = rising_tail given rest rise.1

  in_middle : (P : X → Type 0) (given : List X) (x : X) (more : List X) → AllByRecursion P (given ++ x ∷ more) → P x
  in_middle P [] x more all = all.0
  in_middle P (y ∷ given) x more all = in_middle P given x more all.1

  lower : (given : List X) (x : X) (more : List X) → HaveRisingKeys key (given ++ x ∷ more)
      → AllByRecursion (λ y. key y <ℤ key x) given
  lower [] x more rise = tt
  lower (y ∷ given) x more rise = (
    less_is (key y) (key x) (in_middle (λ z. int_cmp (key y) (key z) ≡ Less) given x more rise.0),
    lower given x more rise.1,
  )

  -- ---- a step of a walk

  module _ {R : Type 0} (item : R → X) (Breaks : Rule → X → Type 0) (given coming rest : List X) where
    up : (r : R) → coming ≡ item r ∷ rest → HaveRisingKeys key (given ++ coming) → HaveRisingKeys key (item r ∷ rest)
    up r step rise = subst (HaveRisingKeys key) step (rising_tail given coming rise)

    -- what comes next is under its key
    at_key : (next : Option R) → Steps item Breaks coming rest (Ok next) → HaveRisingKeys key (given ++ coming)
        → (k : ℤ) → HaveKeysFrom key k (next_of key item next) → AllByRecursion (λ y. key y <ℤ k) given
        → under key (next_of key item next) k ≡ under key (given ++ coming) k
    at_key None step rise k from low =
        sym (ap (λ (c : List X). under key (given ++ c) k) step.0
        ∙ find_after (λ x. int_eq (key x) k) given [] (none_below k given low))
    at_key (Some r) step rise k from low =
        sym (ap (λ (c : List X). under key (given ++ c) k) step
        ∙ find_after (λ x. int_eq (key x) k) given (item r ∷ rest) (none_below k given low)
        ∙ own (later (item r) rest (up r step rise) k from.0))
      where
        own : AllByRecursion (λ y. k <ℤ key y) rest → under key (item r ∷ rest) k ≡ under key (item r ∷ []) k
        own above = elim (cases_Bool (int_eq (key (item r)) k)) [
          | inl t ↦ rw t refl
          | inr f ↦ rw f (none_above k rest above)
        ]

    above : (k j : ℤ) → j <ℤ k → (next : Option R) → Steps item Breaks coming rest (Ok next)
        → HaveRisingKeys key (given ++ coming) → HaveKeysFrom key k (next_of key item next)
        → AllByRecursion (λ y. j <ℤ key y) coming
    above k j low None step rise from = subst (AllByRecursion (λ y. j <ℤ key y)) (sym step.0) tt
    above k j low (Some r) step rise from =
        let one = below_then (key (item r)) k j low from.0 in
        subst (AllByRecursion (λ y. j <ℤ key y)) (sym step)
        (one, later (item r) rest (up r step rise) j (below_from j (key (item r)) one))

    -- and under a lesser key is what was given
    at_lesser : (next : Option R) → Steps item Breaks coming rest (Ok next) → HaveRisingKeys key (given ++ coming)
        → (k j : ℤ) → HaveKeysFrom key k (next_of key item next) → j <ℤ k
        → under key (given ++ coming) j ≡ under key given j
    at_lesser next step rise k j from low =
        or_none (λ x. int_eq (key x) j) given coming (none_above j coming (above k j low next step rise from))

    -- what was given has lesser keys
    given_lower : (next : Option R) → Steps item Breaks coming rest (Ok next) → HaveRisingKeys key (given ++ coming)
        → (k : ℤ) → IsSome (under key (next_of key item next) k) → AllByRecursion (λ y. key y <ℤ k) given
    given_lower None step rise k some = absurd (not_true some)
    given_lower (Some r) step rise k some = elim (cases_Bool (int_eq (key (item r)) k)) [
      | inl t ↦
          subst (λ (n : ℤ). AllByRecursion (λ y. key y <ℤ n) given) (int_is (key (item r)) k t)
          (lower given (item r) rest (subst (λ (c : List X). HaveRisingKeys key (given ++ c)) step rise))
      | inr f ↦ absurd (not_true (rw f at some))
    ]

  -- the rows that come first under the lesser key are the first that differ
  module _ {R : Type 0} (item : R → X) (Breaks : Rule → X → Type 0) (given coming rest coming_due rest_due : List X)
      (stands due : Option R) (step : Steps item Breaks coming rest (Ok stands))
      (step_due : Steps item Breaks coming_due rest_due (Ok due)) (s : Sides R)
      (first : AreFirst key item stands due s) (rise : HaveRisingKeys key (given ++ coming))
      (rise_due : HaveRisingKeys key (given ++ coming_due)) where
    some_item : (x : Option R) → IsSome x → IsSome (option_map item x)
    some_item None some = some
    some_item (Some x) some = some

    all_lower : AllByRecursion (λ y. key y <ℤ first.at) given
    all_lower = elim first.one [
      | inl here ↦
          given_lower item Breaks given coming rest stands step rise first.at
          (subst IsSome first.stands_at (some_item s.stands here))
      | inr there ↦
          given_lower item Breaks given coming_due rest_due due step_due rise_due first.at
          (subst IsSome first.due_at (some_item s.due there))
    ]

    pub first_differ : DifferFirst key (given ++ coming) (given ++ coming_due) (option_map item s.stands)
        (option_map item s.due)
    first_differ = record {
      at = first.at;
      stands_at = first.stands_at ∙ at_key item Breaks given coming rest stands step rise first.at first.from all_lower;
      due_at = first.due_at
          ∙ at_key item Breaks given coming_due rest_due due step_due rise_due first.at first.from_due all_lower;
      differ = first.differ;
      before = λ j lesser.
          at_lesser item Breaks given coming rest stands step rise first.at j first.from lesser
          ∙ sym (at_lesser item Breaks given coming_due rest_due due step_due rise_due first.at j first.from_due lesser);
    }

  -- so of those that were given of two walks
  pub told_first : {R : Type 0} (item : R → X) (Breaks : Rule → X → Type 0)
      (all others coming rest coming_due rest_due : List X) (stands due : Option R) (s : Sides R)
      → SameSoFar all others coming coming_due → Steps item Breaks coming rest (Ok stands)
      → Steps item Breaks coming_due rest_due (Ok due) → AreFirst key item stands due s → HaveRisingKeys key all
      → HaveRisingKeys key others → DifferFirst key all others (option_map item s.stands) (option_map item s.due)
  told_first item Breaks all others coming rest coming_due rest_due stands due s so step step_due first rise rise_due =
      subst (λ (l : List X). DifferFirst key l others (option_map item s.stands) (option_map item s.due)) so.are
      (subst (λ (l : List X). DifferFirst key (so.given ++ coming) l (option_map item s.stands) (option_map item s.due))
      so.are_due
      (first_differ item Breaks so.given coming rest coming_due rest_due stands due step step_due s first
      (subst (HaveRisingKeys key) (sym so.are) rise) (subst (HaveRisingKeys key) (sym so.are_due) rise_due)))

-- ---- the rows under the lesser of two keys

eq_itself : (z : ℤ) → int_eq z z ≡ true
eq_itself z = grind (arith, ints)

eq_number : (a b : ℤ) (m n : ℕ) → a ≡ pos m → b ≡ pos n → m ≤ n → n ≤ m → int_eq b a ≡ true
eq_number a b m n is is' low high = grind (arith, ints)

not_number : (a b : ℤ) (m n : ℕ) → a ≡ pos m → b ≡ pos n → m < n → int_eq b a ≡ false
not_number a b m n is is' low = grind (arith, ints)

at_least : (z : ℤ) → z ≤ℤ z
at_least z = grind (arith, ints)

from_number : (a b : ℤ) (m n : ℕ) → a ≡ pos m → b ≡ pos n → m ≤ n → a ≤ℤ b
from_number a b m n is is' low = grind (arith, ints)

some_not_nothing : {X : Type 0} (x : X) → (let o : Option X = Some x in o) ≡ None → ⊥
some_not_nothing x is = cc

one_some : {X : Type 0} (x y : X) → (let o : Option X = Some x in o) ≡ Some y → x ≡ y
one_some x y is = cc

module _ {R X : Type 0} (key : X → ℤ) (item : R → X) where
  itself : (r : R) → Some (item r) ≡ under key (item r ∷ []) (key (item r))
  itself r = rw (eq_itself (key (item r))) refl

  other : (r : R) (k : ℤ) → int_eq (key (item r)) k ≡ true → Some (item r) ≡ under key (item r ∷ []) k
  other r k is = rw is refl

  absent : (r : R) (k : ℤ) → int_eq (key (item r)) k ≡ false → None ≡ under key (item r ∷ []) k
  absent r k is = rw is refl

  pub stands_alone : (a : R) → AreFirst key item (Some a) None (record { stands = Some a; due = None })
  stands_alone a = record {
    at = key (item a);
    stands_at = itself a;
    due_at = refl;
    from = (at_least (key (item a)), tt);
    from_due = tt;
    one = inl refl;
    differ = some_not_nothing (item a);
  }

  pub due_alone : (b : R) → AreFirst key item None (Some b) (record { stands = None; due = Some b })
  due_alone b = record {
    at = key (item b);
    stands_at = refl;
    due_at = itself b;
    from = tt;
    from_due = (at_least (key (item b)), tt);
    one = inr refl;
    differ = λ is. some_not_nothing (item b) (sym is);
  }

  module _ (a b : R) (m n : ℕ) (is : key (item a) ≡ pos m) (is' : key (item b) ≡ pos n) where
    pub stands_first : m < n → AreFirst key item (Some a) (Some b) (record { stands = Some a; due = None })
    stands_first low = record {
      at = key (item a);
      stands_at = itself a;
      due_at = absent b (key (item a)) (not_number (key (item a)) (key (item b)) m n is is' low);
      from = (at_least (key (item a)), tt);
      from_due = (from_number (key (item a)) (key (item b)) m n is is' (omega (arith, low)), tt);
      one = inl refl;
      differ = some_not_nothing (item a);
    }

    pub due_first : n < m → AreFirst key item (Some a) (Some b) (record { stands = None; due = Some b })
    due_first low = record {
      at = key (item b);
      stands_at = absent a (key (item b)) (not_number (key (item b)) (key (item a)) n m is' is low);
      due_at = itself b;
      from = (from_number (key (item b)) (key (item a)) n m is' is (omega (arith, low)), tt);
      from_due = (at_least (key (item b)), tt);
      one = inr refl;
      differ = λ same. some_not_nothing (item b) (sym same);
    }

    pub both_first : m ≤ n → n ≤ m → (item a ≡ item b → ⊥)
        → AreFirst key item (Some a) (Some b) (record { stands = Some a; due = Some b })
    both_first low high other_item = record {
      at = key (item a);
      stands_at = itself a;
      due_at = other b (key (item a)) (eq_number (key (item a)) (key (item b)) m n is is' low high);
      from = (at_least (key (item a)), tt);
      from_due = (from_number (key (item a)) (key (item b)) m n is is' low, tt);
      one = inl refl;
      differ = λ same. other_item (one_some (item a) (item b) same);
    }
