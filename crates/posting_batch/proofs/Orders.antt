-- Slots that are placed in the order of their keys.
use Rattle.std.proofs.Common.{◌≡◌, ℕ, Bool, true, false, eqb, ltb, List, [], ◌∷◌, map, refl, ◌∙◌, arith, inl, inr}
use Rattle.std.proofs.Common.{sym, subst}
use Rattle.std.specs.Prelude.{nat_eq, IsSome, IsTrue, ◌&&◌, ◌||◌}
use Rattle.std.specs.List.{find, AllByRecursion, IsDistinct}
use Rattle.std.proofs.Math.Bool.{or-true}
use Rattle.std.proofs.lemmas.Bool.{and_parts, or_parts, ltb-true, ltb-false, eqb-true, eqb-false, lt-ltb, eq-eqb, ne_eqb}
use Rattle.std.proofs.lemmas.Map.Keys.{IsDistinct-cons}
use Rattle.posting_rules.specs.believed.Tables.{HasKeys}
use Rattle.posting_rules.proofs.Keyed.{by_test}
use Rattle.posting_batch.specs.Placed.{placed, number_below, number_same, request_below, request_same, IsRising}

-- ---- what is there once a slot is placed

module _ {S : Type 0} (below same : S → S → Bool) (e : S) where
  pub placed_has : same e e ≡ true → (xs : List S) → IsSome (find (λ s. same s e) (placed below same e xs))
  placed_has t [] = rw t refl
  placed_has t (s ∷ xs) =
      elim (by_test (below s e)) [
        | inl l ↦ rw l (elim (by_test (same s e)) [ inl u ↦ rw u refl | inr g ↦ rw g (placed_has t xs) ])
        | inr f ↦ elim (by_test (same s e)) [
          | inl u ↦ rw (f, u, u) refl
          | inr g ↦ rw (f, g, t) refl
        ]
      ]

  pub placed_keeps : (test : S → Bool) (xs : List S) → IsSome (find test xs)
      → IsSome (find test (placed below same e xs))
  placed_keeps test [] there = absurd cc
  placed_keeps test (s ∷ xs) there =
      elim (by_test (below s e)) [
        | inl t ↦ rw t (elim (by_test (test s))
            [ inl u ↦ rw u refl | inr g ↦ rw g (placed_keeps test xs (let h = rw g at there in h)) ])
        | inr f ↦ elim (by_test (same s e)) [
          | inl u ↦ rw (f, u) there
          | inr g ↦ rw (f, g) (elim (by_test (test e)) [ inl v ↦ rw v refl | inr w ↦ rw w there ])
        ]
      ]

  pub all-placed : (P : S → Type 0) (xs : List S) → P e → AllByRecursion P xs
      → AllByRecursion P (placed below same e xs)
  all-placed P [] new all = (new, tt)
  all-placed P (s ∷ xs) new all =
      elim (by_test (below s e)) [
        | inl t ↦ rw t (all.0, all-placed P xs new all.1)
        | inr f ↦ elim (by_test (same s e)) [ inl u ↦ rw (f, u) all | inr g ↦ rw (f, g) (new, all) ]
      ]

-- ---- orders

-- what is below one that is below another is below that; of two keys one is below
pub record IsOrder {S : Type 0} (below same : S → S → Bool) : Type 0 where
  pub chained : (a b c : S) → below a b ≡ true → below b c ≡ true → below a c ≡ true
  pub third : (a b : S) → below a b ≡ false → same a b ≡ false → below b a ≡ true

number_chained : (a b c : ℕ) → ltb a b ≡ true → ltb b c ≡ true → ltb a c ≡ true
number_chained a b c h k = lt-ltb a c (omega (arith, ltb-true a b h, ltb-true b c k))

number_third : (a b : ℕ) → ltb a b ≡ false → eqb a b ≡ false → ltb b a ≡ true
number_third a b f g = lt-ltb b a (omega (arith, ltb-false a b f, eqb-false a b g))

pub number_order : {S : Type 0} (key : S → ℕ) → IsOrder (number_below key) (number_same key)
number_order key = record {
  chained = λ a b c h k. number_chained (key a) (key b) (key c) h k;
  third = λ a b f g. number_third (key a) (key b) f g;
}

-- two numbers, the first of which counts first
abbrev pair_below : ℕ → ℕ → ℕ → ℕ → Bool
pair_below a n b m = ltb a b || (eqb a b && ltb n m)

-- of pairs that begin alike
pair_beside : (b m c k n : ℕ) → ltb n m ≡ true → pair_below b m c k ≡ true → pair_below b n c k ≡ true
pair_beside b m c k n lt h =
    elim (by_test (ltb b c)) [
      | inl t ↦ rw t refl
      | inr f ↦ let both = and_parts (eqb b c) (ltb m k) (let e = rw f at h in e) in
          rw (f, both.0, number_chained n m k lt both.1) refl
    ]

pair_chained : (a n b m c k : ℕ) → pair_below a n b m ≡ true → pair_below b m c k ≡ true
    → pair_below a n c k ≡ true
pair_chained a n b m c k h g =
    elim (by_test (ltb a b)) [
      | inl t ↦ elim (by_test (ltb b c)) [
        | inl u ↦ rw (number_chained a b c t u) refl
        | inr f ↦ let both = and_parts (eqb b c) (ltb m k) (let e = rw f at g in e) in
            rw (subst (λ (j : ℕ). ltb a j ≡ true) (eqb-true b c both.0) t) refl
      ]
      | inr f ↦ let both = and_parts (eqb a b) (ltb n m) (let e = rw f at h in e) in
          subst (λ (j : ℕ). pair_below j n c k ≡ true) (sym (eqb-true a b both.0))
          (pair_beside b m c k n both.1 g)
    ]

pair_third : (a n b m : ℕ) → pair_below a n b m ≡ false → (eqb a b && eqb n m) ≡ false
    → pair_below b m a n ≡ true
pair_third a n b m f g =
    let parts = or_parts (ltb a b) (eqb a b && ltb n m) f in
    elim (by_test (eqb a b)) [
      | inl t ↦ let e = rw t at parts.1 in let d = rw t at g in
          rw (eq-eqb b a (sym (eqb-true a b t)), number_third n m e d) (or-true (ltb b a))
      | inr e ↦ rw (number_third a b parts.0 e) refl
    ]

pub request_order : IsOrder request_below request_same
request_order = record {
  chained = λ a b c h k. pair_chained a.teller a.number b.teller b.number c.teller c.number h k;
  third = λ a b f g. pair_third a.teller a.number b.teller b.number f g;
}

-- ---- slots in order

module _ {S : Type 0} (below same : S → S → Bool) (order : IsOrder below same) where
  all_above : (a b : S) (xs : List S) → below a b ≡ true → AllByRecursion (λ x. IsTrue (below b x)) xs
      → AllByRecursion (λ x. IsTrue (below a x)) xs
  all_above a b [] lt all = tt
  all_above a b (x ∷ xs) lt all = (order.chained a b x lt all.0, all_above a b xs lt all.1)

  pub placed_rises : (e : S) (xs : List S) → IsRising below xs → IsRising below (placed below same e xs)
  placed_rises e [] rises = (tt, tt)
  placed_rises e (s ∷ xs) rises =
      elim (by_test (below s e)) [
        | inl t ↦ rw t (
          all-placed below same e (λ x. IsTrue (below s x)) xs t rises.0,
          placed_rises e xs rises.1,
        )
        | inr f ↦ elim (by_test (same s e)) [
          | inl u ↦ rw (f, u) rises
          | inr g ↦ let low : below e s ≡ true = order.third s e f g in
              rw (f, g) ((low, all_above e s xs low rises.0), rises)
        ]
      ]

-- slots that change and keep their keys
module _ {S : Type 0} (below : S → S → Bool) (f : S → S)
    (same : (a b : S) → below (f a) (f b) ≡ below a b) where
  all_mapped : (a : S) (xs : List S) → AllByRecursion (λ x. IsTrue (below a x)) xs
      → AllByRecursion (λ x. IsTrue (below (f a) x)) (map f xs)
  all_mapped a [] all = tt
  all_mapped a (x ∷ xs) all = (same a x ∙ all.0, all_mapped a xs all.1)

  pub rising_mapped : (xs : List S) → IsRising below xs → IsRising below (map f xs)
  rising_mapped [] rises = tt
  rising_mapped (x ∷ xs) rises = (all_mapped x xs rises.0, rising_mapped xs rises.1)

-- numbers that rise are distinct
apart : (a b : ℕ) → ltb a b ≡ true → nat_eq a b ≡ false
apart a b h = ne_eqb a b (λ (e : a ≡ b). absurd (omega (arith, ltb-true a b h)))

differ : {S : Type 0} (key : S → ℕ) (s : S) (xs : List S)
    → AllByRecursion (λ x. IsTrue (number_below key s x)) xs
    → AllByRecursion (λ j. nat_eq (key s) j ≡ false) (map key xs)
differ key s [] all = tt
differ key s (x ∷ xs) all = (apart (key s) (key x) all.0, differ key s xs all.1)

none_distinct : IsDistinct nat_eq []
unfolding IsDistinct
none_distinct = tt

pub rising_keys : {S : Type 0} (key : S → ℕ) (xs : List S) → IsRising (number_below key) xs → HasKeys key xs
rising_keys key [] rises = none_distinct
rising_keys key (s ∷ xs) rises = IsDistinct-cons nat_eq (key s) (map key xs) (differ key s xs rises.0)
    (rising_keys key xs rises.1)
