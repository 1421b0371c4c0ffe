-- Small facts of lists, tests and look-ups.
use Rattle.std.proofs.Common.{◌≡◌, Bool, true, false, ◌&&◌, List, [], ◌∷◌, ◌++◌, map}
use Rattle.std.proofs.Common.{FitsSigned, filter, length, refl, inl, inr, arith, of_z, rules, w64}
use Rattle.std.specs.Prelude.{ℤ, ◌==◌}
use Rattle.std.specs.{List.AllByRecursion, Ordering.int_eq}
use Rattle.std.proofs.{Math.Dec.eqb, lemmas.Bool.cases_Bool, lemmas.Bool.eqb-true, lemmas.Int.ints}

pub same_int : (a b : ℤ) → int_eq a b ≡ true → a ≡ b
same_int a b h = grind (arith, ints, h)

pub int_same : (a b : ℤ) → a ≡ b → int_eq a b ≡ true
int_same a b h = grind (arith, ints, h)

-- two numbers are the same word just where they are equal
pub same_words : (a b : ℤ) → FitsSigned w64 a → FitsSigned w64 b → eqb (of_z w64 a) (of_z w64 b) ≡ int_eq a b
same_words a b fa fb = search rules

-- ---- lists

pub none_pass : {X : Type 0} (p : X → Bool) (xs : List X) → filter p xs ≡ []
    → AllByRecursion (λ x. p x ≡ false) xs
none_pass p [] h = tt
none_pass p (x ∷ xs) h = elim (cases_Bool (p x)) [
  | inl t ↦ absurd (let e = rw t at h in cc)
  | inr f ↦ (f, none_pass p xs (rw f at h))
]

pub pass_none : {X : Type 0} (p : X → Bool) (xs : List X) → AllByRecursion (λ x. p x ≡ false) xs
    → filter p xs ≡ []
pass_none p [] all = refl
pass_none p (x ∷ xs) all = rw all.0 (pass_none p xs all.1)

pub no_map : {X Y : Type 0} (f : X → Y) (xs : List X) → map f xs ≡ [] → xs ≡ []
no_map f [] h = refl
no_map f (x ∷ xs) h = absurd cc

pub no_parts : {X : Type 0} (xs ys : List X) → xs ++ ys ≡ [] → (xs ≡ []) × (ys ≡ [])
no_parts [] ys h = (refl, h)
no_parts (x ∷ xs) ys h = absurd cc

pub empty_list : {X : Type 0} (xs : List X) → (length xs == 0) ≡ true → xs ≡ []
empty_list [] h = refl
empty_list (x ∷ xs) h =
    absurd (let e : length (x ∷ xs) ≡ 0 = eqb-true (length (x ∷ xs)) 0 h in omega (arith, e))

pub five : (a b c d e : Bool) → (a && b && c && d && e) ≡ true → (a ≡ true) × (b ≡ true)
    × (c ≡ true) × (d ≡ true) × (e ≡ true)
five true true true true true h = (refl, refl, refl, refl, refl)
five true true true true false h = absurd cc
five true true true false e h = absurd cc
five true true false d e h = absurd cc
five true false c d e h = absurd cc
five false b c d e h = absurd cc

pub all_five : (a b c d e : Bool) → a ≡ true → b ≡ true → c ≡ true → d ≡ true → e ≡ true
    → (a && b && c && d && e) ≡ true
all_five a b c d e p q r s t = rw (p, q, r, s, t) refl

pub one_four : (p a b c d : Bool) → (p && (a && b && c && d)) ≡ true → (p ≡ true) × (a ≡ true)
    × (b ≡ true) × (c ≡ true) × (d ≡ true)
one_four true true true true true h = (refl, refl, refl, refl, refl)
one_four true true true true false h = absurd cc
one_four true true true false d h = absurd cc
one_four true true false c d h = absurd cc
one_four true false b c d h = absurd cc
one_four false a b c d h = absurd cc

pub all_one_four : (p a b c d : Bool) → p ≡ true → a ≡ true → b ≡ true → c ≡ true → d
    ≡ true → (p && (a && b && c && d)) ≡ true
all_one_four p a b c d h q r s t = rw (h, q, r, s, t) refl
