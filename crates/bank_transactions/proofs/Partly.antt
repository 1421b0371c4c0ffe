-- A list whose first elements were changed, one after another.
use Rattle.std.proofs.Common.{◌≡◌, ℕ, zero, suc, ◌<◌, List, [], ◌∷◌, map, length, get_or, set, refl, sym, ap}
use Rattle.std.proofs.Common.{subst, ◌∙◌, arith}
use Rattle.std.specs.List.{AllByRecursion}

-- so many of the first list were changed to those of the second in this way, and the others are as they were
abbrev pub Partly : {A : Type 0} → (A → A → Type 0) → List A → List A → ℕ → Type 0
Partly Q [] [] i = Unit {0}
Partly Q [] (y ∷ ys) i = ⊥
Partly Q (x ∷ xs) [] i = ⊥
Partly Q (x ∷ xs) (y ∷ ys) zero = (y ≡ x) × Partly Q xs ys zero
Partly Q (x ∷ xs) (y ∷ ys) (suc i) = Q x y × Partly Q xs ys i

module _ {A : Type 0} (Q : A → A → Type 0) where
  pub partly_none : (xs : List A) → Partly Q xs xs zero
  partly_none [] = tt
  partly_none (x ∷ xs) = (refl, partly_none xs)

  partly_more : (xs ys : List A) (i : ℕ) (d y : A) → i < length xs → Q (get_or ys i d) y
      → Partly Q xs ys i → Partly Q xs (set ys i y) (suc i)
  partly_more [] ys i d y lt new part = absurd (omega arith)
  partly_more (a ∷ xs) [] i d y lt new part = absurd part
  partly_more (a ∷ xs) (b ∷ ys) zero d y lt new part = (subst (λ (z : A). Q z y) part.0 new, part.1)
  partly_more (a ∷ xs) (b ∷ ys) (suc i) d y lt new part =
      (part.0, partly_more xs ys i d y (omega arith) new part.1)

  -- one more is changed
  pub partly_next : (xs ys : List A) (i j : ℕ) (d y : A) → j ≡ suc i → i < length xs → Q (get_or ys i d) y
      → Partly Q xs ys i → Partly Q xs (set ys i y) j
  partly_next xs ys i j d y next lt new part =
      subst (λ (k : ℕ). Partly Q xs (set ys i y) k) (sym next) (partly_more xs ys i d y lt new part)

-- at the end all are: what stays of each stays of the list
pub all_bare : {A : Type 0} (f : A → A) (xs ys : List A) (i : ℕ) → i ≡ length xs
    → Partly (λ x y. f y ≡ f x) xs ys i → map f ys ≡ map f xs
all_bare f [] [] i at part = refl
all_bare f [] (y ∷ ys) i at part = absurd part
all_bare f (x ∷ xs) [] i at part = absurd part
all_bare f (x ∷ xs) (y ∷ ys) zero at part = absurd (omega arith)
all_bare {A} f (x ∷ xs) (y ∷ ys) (suc i) at part =
    ap (λ (z : A). z ∷ map f ys) part.0 ∙ ap (λ (zs : List A). f x ∷ zs) (all_bare f xs ys i (omega arith) part.1)

-- and what is so of each is so of all
pub all_held : {A : Type 0} (K H : A → Type 0) (xs ys : List A) (i : ℕ) → i ≡ length xs
    → Partly (λ x y. K x → H y) xs ys i → AllByRecursion K xs → AllByRecursion H ys
all_held K H [] [] i at part all = tt
all_held K H [] (y ∷ ys) i at part all = absurd part
all_held K H (x ∷ xs) [] i at part all = absurd part
all_held K H (x ∷ xs) (y ∷ ys) zero at part all = absurd (omega arith)
all_held K H (x ∷ xs) (y ∷ ys) (suc i) at part all =
    (part.0 all.0, all_held K H xs ys i (omega arith) part.1 all.1)
