-- The element at a place of a list.
use Rattle.sql_meanings.specs.Names.{ℕ, List, [], slice_get, Some, AllByRecursion}
use Rattle.sql_meanings.proofs.Names.{zero, suc, drop, take, refl, sym, ap, subst, ◌∙◌, arith}
use Rattle.std.specs.Prelude.{◌≡◌, ◌+◌, ◌∷◌}
-- one stands at each place
pub use Rattle.sqlite.proofs.StateLemmas.{is_cached as some_at}

-- of the one at a place
pub each_at : {X : Type 0} (P : X → Type 0) (xs : List X) → AllByRecursion P xs → (n : ℕ) (x : X)
    → slice_get xs n ≡ Some x → P x
each_at P [] all n x is = absurd cc
each_at P (y ∷ xs) all zero x is = let same : y ≡ x = cc in subst P same all.0
each_at P (y ∷ xs) all (suc n) x is = each_at P xs all.1 n x is

-- of one more
pub all_more : {X : Type 0} (P : X → Type 0) (xs : List X) (n : ℕ) (x : X) → slice_get xs n ≡ Some x
    → AllByRecursion P (take n xs) → P x
    → AllByRecursion P (take (suc n) xs)
all_more P [] n x is all one = absurd cc
all_more P (y ∷ xs) zero x is all one = let same : y ≡ x = cc in (subst P (sym same) one, tt)
all_more P (y ∷ xs) (suc n) x is all one = (all.0, all_more P xs n x is all.1 one)

-- after the first so many
pub later_at : {X : Type 0} (xs : List X) (n at : ℕ) → slice_get (drop n xs) at ≡ slice_get xs (n + at)
later_at [] zero at = refl
later_at [] (suc n) at = refl
later_at (y ∷ xs) zero at = let same : at ≡ 0 + at = omega arith in ap (slice_get (y ∷ xs)) same
later_at (y ∷ xs) (suc n) at =
    let same : suc (n + at) ≡ suc n + at = omega arith in later_at xs n at ∙ ap (slice_get (y ∷ xs)) same

-- of each after the first so many
pub all_later : {X : Type 0} (P : X → Type 0) (xs : List X) (n : ℕ) → AllByRecursion P xs
    → AllByRecursion P (drop n xs)
all_later P [] zero all = tt
all_later P [] (suc n) all = tt
all_later P (y ∷ xs) zero all = all
all_later P (y ∷ xs) (suc n) all = all_later P xs n all.1

-- of each of the first so many
pub all_first : {X : Type 0} (P : X → Type 0) (xs : List X) (n : ℕ) → AllByRecursion P xs
    → AllByRecursion P (take n xs)
all_first P [] zero all = tt
all_first P [] (suc n) all = tt
all_first P (y ∷ xs) zero all = tt
all_first P (y ∷ xs) (suc n) all = (all.0, all_first P xs n all.1)

-- what follows of it
pub all_weaker : {X : Type 0} (P Q : X → Type 0) → ((x : X) → P x → Q x) → (xs : List X) → AllByRecursion P xs
    → AllByRecursion Q xs
all_weaker P Q so [] all = tt
all_weaker P Q so (y ∷ xs) all = (so y all.0, all_weaker P Q so xs all.1)
