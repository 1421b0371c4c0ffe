-- Ordinals are matched where none is told.
use Rattle.std.proofs.Common.{◌≡◌, ℕ, false, eqb, List, [], ◌∷◌, map, Some, refl, subst, inl, inr}
use Rattle.std.specs.{Prelude.nat_eq, List.AllByRecursion}
use Rattle.std.proofs.lemmas.Bool.{cases_Bool, eqb-true, eq-eqb}
use Rattle.std.proofs.lemmas.Map.Keys.{IsDistinct-head, IsDistinct-tail}
use Rattle.posting_rules.specs.believed.Tables.{row_at, HasKeys}

module _ {R : Type 0} (key : R → ℕ) where
  -- each row is found under its key, if that is its alone
  pub each_found : (P : R → Type 0) (rows : List R) → HasKeys key rows
      → ((r : R) → row_at key rows (key r) ≡ Some r → P r) → AllByRecursion P rows
  each_found P [] keys f = tt
  each_found P (x ∷ xs) keys f = (
    f x (rw (eq-eqb (key x) (key x) refl) refl),
    each_found P xs (IsDistinct-tail nat_eq (key x) (map key xs) keys) (λ r is. f r (later r is)),
  )
    where
      apart : (rows : List R) → AllByRecursion (λ j. nat_eq (key x) j ≡ false) (map key rows)
          → (o : ℕ) (r : R) → row_at key rows o ≡ Some r → eqb (key x) o ≡ false
      apart [] none o r is = absurd cc
      apart (y ∷ ys) none o r is = elim (cases_Bool (eqb (key y) o)) [
        | inl t ↦ subst (λ n. eqb (key x) n ≡ false) (eqb-true (key y) o t) none.0
        | inr g ↦ apart ys none.1 o r (rw g at is)
      ]

      later : (r : R) → row_at key xs (key r) ≡ Some r → row_at key (x ∷ xs) (key r) ≡ Some r
      later r is = rw (apart xs (IsDistinct-head nat_eq (key x) (map key xs) keys) (key r) r is) is
