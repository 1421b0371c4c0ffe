-- Rows under their keys that are found by another test.
use Rattle.std.proofs.Common.{◌≡◌, ℕ, Bool, true, false, eqb, List, [], ◌∷◌, map, Some, None, refl, ap, subst, inl}
use Rattle.std.proofs.Common.{inr}
use Rattle.std.specs.Prelude.{nat_eq, ◌⊎◌}
use Rattle.std.specs.List.{find, AllByRecursion}
use Rattle.std.proofs.lemmas.{Bool.eqb-true, Bool.eq-eqb, Map.Keys.IsDistinct-head, Map.Keys.IsDistinct-tail}
use Rattle.posting_rules.specs.believed.Tables.{row_at, HasKeys}

-- a test by cases
pub by_test : (b : Bool) → (b ≡ true) ⊎ (b ≡ false)
by_test true = inl refl
by_test false = inr refl

-- no row after has the key of the one in front
apart : {R : Type 0} (key : R → ℕ) (r : R) (rows : List R) (x : R)
    → AllByRecursion (λ k. nat_eq (key r) k ≡ false) (map key rows) → row_at key rows (key x) ≡ Some x
    → eqb (key r) (key x) ≡ false
apart key r [] x h e = absurd cc
apart key r (y ∷ rows) x h e =
    elim (by_test (eqb (key y) (key x))) [
      | inl t ↦ let same : key y ≡ key x = eqb-true (key y) (key x) t in
          subst (λ (k : ℕ). eqb (key r) k ≡ false) same h.0
      | inr f ↦ apart key r rows x h.1 (let g = rw f at e in g)
    ]

-- a row that a test finds is the row under its key
pub row_at-found : {R : Type 0} (key : R → ℕ) (test : R → Bool) (rows : List R) (x : R) → HasKeys key rows
    → find test rows ≡ Some x → row_at key rows (key x) ≡ Some x
row_at-found key test [] x h e = absurd cc
row_at-found {R} key test (r ∷ rows) x h e =
    elim (by_test (test r)) [
      | inl t ↦ let is : r ≡ x = (let g = rw t at e in cc) in
          rw (eq-eqb (key r) (key x) (ap key is)) (ap Some is)
      | inr f ↦ let found : row_at key rows (key x) ≡ Some x = row_at-found key test rows x
          (IsDistinct-tail nat_eq (key r) (map key rows) h) (let g = rw f at e in g) in
          rw (apart key r rows x (IsDistinct-head nat_eq (key r) (map key rows) h) found) found
    ]

-- what a test finds passes it
pub found_passes : {R : Type 0} (test : R → Bool) (rows : List R) (x : R) → find test rows ≡ Some x
    → test x ≡ true
found_passes test [] x e = absurd cc
found_passes test (r ∷ rows) x e =
    elim (by_test (test r)) [
      | inl t ↦ let is : r ≡ x = (let g = rw t at e in cc) in subst (λ y. test y ≡ true) is t
      | inr f ↦ found_passes test rows x (let g = rw f at e in g)
    ]

-- where a test finds nothing, no row under a key passes it
pub none_passes : {R : Type 0} (key : R → ℕ) (test : R → Bool) (rows : List R) (k : ℕ) (x : R)
    → find test rows ≡ None → row_at key rows k ≡ Some x → test x ≡ false
none_passes key test [] k x e h = absurd cc
none_passes key test (r ∷ rows) k x e h =
    elim (by_test (test r)) [
      | inl t ↦ absurd (let g = rw t at e in cc)
      | inr f ↦ elim (by_test (eqb (key r) k)) [
        | inl t ↦ let is : r ≡ x = (let g = rw t at h in cc) in subst (λ y. test y ≡ false) is f
        | inr g ↦ none_passes key test rows k x (let u = rw f at e in u) (let u = rw g at h in u)
      ]
    ]
