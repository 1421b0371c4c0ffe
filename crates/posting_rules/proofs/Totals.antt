-- Sums over rows under their keys: what was added under each key, over all keys, is all that was added.
use Rattle.std.proofs.Common.{◌≡◌, ℕ, Bool, true, false, cond, eqb, List, [], ◌∷◌, map, Some, refl, sym, ap, subst}
use Rattle.std.proofs.Common.{◌∙◌, inl, inr}
use Rattle.std.specs.Prelude.{ℤ, pos, ◌+ℤ◌, nat_eq, filter, is_some}
use Rattle.std.specs.List.{AllByRecursion}
use Rattle.std.proofs.Math.IntN.{+ℤ_assoc, +ℤ_comm, +ℤ_idl}
use Rattle.std.proofs.lemmas.{Bool.eqb-true, Bool.eq-eqb, Map.Keys.IsDistinct-head, Map.Keys.IsDistinct-tail}
use Rattle.posting_rules.specs.believed.{Tables.row_at, Tables.HasKeys, Laws.total}
use Rattle.posting_rules.proofs.Keyed.{by_test}

-- amounts that are added under keys: the sum of those under the keys that pass a test
abbrev pub sum_where : (ℕ → Bool) → List (ℕ × ℤ) → ℤ
sum_where test [] = pos 0
sum_where test (p ∷ ps) = cond (test p.0) (sum_where test ps +ℤ p.1) (sum_where test ps)

-- each key has a row
abbrev pub HaveRows : {R : Type 0} → (R → ℕ) → List R → List (ℕ × ℤ) → Type 0
HaveRows key rows ps = AllByRecursion (λ p. is_some (row_at key rows p.0) ≡ true) ps

-- a key that no row has adds to none
total_elsewhere : {R : Type 0} (key : R → ℕ) (value : R → ℤ) (test : ℕ → Bool) (rows : List R) (k : ℕ) (d : ℤ)
    → AllByRecursion (λ j. nat_eq k j ≡ false) (map key rows)
    → total (map (λ r. cond (eqb k (key r)) (value r +ℤ d) (value r)) (filter (λ r. test (key r)) rows))
    ≡ total (map value (filter (λ r. test (key r)) rows))
total_elsewhere key value test [] k d none = refl
total_elsewhere key value test (r ∷ rows) k d none =
    elim (by_test (test (key r))) [
      | inl t ↦ rw (t, none.0) (ap (λ (z : ℤ). value r +ℤ z) (total_elsewhere key value test rows k d none.1))
      | inr f ↦ rw f (total_elsewhere key value test rows k d none.1)
    ]

-- a key that one row has adds to that one, where it passes the test
total_at : {R : Type 0} (key : R → ℕ) (value : R → ℤ) (test : ℕ → Bool) (rows : List R) (k : ℕ) (d : ℤ)
    → HasKeys key rows → is_some (row_at key rows k) ≡ true
    → total (map (λ r. cond (eqb k (key r)) (value r +ℤ d) (value r)) (filter (λ r. test (key r)) rows))
    ≡ cond (test k) (total (map value (filter (λ r. test (key r)) rows)) +ℤ d)
    (total (map value (filter (λ r. test (key r)) rows)))
total_at key value test [] k d keys some = absurd cc
total_at key value test (r ∷ rows) k d keys some =
    elim (by_test (eqb (key r) k)) [
      | inl hit ↦
          let is : key r ≡ k = eqb-true (key r) k hit in
          let none : AllByRecursion (λ j. nat_eq k j ≡ false) (map key rows) =
          subst (λ (n : ℕ). AllByRecursion (λ j. nat_eq n j ≡ false) (map key rows)) is
          (IsDistinct-head nat_eq (key r) (map key rows) keys) in
          let rest = total_elsewhere key value test rows k d none in
          let same : eqb k (key r) ≡ true = eq-eqb k (key r) (sym is) in
          elim (by_test (test k)) [
            | inl t ↦ let u : test (key r) ≡ true = ap test is ∙ t in rw (u, same, t, rest)
                (add_last (value r) d (total (map value (filter (λ x. test (key x)) rows))))
            | inr f ↦ let u : test (key r) ≡ false = ap test is ∙ f in rw (u, f) rest
          ]
      | inr miss ↦
          let some' : is_some (row_at key rows k) ≡ true = (let h = rw miss at some in h) in
          let rest = total_at key value test rows k d
          (IsDistinct-tail nat_eq (key r) (map key rows) keys) some' in
          let other : eqb k (key r) ≡ false = flip (key r) k miss in
          elim (by_test (test (key r))) [
            | inl t ↦ rw (t, other, rest)
                (over_cond (test k) (value r) d (total (map value (filter (λ x. test (key x)) rows))))
            | inr f ↦ rw (f, rest) refl
          ]
    ]
  where
    add_last : (v d rest : ℤ) → (v +ℤ d) +ℤ rest ≡ (v +ℤ rest) +ℤ d
    add_last v d rest = +ℤ_assoc v d rest ∙ ap (λ (z : ℤ). v +ℤ z) (+ℤ_comm d rest) ∙ sym (+ℤ_assoc v rest d)

    over_cond : (b : Bool) (v d rest : ℤ)
        → v +ℤ cond b (rest +ℤ d) rest ≡ cond b ((v +ℤ rest) +ℤ d) (v +ℤ rest)
    over_cond true v d rest = sym (+ℤ_assoc v rest d)
    over_cond false v d rest = refl

    flip : (a b : ℕ) → eqb a b ≡ false → eqb b a ≡ false
    flip a b h = elim (by_test (eqb b a)) [
      | inl t ↦ absurd (let e : a ≡ b = sym (eqb-true b a t) in
          let g : eqb a b ≡ true = eq-eqb a b e in cc)
      | inr f ↦ f
    ]

total_of_none : {R : Type 0} (rows : List R) → total (map (λ r. pos 0) rows) ≡ pos 0
total_of_none [] = refl
total_of_none (r ∷ rows) = +ℤ_idl (total (map (λ x. pos 0) rows)) ∙ total_of_none rows

-- what was added under the key of each row, over the rows whose keys pass, is what was added under keys that
-- pass
pub spread : {R : Type 0} (key : R → ℕ) (test : ℕ → Bool) (rows : List R) (ps : List (ℕ × ℤ))
    → HasKeys key rows → HaveRows key rows ps
    → total (map (λ r. sum_where (λ k. eqb k (key r)) ps) (filter (λ r. test (key r)) rows))
    ≡ sum_where test ps
spread key test rows [] keys have = total_of_none (filter (λ r. test (key r)) rows)
spread key test rows (p ∷ ps) keys have =
    total_at key (λ r. sum_where (λ k. eqb k (key r)) ps) test rows p.0 p.1 keys have.0
    ∙ ap (λ (z : ℤ). cond (test p.0) (z +ℤ p.1) z) (spread key test rows ps keys have.1)

-- rows whose values are stated
pub values_are : {R : Type 0} (value stated : R → ℤ) (test : R → Bool) (rows : List R)
    → AllByRecursion (λ r. value r ≡ stated r) rows
    → total (map value (filter test rows)) ≡ total (map stated (filter test rows))
values_are value stated test [] h = refl
values_are value stated test (r ∷ rows) h =
    elim (by_test (test r)) [
      | inl t ↦ rw (t, h.0) (ap (λ (z : ℤ). stated r +ℤ z) (values_are value stated test rows h.1))
      | inr f ↦ rw f (values_are value stated test rows h.1)
    ]

pub filter_all : {R : Type 0} (rows : List R) → filter (λ r. true) rows ≡ rows
filter_all [] = refl
filter_all (r ∷ rows) = ap (λ rs. r ∷ rs) (filter_all rows)

-- ---- each row is the one under its key

all_after : {R : Type 0} (key : R → ℕ) (r : R) (rows more : List R)
    → AllByRecursion (λ k. nat_eq (key r) k ≡ false) (map key more)
    → AllByRecursion (λ x. row_at key rows (key x) ≡ Some x) more
    → AllByRecursion (λ x. row_at key (r ∷ rows) (key x) ≡ Some x) more
all_after key r rows [] apart h = tt
all_after key r rows (x ∷ more) apart h = (rw apart.0 h.0, all_after key r rows more apart.1 h.1)

pub each_under_its_key : {R : Type 0} (key : R → ℕ) (rows : List R) → HasKeys key rows
    → AllByRecursion (λ r. row_at key rows (key r) ≡ Some r) rows
each_under_its_key key [] keys = tt
each_under_its_key key (r ∷ rows) keys = (
  rw (eq-eqb (key r) (key r) refl) refl,
  all_after key r rows rows (IsDistinct-head nat_eq (key r) (map key rows) keys)
      (each_under_its_key key rows (IsDistinct-tail nat_eq (key r) (map key rows) keys)),
)

pub all_follow : {R : Type 0} (P Q : R → Type 0) (rows : List R) → ((r : R) → P r → Q r)
    → AllByRecursion P rows → AllByRecursion Q rows
all_follow P Q [] f h = tt
all_follow P Q (r ∷ rows) f h = (f r h.0, all_follow P Q rows f h.1)
