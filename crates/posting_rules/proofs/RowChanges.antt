-- What the statements on one table do to its rows, as the rows under each key tell.
use Rattle.std.proofs.Common.{◌≡◌, ℕ, zero, suc, ◌+◌, Bool, true, false, cond, eqb, ltb, ◌<◌, List, [], ◌∷◌, map}
use Rattle.std.proofs.Common.{Option, Some, None, refl, sym, ap, subst, ◌∙◌, arith, inl, inr}
use Rattle.std.specs.{Prelude.nat_eq, List.IsDistinct, List.AllByRecursion, Option.option_map}
use Rattle.std.proofs.lemmas.Bool.{eqb-true, Decides.nat_tests}
use Rattle.std.proofs.lemmas.Map.Keys.{IsDistinct-cons, IsDistinct-head, IsDistinct-tail}
use Rattle.posting_rules.specs.believed.Tables.{row_at, HasKeys}
use Rattle.posting_rules.specs.ChangesByKey.{ChangesRow, GainsRow, AddsRows, is_from}
use Rattle.posting_rules.proofs.Keyed.{by_test}
use Rattle.posting_rules.specs.believed.Changes.{row_changed, row_put, rows_put}

-- ---- tests on two numbers

pub eqb-flip : (a b : ℕ) → eqb a b ≡ eqb b a
eqb-flip a b = grind (arith, nat_tests)

eqb-apart : (a b : ℕ) → ltb a b ≡ true → eqb a b ≡ false
eqb-apart a b h = grind (arith, nat_tests)

-- two numbers of which one is below the other aren't both a third
not_both : (a b n : ℕ) → ltb a b ≡ true → eqb a n ≡ true → eqb b n ≡ false
not_both a b n h e = grind (arith, nat_tests)

-- ---- one row is changed

-- the row, changed where it stands under the key
abbrev pub changed_at : {R : Type 0} → (R → ℕ) → ℕ → (R → R) → R → R
changed_at key k change r = cond (eqb (key r) k) (change r) r

pub key-changed_at : {R : Type 0} (key : R → ℕ) (k : ℕ) (change : R → R) → ((r : R) → key (change r) ≡ key r)
    → (r : R) → key (changed_at key k change r) ≡ key r
key-changed_at key k change same r =
    elim (by_test (eqb (key r) k)) [ inl t ↦ rw t (same r) | inr f ↦ rw f refl ]

pub row_at-changed : {R : Type 0} (key : R → ℕ) (k : ℕ) (change : R → R) → ((r : R) → key (change r) ≡ key r)
    → (rows : List R) (n : ℕ)
    → row_at key (row_changed key change k rows) n ≡ option_map (λ r. cond (eqb k n) (change r) r)
    (row_at key rows n)
row_at-changed key k change same [] n = refl
row_at-changed key k change same (r ∷ rows) n =
    ap (λ (j : ℕ). cond (eqb j n) (Some (changed_at key k change r))
    (row_at key (row_changed key change k rows) n))
    (key-changed_at key k change same r)
    ∙ elim (by_test (eqb (key r) n)) [
      | inl t ↦
          let here : key r ≡ n = eqb-true (key r) n t in
          rw t (ap (λ (b : Bool). Some (cond b (change r) r)) (eqb-flip (key r) k ∙ ap (eqb k) here))
      | inr f ↦ rw f (row_at-changed key k change same rows n)
    ]

pub keys-changed : {R : Type 0} (key : R → ℕ) (k : ℕ) (change : R → R) → ((r : R) → key (change r) ≡ key r)
    → (rows : List R)
    → map key (row_changed key change k rows) ≡ map key rows
keys-changed key k change same [] = refl
keys-changed key k change same (r ∷ rows) =
    ap (λ (j : ℕ). j ∷ map key (row_changed key change k rows)) (key-changed_at key k change same r)
    ∙ ap (λ (js : List ℕ). key r ∷ js) (keys-changed key k change same rows)

-- a change that leaves each row its key is a change of the row under the key
pub row_changes : {R : Type 0} (key : R → ℕ) (k : ℕ) (change : R → R) (rows : List R)
    → ((r : R) → key (change r) ≡ key r)
    → HasKeys key rows → ChangesRow key k change rows (row_changed key change k rows)
row_changes key k change rows same keys = record {
  rows = row_at-changed key k change same rows;
  keys = subst (λ (ks : List ℕ). IsDistinct nat_eq ks) (sym (keys-changed key k change same rows)) keys;
}

-- ---- one row is put in

-- two tests of which one fails at least may be made in either order
either_first : {A : Type 0} (a b : Bool) (x y z : A) → (a ≡ true → b ≡ false)
    → cond a x (cond b y z) ≡ cond b y (cond a x z)
either_first true b x y z apart = rw (apart refl) refl
either_first false b x y z apart = refl

pub row_at-put : {R : Type 0} (key : R → ℕ) (x : R) (rows : List R) (n : ℕ)
    → row_at key (row_put key x rows) n ≡ cond (eqb (key x) n) (Some x) (row_at key rows n)
row_at-put key x [] n = refl
row_at-put key x (r ∷ rows) n =
    elim (by_test (ltb (key r) (key x))) [
      | inl t ↦
          rw t (
          ap (cond (eqb (key r) n) (Some r)) (row_at-put key x rows n)
          ∙ either_first (eqb (key r) n) (eqb (key x) n) (Some r) (Some x) (row_at key rows n)
          (not_both (key r) (key x) n t)
          )
      | inr f ↦ rw f refl
    ]

-- a key with no row differs from each key that has one
pub free_apart : {R : Type 0} (key : R → ℕ) (rows : List R) (k : ℕ) → row_at key rows k ≡ None
    → AllByRecursion (λ j. nat_eq k j ≡ false) (map key rows)
free_apart key [] k none = tt
free_apart key (r ∷ rows) k none =
    elim (by_test (eqb (key r) k)) [
      | inl t ↦ absurd (let h = rw t at none in cc)
      | inr f ↦ (eqb-flip k (key r) ∙ f, free_apart key rows k (let h = rw f at none in h))
    ]

-- what holds of the keys that were there and of the new one holds of all the keys
all-put : {R : Type 0} (P : ℕ → Type 0) (key : R → ℕ) (x : R) (rows : List R) → P (key x)
    → AllByRecursion P (map key rows)
    → AllByRecursion P (map key (row_put key x rows))
all-put P key x [] new old = (new, tt)
all-put P key x (r ∷ rows) new old =
    elim (by_test (ltb (key r) (key x))) [
      | inl t ↦ rw t (old.0, all-put P key x rows new old.1)
      | inr f ↦ rw f (new, old)
    ]

pub keys-put : {R : Type 0} (key : R → ℕ) (x : R) (rows : List R) → HasKeys key rows
    → row_at key rows (key x) ≡ None
    → HasKeys key (row_put key x rows)
keys-put key x [] keys none = IsDistinct-cons nat_eq (key x) [] tt keys
keys-put key x (r ∷ rows) keys none =
    elim (by_test (ltb (key r) (key x))) [
      | inl t ↦
          let apart : eqb (key r) (key x) ≡ false = eqb-apart (key r) (key x) t in
          let after : AllByRecursion (λ j. nat_eq (key r) j ≡ false) (map key (row_put key x rows)) =
          all-put (λ j. nat_eq (key r) j ≡ false) key x rows apart
          (IsDistinct-head nat_eq (key r) (map key rows) keys) in
          let rest : HasKeys key (row_put key x rows) =
          keys-put key x rows (IsDistinct-tail nat_eq (key r) (map key rows) keys)
          (let h = rw apart at none in h) in
          rw t (IsDistinct-cons nat_eq (key r) (map key (row_put key x rows)) after rest)
      | inr f ↦ rw f (IsDistinct-cons nat_eq (key x) (map key (r ∷ rows))
          (free_apart key (r ∷ rows) (key x) none) keys)
    ]

-- a row whose key was free is added
pub row_adds : {R : Type 0} (key : R → ℕ) (rows : List R) (x : R) → HasKeys key rows
    → row_at key rows (key x) ≡ None
    → GainsRow key x rows (row_put key x rows)
row_adds key rows x keys none = record { rows = row_at-put key x rows; keys = keys-put key x rows keys none }

-- ---- rows under numbers in a row are put in, one by one

pub from_none : (first n : ℕ) → is_from first 0 n ≡ false
from_none first n = grind (arith, nat_tests)

from_more : (first count n : ℕ) → is_from first count n ≡ true → is_from first (suc count) n ≡ true
from_more first count n h = grind (arith, nat_tests)

from_last : (first count n : ℕ) → eqb (first + count) n ≡ true → is_from first (suc count) n ≡ true
from_last first count n h = grind (arith, nat_tests)

from_other : (first count n : ℕ) → is_from first count n ≡ false → eqb (first + count) n ≡ false
    → is_from first (suc count) n ≡ false
from_other first count n h e = grind (arith, nat_tests)

pub one_row_more : {R : Type 0} (row : ℕ → R) (first count n : ℕ) (rest : Option R)
    → cond (eqb (first + count) n) (Some (row (first + count)))
    (cond (is_from first count n) (Some (row n)) rest)
    ≡ cond (is_from first (suc count) n) (Some (row n)) rest
one_row_more row first count n rest =
    elim (by_test (eqb (first + count) n)) [
      | inl t ↦ rw (t, from_last first count n t) (ap (λ (k : ℕ). Some (row k)) (eqb-true _ _ t))
      | inr f ↦ elim (by_test (is_from first count n)) [
        | inl t ↦ rw (f, t, from_more first count n t) refl
        | inr g ↦ rw (f, g, from_other first count n g f) refl
      ]
    ]

-- before the first of them
pub rows_none : {R : Type 0} (key : R → ℕ) (row : ℕ → R) (first : ℕ) (rows : List R) → HasKeys key rows
    → AddsRows key row first 0 rows rows
rows_none key row first rows keys = record {
  rows = λ n. ap (λ (b : Bool). cond b (Some (row n)) (row_at key rows n)) (sym (from_none first n));
  keys = keys;
}

pub not_yet : (first count : ℕ) → is_from first count (first + count) ≡ false
not_yet first count = grind (arith, nat_tests)

-- the number after them is as free as before
pub next_is_free : {R : Type 0} (key : R → ℕ) (row : ℕ → R) (first count : ℕ) (old mid : List R)
    → AddsRows key row first count old mid
    → row_at key old (first + count) ≡ None → row_at key mid (first + count) ≡ None
next_is_free key row first count old mid adds none = adds.rows (first + count) ∙ rw (not_yet first count) none

-- one more under that number
pub rows_more : {R : Type 0} (key : R → ℕ) (row : ℕ → R) (first count : ℕ) (old mid new : List R)
    → ((n : ℕ) → key (row n) ≡ n)
    → AddsRows key row first count old mid → row_at key old (first + count) ≡ None
    → (HasKeys key mid → row_at key mid (key (row (first + count))) ≡ None
    → GainsRow key (row (first + count)) mid new)
    → AddsRows key row first (suc count) old new
rows_more key row first count old mid new own before none adds =
    let free : row_at key mid (key (row (first + count))) ≡ None =
    ap (row_at key mid) (own (first + count)) ∙ next_is_free key row first count old mid before none in
    let last = adds before.keys free in
    record {
      rows = λ n. last.rows n
          ∙ ap (λ (k : ℕ). cond (eqb k n) (Some (row (first + count))) (row_at key mid n))
          (own (first + count))
          ∙ ap (cond (eqb (first + count) n) (Some (row (first + count)))) (before.rows n)
          ∙ one_row_more row first count n (row_at key old n);
      keys = last.keys;
    }

-- rows under numbers in a row stand before those that had their keys
pub row_at-rows_put : {R : Type 0} (key : R → ℕ) (row : ℕ → R) (first count : ℕ) (rows : List R)
    → ((n : ℕ) → key (row n) ≡ n) → (n : ℕ)
    → row_at key (rows_put key row first count rows) n ≡ cond (is_from first count n) (Some (row n)) (row_at key rows n)
row_at-rows_put key row first zero rows own n =
    ap (λ (b : Bool). cond b (Some (row n)) (row_at key rows n)) (sym (from_none first n))
row_at-rows_put key row first (suc count) rows own n =
    let before = rows_put key row first count rows in
    row_at-put key (row (first + count)) before n
    ∙ ap (λ (k : ℕ). cond (eqb k n) (Some (row (first + count))) (row_at key before n)) (own (first + count))
    ∙ ap (cond (eqb (first + count) n) (Some (row (first + count)))) (row_at-rows_put key row first count rows own n)
    ∙ one_row_more row first count n (row_at key rows n)

-- rows with these numbers for their keys, of which none had a row, are added
pub rows_add : {R : Type 0} (key : R → ℕ) (row : ℕ → R) (first count : ℕ) (rows : List R)
    → ((n : ℕ) → key (row n) ≡ n) → HasKeys key rows
    → ((n : ℕ) → n < count → row_at key rows (first + n) ≡ None)
    → AddsRows key row first count rows (rows_put key row first count rows)
rows_add key row first zero rows own keys none = rows_none key row first rows keys
rows_add key row first (suc count) rows own keys none =
    let before = rows_put key row first count rows in
    rows_more key row first count rows before (rows_put key row first (suc count) rows) own
    (rows_add key row first count rows own keys (λ n lt. none n (omega arith))) (none count (omega arith))
    (λ distinct free. row_adds key before (row (first + count)) distinct free)
