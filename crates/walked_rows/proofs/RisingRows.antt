-- Rows under rising keys, and what look-ups find of them.
use Rattle.std.proofs.Common.{◌≡◌, ◌<◌, ◌++◌, ℕ, pos, Bool, false, cond, eqb, List, [], ◌∷◌, map, find, Less, int_cmp}
use Rattle.std.proofs.Common.{Some, None, refl, sym, ap, subst, ◌∙◌, inl, inr, arith}
use Rattle.std.specs.List.{AllByRecursion}
use Rattle.std.proofs.lemmas.{Bool.cases_Bool, Bool.eqb-true, Bool.eq-eqb, Int.ints}
use Rattle.posting_rules.specs.believed.Tables.{row_at}
use Rattle.sql_meanings.specs.believed.Entries.{Entry, Rise}
use Rattle.sql_meanings.proofs.Places.{all_weaker}

pub all-append : {X : Type 0} (P : X → Type 0) (xs ys : List X) → AllByRecursion P xs
    → AllByRecursion P ys → AllByRecursion P (xs ++ ys)
all-append P [] ys all more = more
all-append P (x ∷ xs) ys all more = (all.0, all-append P xs ys all.1 more)

-- what isn't found in front is looked for after
pub find_after : {X : Type 0} (p : X → Bool) (xs ys : List X) → find p xs ≡ None → find p (xs ++ ys)
    ≡ find p ys
find_after p [] ys none = refl
find_after p (x ∷ xs) ys none = elim (cases_Bool (p x)) [
  | inl t ↦ absurd (let e = rw t at none in cc)
  | inr f ↦ rw f (find_after p xs ys (rw f at none))
]

-- a last one that doesn't pass is as good as none
pub find_before : {X : Type 0} (p : X → Bool) (xs : List X) (y : X) → p y ≡ false
    → find p (xs ++ y ∷ []) ≡ find p xs
find_before p [] y away = rw away refl
find_before p (x ∷ xs) y away = elim (cases_Bool (p x)) [
  | inl t ↦ rw t refl
  | inr f ↦ rw f (find_before p xs y away)
]

less : (m n : ℕ) → int_cmp (pos m) (pos n) ≡ Less → m < n
less m n is = grind (arith, ints)

module _ {R : Type 0} (key : R → ℕ) where
  -- each key is above those before it
  abbrev pub Rising : List R → Type 0
  Rising [] = Unit {0}
  Rising (r ∷ rs) = AllByRecursion (λ x. key r < key x) rs × Rising rs

  pub rising_more : (rs : List R) (r : R) → Rising rs → AllByRecursion (λ x. key x < key r) rs
      → Rising (rs ++ r ∷ [])
  rising_more [] r rise below = (tt, tt)
  rising_more (x ∷ rs) r rise below =
      (all-append (λ y. key x < key y) rs (r ∷ []) rise.0 (below.0, tt), rising_more rs r rise.1 below.1)

  -- rows of a file have such keys
  pub rising_keys : (entry : R → Entry) → ((r : R) → (entry r).key ≡ pos (key r)) → (rs : List R)
      → Rise (map entry rs) → Rising rs
  rising_keys entry keyed [] rise = tt
  rising_keys entry keyed (r ∷ rs) rise = (above rs rise.0, rising_keys entry keyed rs rise.1)
    where
      above : (xs : List R) → AllByRecursion (λ (e : Entry). int_cmp (entry r).key e.key ≡ Less) (map entry xs)
          → AllByRecursion (λ x. key r < key x) xs
      above [] all = tt
      above (x ∷ xs) all = (less (key r) (key x) (rw (keyed r, keyed x) at all.0), above xs all.1)

  -- a key that no row has
  pub not_under : (o : ℕ) (rs : List R) → AllByRecursion (λ x. key x ≡ o → ⊥) rs
      → row_at key rs o ≡ None
  not_under o [] away = refl
  not_under o (r ∷ rs) away = elim (cases_Bool (eqb (key r) o)) [
    | inl t ↦ absurd (away.0 (eqb-true (key r) o t))
    | inr f ↦ rw f (not_under o rs away.1)
  ]

  -- after rows of lower keys comes the row of a number
  pub under_next : (rs : List R) (row : ℕ → R) (n : ℕ) → key (row n) ≡ n → AllByRecursion (λ x. key x < n) rs
      → (o : ℕ) → row_at key (rs ++ row n ∷ []) o ≡ cond (eqb n o) (Some (row o)) (row_at key rs o)
  under_next rs row n is below o = elim (cases_Bool (eqb n o)) [
    | inl t ↦
        find_after (λ r. eqb (key r) o) rs (row n ∷ [])
        (not_under o rs (all_weaker (λ x. key x < n) (λ x. key x ≡ o → ⊥)
        (λ x low same. let at = eqb-true n o t in omega (arith, low, same, at)) rs below))
        ∙ rw (is, t) (ap (λ (m : ℕ). Some (row m)) (eqb-true n o t))
    | inr f ↦ find_before (λ r. eqb (key r) o) rs (row n) (rw is f) ∙ rw f refl
  ]

  -- a row that is found has the key, and what holds of all rows holds of it
  pub found_under : (P : R → Type 0) (rows : List R) (o : ℕ) (r : R) → row_at key rows o ≡ Some r
      → AllByRecursion P rows → (key r ≡ o) × P r
  found_under P [] o r h all = absurd cc
  found_under P (x ∷ xs) o r h all = elim (cases_Bool (eqb (key x) o)) [
    | inl t ↦ let same : x ≡ r = let e = rw t at h in cc in
        subst (λ y. (key y ≡ o) × P y) same (eqb-true (key x) o t, all.0)
    | inr f ↦ found_under P xs o r (rw f at h) all.1
  ]

  above_not : (k o : ℕ) (rs : List R) → k ≡ o → AllByRecursion (λ x. k < key x) rs
      → AllByRecursion (λ x. key x ≡ o → ⊥) rs
  above_not k o rs same above =
      all_weaker (λ x. k < key x) (λ x. key x ≡ o → ⊥) (λ x low is. omega (arith, low, is, same)) rs
      above

  -- rows under rising keys are known by what is found under each
  pub rising_once : (xs ys : List R) → Rising xs → Rising ys
      → ((o : ℕ) → row_at key xs o ≡ row_at key ys o) → xs ≡ ys
  rising_once [] [] a b same = refl
  rising_once [] (y ∷ ys) a b same =
      absurd (let e = rw (eq-eqb (key y) (key y) refl) at (same (key y)) in cc)
  rising_once (x ∷ xs) [] a b same =
      absurd (let e = rw (eq-eqb (key x) (key x) refl) at (same (key x)) in cc)
  rising_once (x ∷ xs) (y ∷ ys) a b same = elim (cases_Bool (eqb (key y) (key x))) [
    | inl t ↦
        let keys : key y ≡ key x = eqb-true (key y) (key x) t in
        let head : x ≡ y = (let e = rw (eq-eqb (key x) (key x) refl, t) at (same (key x)) in cc) in
        let tails : (o : ℕ) → row_at key xs o ≡ row_at key ys o =
        (λ o. elim (cases_Bool (eqb (key x) o)) [
          | inl u ↦
              let at : key x ≡ o = eqb-true (key x) o u in
              not_under o xs (above_not (key x) o xs at a.0)
              ∙ sym (not_under o ys (above_not (key y) o ys (keys ∙ at) b.0))
          | inr f ↦ let g : eqb (key y) o ≡ false =
              (subst (λ (k : ℕ). eqb k o ≡ false) (sym keys) f) in rw (f, g) at (same o)
        ]) in
        ap (λ z. z ∷ xs) head ∙ ap (λ l. y ∷ l) (rising_once xs ys a.1 b.1 tails)
    | inr f ↦
        let g : eqb (key x) (key y) ≡ false = other (key x) (key y) f in
        let low : (key x ≡ key x) × (key y < key x) =
        found_under (λ z. key y < key z) ys (key x) x
        (sym (rw (eq-eqb (key x) (key x) refl, f) at (same (key x)))) b.0 in
        let high : (key y ≡ key y) × (key x < key y) =
        found_under (λ z. key x < key z) xs (key y) y
        (rw (eq-eqb (key y) (key y) refl, g) at (same (key y))) a.0 in
        absurd (omega (arith, low.1, high.1))
  ]
    where
      other : (m n : ℕ) → eqb n m ≡ false → eqb m n ≡ false
      other m n f = elim (cases_Bool (eqb m n)) [
        | inl t ↦ absurd (let e = eq-eqb n m (sym (eqb-true m n t)) in cc)
        | inr g ↦ g
      ]
