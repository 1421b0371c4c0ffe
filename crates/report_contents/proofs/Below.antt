-- The numbers below one that pass a test, by rising; and filters that pass all or none.
use Rattle.std.proofs.Common.{◌≡◌, ◌≤◌, ◌<◌, ◌+◌, ◌++◌, ℕ, zero, suc, Bool, true, false, cond, List, [], ◌∷◌, filter}
use Rattle.std.proofs.Common.{refl, sym, ap, subst, ◌∙◌, inl, inr, arith, append-nil, append_assoc}
use Rattle.std.specs.Prelude.{◌==◌, ◌⊎◌, All}
use Rattle.std.specs.List.{Contains, range_with_len}
use Rattle.std.specs.List.Sorted.{IsStrictlyIncreasing}
use Rattle.std.proofs.lemmas.Bool.{cases_Bool, cases_lt, eqb-false, eqb-true}
use Rattle.std.proofs.lemmas.List.Elements.{All-contains, All-filter, All-head, All-tail, Contains-append_left, Contains-push}
use Rattle.std.proofs.lemmas.List.Elements.{filter-append, filter_passes}
use Rattle.std.proofs.lemmas.List.FromFn.{get_or-range_with_len, length-range_with_len}
use Rattle.std.proofs.lemmas.List.Kept.{IsStrictlyIncreasing-filter}

module _ {X : Type 0} (p : X → Bool) where
  pub filter_all : (xs : List X) → All (λ x. p x ≡ true) xs → filter p xs ≡ xs
  filter_all [] all = refl
  filter_all (x ∷ xs) all =
      rw (All-head (λ x. p x ≡ true) x xs all) (ap (λ l. x ∷ l) (filter_all xs (All-tail (λ x. p x ≡ true) x xs all)))

  pub filter_none : (xs : List X) → All (λ x. p x ≡ false) xs → filter p xs ≡ []
  filter_none [] none = refl
  filter_none (x ∷ xs) none =
      rw (All-head (λ x. p x ≡ false) x xs none) (filter_none xs (All-tail (λ x. p x ≡ false) x xs none))

range_more : (a n : ℕ) → range_with_len a (n + 1) ≡ range_with_len a n ++ (a + n) ∷ []
range_more a zero = ap (λ k. k ∷ []) (omega arith)
range_more a (suc n) =
    let count : suc n + 1 ≡ suc (n + 1) = omega arith in
    let last : a + 1 + n ≡ a + suc n = omega arith in
    ap (range_with_len a) count
    ∙ ap (λ l. a ∷ l) (range_more (a + 1) n ∙ ap (λ k. range_with_len (a + 1) n ++ k ∷ []) last)

range_rises : (a n : ℕ) → IsStrictlyIncreasing (range_with_len a n)
range_rises a n k more =
    let len = length-range_with_len a n in
    let one = get_or-range_with_len a n k 0 (omega (arith, more, len)) in
    let next = get_or-range_with_len a n (k + 1) 0 (omega (arith, more, len)) in
    omega (arith, one, next)

range_low : (n : ℕ) → All (λ a. a < n) (range_with_len 0 n)
range_low n k d low =
    let len = length-range_with_len 0 n in
    let at = get_or-range_with_len 0 n k d (omega (arith, low, len)) in
    omega (arith, at, low, len)

module _ (p : ℕ → Bool) where
  pub below : ℕ → List ℕ
  below n = filter p (range_with_len 0 n)

  pub below_none : below 0 ≡ []
  unfolding below
  below_none = refl

  -- one more number
  pub below_more : (n : ℕ) → below (n + 1) ≡ below n ++ cond (p n) (n ∷ []) []
  unfolding below
  below_more n =
      let last : 0 + n ≡ n = omega arith in
      ap (filter p) (range_more 0 n) ∙ ap (λ k. filter p (range_with_len 0 n ++ k ∷ [])) last
      ∙ filter-append p (range_with_len 0 n) (n ∷ [])

  pub below_rises : (n : ℕ) → IsStrictlyIncreasing (below n)
  unfolding below
  below_rises n = IsStrictlyIncreasing-filter p (range_with_len 0 n) (range_rises 0 n)

  pub below_only : (n a : ℕ) → Contains (below n) a → (a < n) × (p a ≡ true)
  unfolding below
  below_only n a has = (
    All-contains (λ k. k < n) (below n) a (All-filter p (λ k. k < n) (range_with_len 0 n) (range_low n)) has,
    All-contains (λ k. p k ≡ true) (below n) a (filter_passes p (range_with_len 0 n)) has,
  )

  pub below_has : (n a : ℕ) → a < n → p a ≡ true → Contains (below n) a
  below_has zero a low is = absurd (omega (arith, low))
  below_has (suc n) a low is =
      let next : n + 1 ≡ suc n = omega arith in
      subst (λ m. Contains (below m) a) next (subst (λ l. Contains l a) (sym (below_more n)) (at (below_has n a) (cases_Bool (a == n))))
    where
      at : (a < n → p a ≡ true → Contains (below n) a) → ((a == n) ≡ true) ⊎ ((a == n) ≡ false)
          → Contains (below n ++ cond (p n) (n ∷ []) []) a
      at earlier (inl same) =
          let here : a ≡ n = eqb-true a n same in
          subst (λ k. Contains (below n ++ cond (p n) (n ∷ []) []) k) (sym here)
          (subst (λ b. Contains (below n ++ cond b (n ∷ []) []) n) (sym (ap p (sym here) ∙ is)) (Contains-push (below n) n))
      at earlier (inr other) =
          let away = eqb-false a n other in
          let before : a < n = elim (cases_lt a n) [
            | inl less ↦ less
            | inr more ↦ absurd (away (let whole : a ≡ n = omega (arith, low, more) in whole))
          ] in
          Contains-append_left (below n) (cond (p n) (n ∷ []) []) a (earlier before is)

  -- none from one number on up to another
  pub below_gap : (m d : ℕ) → ((k : ℕ) → m ≤ k → k < m + d → p k ≡ false) → below (m + d) ≡ below m
  below_gap m zero none = let same : m + zero ≡ m = omega arith in ap below same
  below_gap m (suc d) none =
      let next : m + suc d ≡ (m + d) + 1 = omega arith in
      let last = none (m + d) (omega arith) (omega arith) in
      ap below next ∙ below_more (m + d) ∙ ap (λ b. below (m + d) ++ cond b ((m + d) ∷ []) []) last
      ∙ append-nil (below (m + d)) ∙ below_gap m d (λ k from until. none k from (omega (arith, until)))

  -- the first of them
  pub below_begins : (m d : ℕ) → (more : List ℕ) × (below (m + d) ≡ below m ++ more)
  below_begins m zero = let same : m + zero ≡ m = omega arith in ([], ap below same ∙ sym (append-nil (below m)))
  below_begins m (suc d) =
      let next : m + suc d ≡ (m + d) + 1 = omega arith in
      let it = below_begins m d in
      let last = cond (p (m + d)) ((m + d) ∷ []) [] in (
        it.0 ++ last,
        ap below next ∙ below_more (m + d) ∙ ap (λ l. l ++ last) it.1 ∙ append_assoc (below m) it.0 last,
      )
