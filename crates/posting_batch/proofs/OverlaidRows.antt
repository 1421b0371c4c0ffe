-- Rows of one table under the slots of a batch, and their balances.
use Rattle.std.proofs.Common.{◌≡◌, ℕ, Bool, true, false, cond, eqb, List, [], ◌∷◌, Option, Some, None, refl, sym, ap}
use Rattle.std.proofs.Common.{subst, ◌∙◌, inl, inr}
use Rattle.std.specs.{Prelude.ℤ, Prelude.IsSome, Prelude.IfSome, Option.option_map, Option.unwrap_or}
use Rattle.std.proofs.lemmas.Bool.{eqb-true}
use Rattle.posting_rules.specs.believed.{Changes.row_changed, Tables.row_at}
use Rattle.posting_rules.proofs.{Keyed.by_test, RowChanges.eqb-flip, RowChanges.row_at-changed}
use Rattle.posting_batch.specs.Overlay.{by_slot, over, changed_to}
use Rattle.posting_batch.specs.Slots.{balance_now, in_slot, slot_balance}

-- ---- rows of one table under slots

module _ {S R : Type 0} (slot_key : S → ℕ) (key : R → ℕ) (put : S → R → R)
    (same : (s : S) (r : R) → key (put s r) ≡ key r) where
  -- what a slot says leaves a row its key
  pub key-by_slot : (o : Option S) (r : R) → key (by_slot put o r) ≡ key r
  key-by_slot None r = refl
  key-by_slot (Some s) r = same s r

  -- the row under a key
  pub row_at-over : (slots : List S) (rows : List R) (n : ℕ)
      → row_at key (over slot_key key put slots rows) n ≡ option_map (by_slot put (row_at slot_key slots n))
      (row_at key rows n)
  row_at-over slots [] n = refl
  row_at-over slots (r ∷ rows) n =
      ap (λ (j : ℕ). cond (eqb j n) (Some (by_slot put (row_at slot_key slots (key r)) r))
      (row_at key (over slot_key key put slots rows) n))
      (key-by_slot (row_at slot_key slots (key r)) r)
      ∙ elim (by_test (eqb (key r) n)) [
        | inl t ↦ let e : key r ≡ n = eqb-true (key r) n t in
            rw t (ap (λ (j : ℕ). Some (by_slot put (row_at slot_key slots j) r)) e)
        | inr f ↦ rw f (row_at-over slots rows n)
      ]

  module _ (k : ℕ) (set : S → S) (change : R → R)
      (sets : (s : S) (r : R) → put (set s) r ≡ change (put s r)) where
    -- what a changed slot says of its row, and of another
    slot_hit : (b : Bool) (o : Option S) (r : R) → b ≡ true → IsSome o
        → by_slot put (option_map (λ s. cond b (set s) s) o) r ≡ change (by_slot put o r)
    slot_hit true None r t there = absurd cc
    slot_hit true (Some s) r t there = sets s r
    slot_hit false o r t there = absurd cc

    slot_miss : (b : Bool) (o : Option S) (r : R) → b ≡ false
        → by_slot put (option_map (λ s. cond b (set s) s) o) r ≡ by_slot put o r
    slot_miss true o r f = absurd cc
    slot_miss false None r f = refl
    slot_miss false (Some s) r f = refl

    -- a change of a slot that is there changes the row under its key
    pub over-changed : (slots : List S) → ((s : S) → slot_key (set s) ≡ slot_key s)
        → IsSome (row_at slot_key slots k) → (rows : List R)
        → over slot_key key put (row_changed slot_key set k slots) rows ≡ row_changed key change k
        (over slot_key key put slots rows)
    over-changed slots kept there [] = refl
    over-changed slots kept there (r ∷ rows) =
        ap (λ (x : R). x ∷ over slot_key key put (row_changed slot_key set k slots) rows) one
        ∙ ap (λ (xs : List R). cond (eqb (key y) k) (change y) y ∷ xs) (over-changed slots kept there rows)
      where
        at : Option S
        at = row_at slot_key slots (key r)

        y : R
        y = by_slot put at r

        one : by_slot put (row_at slot_key (row_changed slot_key set k slots) (key r)) r ≡ cond
            (eqb (key y) k) (change y) y
        one =
            let is : eqb (key y) k ≡ eqb k (key r) = ap (λ (n : ℕ). eqb n k) (key-by_slot at r) ∙ eqb-flip
            (key r) k in
            ap (λ (o : Option S). by_slot put o r) (row_at-changed slot_key k set kept slots (key r))
            ∙ elim (by_test (eqb k (key r))) [
              | inl t ↦
                  slot_hit (eqb k (key r)) at r t
                  (subst (λ (n : ℕ). IsSome (row_at slot_key slots n)) (eqb-true k (key r) t) there)
                  ∙ ap (λ (b : Bool). cond b (change y) y) (sym (is ∙ t))
              | inr f ↦ slot_miss (eqb k (key r)) at r f
                  ∙ ap (λ (b : Bool). cond b (change y) y) (sym (is ∙ f))
            ]

-- ---- balances

module _ {S R : Type 0} (slot_key : S → ℕ) (stored_of change_of : S → Option ℤ) (key : R → ℕ)
    (balance_of : R → ℤ) (set : ℤ → R → R)
    (same : (z : ℤ) (r : R) → key (set z r) ≡ key r) (shown : (z : ℤ) (r : R) → balance_of (set z r) ≡ z)
    (again : (z y : ℤ) (r : R) → set z (set y r) ≡ set z r) where
  abbrev put : S → R → R
  put s r = changed_to set (change_of s) r

  pub put_same : (s : S) (r : R) → key (put s r) ≡ key r
  put_same s r = by_change (change_of s)
    where
      by_change : (c : Option ℤ) → key (changed_to set c r) ≡ key r
      by_change None = refl
      by_change (Some z) = same z r

  -- the last balance stands
  pub put_again : (z : ℤ) (s : S) (r : R) → set z r ≡ set z (put s r)
  put_again z s r = by_change (change_of s)
    where
      by_change : (c : Option ℤ) → set z r ≡ set z (changed_to set c r)
      by_change None = refl
      by_change (Some y) = sym (again z y r)

  balance_same : (c : Option ℤ) (o : Option R)
      → option_map (unwrap_or c) (option_map balance_of o) ≡ option_map balance_of
      (option_map (changed_to set c) o)
  balance_same None None = refl
  balance_same None (Some r) = refl
  balance_same (Some z) None = refl
  balance_same (Some z) (Some r) = ap Some (sym (shown z r))

  -- the balance that a slot tells is that of the row under it
  pub balance_is : (slots : List S) (rows : List R) (n : ℕ)
      → IfSome (row_at slot_key slots n) (λ s. stored_of s ≡ option_map balance_of (row_at key rows n))
      → IsSome (row_at slot_key slots n)
      → slot_balance slot_key (λ s. balance_now (stored_of s) (change_of s)) slots n ≡ option_map balance_of
      (row_at key (over slot_key key put slots rows) n)
  balance_is slots rows n fits there =
      by_slots (row_at slot_key slots n) there fits ∙ ap (option_map balance_of)
      (sym (row_at-over slot_key key put put_same slots rows n))
    where
      by_slots : (at : Option S) → IsSome at
          → IfSome at (λ s. stored_of s ≡ option_map balance_of (row_at key rows n))
          → in_slot (λ s. balance_now (stored_of s) (change_of s)) at ≡ option_map balance_of
          (option_map (by_slot put at) (row_at key rows n))
      by_slots None there is = absurd cc
      by_slots (Some s) there is = ap (option_map (unwrap_or (change_of s))) is ∙ balance_same (change_of s)
          (row_at key rows n)
