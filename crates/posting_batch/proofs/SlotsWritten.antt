-- What the slots of one table write, one after another, is what they say together.
use Rattle.std.proofs.Common.{◌≡◌, ℕ, Bool, true, false, cond, eqb, List, [], ◌∷◌, ◌++◌, map, Option, Some, None}
use Rattle.std.proofs.Common.{refl, sym, ap, subst, ◌∙◌, inl, inr}
use Rattle.std.specs.Prelude.{ℤ, nat_eq, IsSome}
use Rattle.std.specs.{List.AllByRecursion, Option.option_or}
use Rattle.std.proofs.lemmas.{Bool.eqb-true, List.Folds.find-append}
use Rattle.std.proofs.lemmas.Map.Keys.{IsDistinct-head, IsDistinct-tail}
use Rattle.posting_rules.specs.believed.{Changes.row_changed, Tables.HasKeys, Tables.row_at}
use Rattle.posting_rules.proofs.{Keyed.by_test, RowChanges.eqb-flip}
use Rattle.posting_batch.specs.Overlay.{by_slot, over, changed_to}
use Rattle.posting_batch.proofs.{OverlaidRows.key-by_slot, OverlaidRows.row_at-over, KeptSlots.there_mapped}

-- no slot in front of another has its key
pub not_before : {S : Type 0} (key : S → ℕ) (front : List S) (s : S) (rest : List S)
    → HasKeys key (front ++ s ∷ rest) → row_at key front (key s) ≡ None
not_before key [] s rest keys = refl
not_before {S} key (x ∷ front) s rest keys =
    let other : eqb (key x) (key s) ≡ false = after front
    (IsDistinct-head nat_eq (key x) (map key (front ++ s ∷ rest)) keys) in
    rw other (not_before key front s rest (IsDistinct-tail nat_eq (key x) (map key (front ++ s ∷ rest)) keys))
  where
    after : (xs : List S) → AllByRecursion (λ j. nat_eq (key x) j ≡ false) (map key (xs ++ s ∷ rest))
        → eqb (key x) (key s) ≡ false
    after [] all = all.0
    after (y ∷ xs) all = after xs all.1

module _ {S R : Type 0} (slot_key : S → ℕ) (key : R → ℕ) (change_of : S → Option ℤ) (set : ℤ → R → R)
    (same : (s : S) (r : R) → key (changed_to set (change_of s) r) ≡ key r) where
  abbrev put : S → R → R
  put s r = changed_to set (change_of s) r

  -- no slot
  pub over_none : (rows : List R) → over slot_key key put [] rows ≡ rows
  over_none [] = refl
  over_none (r ∷ rows) = ap (λ (rs : List R). r ∷ rs) (over_none rows)

  -- one slot, which changes its row or does not
  changed_one : (s : S) (z : ℤ) → change_of s ≡ Some z → (r : R) (hit flip : Bool) → hit ≡ flip
      → cond hit (set z r) r ≡ by_slot put (cond flip (Some s) None) r
  changed_one s z e r true true same = ap (λ (c : Option ℤ). changed_to set c r) (sym e)
  changed_one s z e r false false same = refl
  changed_one s z e r true false same = absurd cc
  changed_one s z e r false true same = absurd cc

  pub over_changed : (s : S) (z : ℤ) → change_of s ≡ Some z → (rows : List R)
      → row_changed key (set z) (slot_key s) rows ≡ over slot_key key put (s ∷ []) rows
  over_changed s z e [] = refl
  over_changed s z e (r ∷ rows) =
      ap (λ (x : R). x ∷ row_changed key (set z) (slot_key s) rows)
      (changed_one s z e r (eqb (key r) (slot_key s)) (eqb (slot_key s) (key r))
      (eqb-flip (key r) (slot_key s)))
      ∙ ap (λ (rs : List R). by_slot put (row_at slot_key (s ∷ []) (key r)) r ∷ rs) (over_changed s z e rows)

  unchanged_one : (s : S) → change_of s ≡ None → (r : R) (hit : Bool)
      → by_slot put (cond hit (Some s) None) r ≡ r
  unchanged_one s e r true = ap (λ (c : Option ℤ). changed_to set c r) e
  unchanged_one s e r false = refl

  pub over_unchanged : (s : S) → change_of s ≡ None → (rows : List R)
      → over slot_key key put (s ∷ []) rows ≡ rows
  over_unchanged s e [] = refl
  over_unchanged s e (r ∷ rows) =
      ap (λ (x : R). x ∷ over slot_key key put (s ∷ []) rows) (unchanged_one s e r (eqb (slot_key s) (key r)))
      ∙ ap (λ (rs : List R). r ∷ rs) (over_unchanged s e rows)

  -- one slot more, whose key no other has
  one_more : (front : List S) (s : S) → row_at slot_key front (slot_key s) ≡ None → (r : R)
      → by_slot put (row_at slot_key (s ∷ []) (key r)) (by_slot put (row_at slot_key front (key r)) r)
      ≡ by_slot put (row_at slot_key (front ++ s ∷ []) (key r)) r
  one_more front s free r =
      elim (by_test (eqb (slot_key s) (key r))) [
        | inl t ↦
            let none : row_at slot_key front (key r) ≡ None = ap (row_at slot_key front)
            (sym (eqb-true (slot_key s) (key r) t)) ∙ free in
            ap (λ (o : Option S). by_slot put (row_at slot_key (s ∷ []) (key r)) (by_slot put o r)) none
            ∙ sym (ap (λ (o : Option S). by_slot put o r) (at_more
            ∙ ap (λ (o : Option S). option_or o (row_at slot_key (s ∷ []) (key r))) none))
        | inr f ↦
            ap (λ (b : Bool). by_slot put (cond b (Some s) None)
            (by_slot put (row_at slot_key front (key r)) r)) f
            ∙ sym (ap (λ (o : Option S). by_slot put o r)
            (at_more ∙ ap (λ (b : Bool). option_or (row_at slot_key front (key r)) (cond b (Some s) None)) f
            ∙ or_none (row_at slot_key front (key r))))
      ]
    where
      at_more : row_at slot_key (front ++ s ∷ []) (key r) ≡ option_or (row_at slot_key front (key r))
          (row_at slot_key (s ∷ []) (key r))
      at_more = find-append (λ x. eqb (slot_key x) (key r)) front (s ∷ [])

      or_none : (o : Option S) → option_or o None ≡ o
      or_none None = refl
      or_none (Some x) = refl

  pub over_more : (front : List S) (s : S) → row_at slot_key front (slot_key s) ≡ None → (rows : List R)
      → over slot_key key put (s ∷ []) (over slot_key key put front rows) ≡ over slot_key key put
      (front ++ s ∷ []) rows
  over_more front s free [] = refl
  over_more front s free (r ∷ rows) =
      let y = by_slot put (row_at slot_key front (key r)) r in
      ap (λ (n : ℕ). by_slot put (row_at slot_key (s ∷ []) n) y ∷ over slot_key key put (s ∷ [])
      (over slot_key key put front rows))
      (key-by_slot slot_key key put same (row_at slot_key front (key r)) r)
      ∙ ap (λ (x : R). x ∷ over slot_key key put (s ∷ []) (over slot_key key put front rows))
      (one_more front s free r)
      ∙ ap (λ (rs : List R). by_slot put (row_at slot_key (front ++ s ∷ []) (key r)) r ∷ rs)
      (over_more front s free rows)

  -- a row that was there is there while others are written
  pub over_there : (slots : List S) (rows : List R) (n : ℕ) → IsSome (row_at key rows n)
      → IsSome (row_at key (over slot_key key put slots rows) n)
  over_there slots rows n there =
      subst (λ (o : Option R). IsSome o) (sym (row_at-over slot_key key put same slots rows n))
      (there_mapped (by_slot put (row_at slot_key slots n)) (row_at key rows n) there)
