-- Slots that are filled have what the rows hold, whatever rows a file holds.
use Rattle.std.proofs.Common.{◌≡◌, ℕ, eqb, List, [], ◌∷◌, length, map, Option, Some, None, refl, sym, ap, subst, ◌∙◌}
use Rattle.std.proofs.Common.{inl, inr}
use Rattle.std.specs.{Prelude.IsSome, Prelude.IfSome, Prelude.is_some, List.AllByRecursion, Option.option_map}
use Rattle.std.proofs.lemmas.Bool.{eqb-true}
use Rattle.smallvec.specs.SmallVec.{SmallVec, with_items}
use Rattle.smallvec.proofs.SmallVecLemmas.{items-with_items}
use Rattle.posting_rules.specs.believed.Tables.{row_at}
use Rattle.posting_rules.proofs.Keyed.{by_test}
use Rattle.posting_batch.specs.declared.slots.{BranchSlot.BranchSlot, FloorSlot.FloorSlot}
use Rattle.posting_batch.specs.Slots.{branch_slot_key, floor_of_slot, floor_slot_key, in_slot, row_of_slot}
use Rattle.posting_batch.proofs.KeptSlots.{find-map}
use Rattle.store_rows.specs.believed.Rules.{StoredRows}
use Rattle.bank_transactions.specs.Filling.{BranchHeld, FloorHeld, HoldsBranch, TellsFloor, TellsStored}
use Rattle.bank_transactions.specs.Filling.{emptied_branch, emptied_floor}
use Rattle.bank_transactions.specs.believed.Stored.{HoldsFloor}

-- what is so of each slot under its own key is so of the one that is found under a key
pub at_key : {S : Type 0} (key : S → ℕ) (P : ℕ → S → Type 0) (slots : List S)
    → AllByRecursion (λ s. P (key s) s) slots → (n : ℕ) → IfSome (row_at key slots n) (P n)
at_key key P [] all n = tt
at_key {S} key P (s ∷ slots) all n =
    elim (by_test (eqb (key s) n)) [
      | inl t ↦ rw t (subst (λ (j : ℕ). P j s) (eqb-true (key s) n t) all.0)
      | inr f ↦ rw f (at_key key P slots all.1 n)
    ]

mapped : {A B : Type 0} (f : A → B) (o : Option A) → is_some (option_map f o) ≡ is_some o
mapped f None = refl
mapped f (Some x) = refl

-- slots that were filled have the keys that they had, and tell under each what the rows hold
module _ {S X : Type 0} (key : S → ℕ) (content : S → Option X) (bare : S → S)
    (still : (n : ℕ) (s : S) → eqb (key (bare s)) n ≡ eqb (key s) n) (P : ℕ → Option X → Type 0) where
  abbrev Tells : List S → ℕ → Type 0
  Tells slots n = P n (in_slot content (row_at key slots n))

  abbrev Each : List S → Type 0
  Each slots = AllByRecursion (λ s. P (key s) (content s)) slots

  there_still : (old new : List S) (n : ℕ) → map bare new ≡ map bare old → IsSome (row_at key old n)
      → IsSome (row_at key new n)
  there_still old new n same there =
      let at = λ (slots : List S). find-map (λ s. eqb (key s) n) bare (still n) slots in
      let is = λ (slots : List S). sym (mapped bare (row_at key slots n)) ∙ sym (ap is_some (at slots)) in
      is new ∙ ap (λ (slots : List S). is_some (row_at key slots n)) same ∙ sym (is old) ∙ there

  tells : (slots : List S) (n : ℕ) → Each slots → IsSome (row_at key slots n) → Tells slots n
  tells slots n all there =
      of (row_at key slots n) there (at_key key (λ k s. P k (content s)) slots all n)
    where
      of : (o : Option S) → IsSome o → IfSome o (λ s. P n (content s)) → P n (in_slot content o)
      of None there held = absurd cc
      of (Some s) there held = held

  module _ {A : Type 0} (number : A → ℕ) where
    tell_all : (old new : List S) (others : List A) → map bare new ≡ map bare old → Each new
        → AllByRecursion (λ x. IsSome (row_at key old (number x))) others
        → AllByRecursion (λ x. Tells new (number x)) others
    tell_all old new [] same held homes = tt
    tell_all old new (x ∷ others) same held homes = (
      tells new (number x) held (there_still old new (number x) same homes.0),
      tell_all old new others same held homes.1,
    )

    pub know_all : (old given new : List S) (others xs : List A) → given ≡ new → xs ≡ others
        → map bare new ≡ map bare old → Each new
        → AllByRecursion (λ x. IsSome (row_at key old (number x))) others
        → AllByRecursion (λ x. Tells given (number x)) xs
    know_all old given new others xs is at same held homes =
        subst (λ (slots : List S). AllByRecursion (λ x. Tells slots (number x)) xs) (sym is)
        (subst (λ (ys : List A). AllByRecursion (λ x. Tells new (number x)) ys) (sym at)
        (tell_all old new others same held homes))

-- so they tell the branches that other slots give
module _ {A : Type 0} (branch_of : A → ℕ) (rows : StoredRows) where
  pub know_branches : (old given new : List BranchSlot) (others xs : List A) → given ≡ new → xs ≡ others
      → map emptied_branch new ≡ map emptied_branch old → AllByRecursion (BranchHeld rows) new
      → AllByRecursion (λ s. IsSome (row_at branch_slot_key old (branch_of s))) others
      → AllByRecursion (λ s. TellsStored given rows (branch_of s)) xs
  know_branches = know_all branch_slot_key row_of_slot emptied_branch (λ n s. refl) (HoldsBranch rows) branch_of

  -- and their floors
  pub know_floors : (old given new : List FloorSlot) (others xs : List A) → given ≡ new → xs ≡ others
      → map emptied_floor new ≡ map emptied_floor old → AllByRecursion (FloorHeld rows) new
      → AllByRecursion (λ s. IsSome (row_at floor_slot_key old (branch_of s))) others
      → AllByRecursion (λ s. TellsFloor given rows (branch_of s)) xs
  know_floors = know_all floor_slot_key floor_of_slot emptied_floor (λ n s. refl) (HoldsFloor rows) branch_of

-- slots that were filled through a slice of a vector are those that it has then
pub put_back : {A : Type 0} (v : SmallVec A) (xs ys : List A) → xs ≡ v.items → length ys ≡ length xs
    → (with_items v ys).items ≡ ys
put_back v xs ys is same = items-with_items v ys (same ∙ ap length is)
