-- What is kept in slots, where one request more is kept.
use Rattle.std.proofs.Common.{◌≡◌, ℕ, Bool, true, false, cond, eqb, ltb, List, [], ◌∷◌, map, Option, Some, None, refl}
use Rattle.std.proofs.Common.{sym, ap, subst, ◌∙◌, inl, inr}
use Rattle.std.specs.Prelude.{◌&&◌, IfSome, IsSome}
use Rattle.std.specs.{List.find, Option.option_map}
use Rattle.std.proofs.lemmas.Bool.{and_parts, eqb-true, eq-eqb}
use Rattle.posting_rules.specs.declared.judgments.Books.{Books}
use Rattle.posting_rules.specs.declared.rows.{ReferenceRow.ReferenceRow, RequestRow.RequestRow}
use Rattle.posting_rules.specs.believed.{Changes.row_put, Changes.reference_put, Kept.KeptFields, Kept.kept_with}
use Rattle.posting_rules.specs.believed.LookUps.{kept_in, kept_of_row, reference_in, text_of_reference}
use Rattle.posting_rules.specs.believed.Tables.{row_at, request_key, reference_key, reference_row_of}
use Rattle.posting_rules.proofs.{Keyed.by_test, Keyed.found_passes, RowChanges.eqb-flip, RowChanges.row_at-put}
use Rattle.posting_batch.specs.declared.slots.RequestSlot.{RequestSlot}
use Rattle.posting_batch.specs.Slots.{slots_kept, with_kept, is_for}

-- a map that keeps what a test says
pub find-map : {S : Type 0} (test : S → Bool) (f : S → S) → ((s : S) → test (f s) ≡ test s) → (slots : List S)
    → find test (map f slots) ≡ option_map f (find test slots)
find-map test f same [] = refl
find-map test f same (s ∷ slots) =
    ap (λ (b : Bool). cond b (Some (f s)) (find test (map f slots))) (same s)
    ∙ elim (by_test (test s)) [ inl t ↦ rw t refl | inr g ↦ rw g (find-map test f same slots) ]

-- ---- rows

-- a row is that of a teller and a number
abbrev is_of : ℕ → ℕ → RequestRow → Bool
is_of n m r = (eqb r.teller n) && (eqb r.number m)

pub map_none : {A B : Type 0} (f : A → B) (o : Option A) → option_map f o ≡ None → o ≡ None
map_none f None e = refl
map_none f (Some x) e = absurd cc

pub there_mapped : {A B : Type 0} (f : A → B) (o : Option A) → IsSome o → IsSome (option_map f o)
there_mapped f None h = absurd cc
there_mapped f (Some x) h = refl

-- a row is put in that nobody looked for
find-put_other : (x : RequestRow) (n m : ℕ) → is_of n m x ≡ false → (rows : List RequestRow)
    → find (is_of n m) (row_put request_key x rows) ≡ find (is_of n m) rows
find-put_other x n m f [] = rw f refl
find-put_other x n m f (r ∷ rows) =
    elim (by_test (ltb (request_key r) (request_key x))) [
      | inl t ↦ rw t (ap (cond (is_of n m r) (Some r)) (find-put_other x n m f rows))
      | inr g ↦ rw (g, f) refl
    ]

-- and one that is looked for, where there was none
find-put_here : (x : RequestRow) (n m : ℕ) → is_of n m x ≡ true → (rows : List RequestRow)
    → find (is_of n m) rows ≡ None
    → find (is_of n m) (row_put request_key x rows) ≡ Some x
find-put_here x n m t [] none = rw t refl
find-put_here x n m t (r ∷ rows) none =
    elim (by_test (ltb (request_key r) (request_key x))) [
      | inl u ↦ rw u (elim (by_test (is_of n m r)) [
        | inl v ↦ absurd (let h = rw v at none in cc)
        | inr f ↦ rw f (find-put_here x n m t rows (let h = rw f at none in h))
      ])
      | inr g ↦ rw (g, t) refl
    ]

-- ---- references

-- one is put in under an ordinal, and another ordinal has the one that it had
reference_other : (k : ℕ) (reference : Option (List ℕ)) (rows : List ReferenceRow) (o : ℕ) → eqb o k ≡ false
    → reference_in (reference_put k reference rows) o ≡ reference_in rows o
reference_other k None rows o f = refl
reference_other k (Some text) rows o f =
    let g : eqb k o ≡ false = eqb-flip k o ∙ f in
    ap (option_map text_of_reference) (row_at-put reference_key (reference_row_of k text) rows o ∙ rw g refl)

-- where there was none, it is the one that was put in
reference_here : (k : ℕ) (reference : Option (List ℕ)) (rows : List ReferenceRow)
    → row_at reference_key rows k ≡ None
    → reference_in (reference_put k reference rows) k ≡ reference
reference_here k None rows none = ap (option_map text_of_reference) none
reference_here k (Some text) rows none =
    let t : eqb k k ≡ true = eq-eqb k k refl in
    let is : row_at reference_key (reference_put k (Some text) rows) k ≡ Some (reference_row_of k text) =
    row_at-put reference_key (reference_row_of k text) rows k ∙ rw t refl in
    ap (option_map text_of_reference) is

-- a row that a test finds has another ordinal than one that is free
found_apart : (rows : List RequestRow) (test : RequestRow → Bool) (k : ℕ) (r : RequestRow)
    → row_at request_key rows k ≡ None → find test rows ≡ Some r → eqb r.ordinal k ≡ false
found_apart [] test k r none e = absurd cc
found_apart (y ∷ rows) test k r none e =
    elim (by_test (eqb y.ordinal k)) [
      | inl t ↦ absurd (let h = rw t at none in cc)
      | inr f ↦ elim (by_test (test y)) [
        | inl u ↦ let is : y ≡ r = (let h = rw u at e in cc) in subst (λ x. eqb x.ordinal k ≡ false) is f
        | inr g ↦ found_apart rows test k r (let h = rw f at none in h) (let h = rw g at e in h)
      ]
    ]

-- ---- a request more with its reference, under an ordinal that is free

module _ (rows : List RequestRow) (references : List ReferenceRow) (x : RequestRow)
    (reference : Option (List ℕ)) where
  abbrev then_in : ℕ → ℕ → Option KeptFields
  then_in n m = kept_in (row_put request_key x rows) (reference_put x.ordinal reference references) n m

  kept_other : (n m : ℕ) → row_at request_key rows x.ordinal ≡ None → is_of n m x ≡ false
      → then_in n m ≡ kept_in rows references n m
  kept_other n m free f =
      ap (option_map (kept_of_row (reference_put x.ordinal reference references)))
      (find-put_other x n m f rows)
      ∙ by_found (find (is_of n m) rows) refl
    where
      by_found : (o : Option RequestRow) → find (is_of n m) rows ≡ o
          → option_map (kept_of_row (reference_put x.ordinal reference references)) o ≡ option_map
          (kept_of_row references) o
      by_found None e = refl
      by_found (Some r) e =
          ap (λ (text : Option (List ℕ)). Some (kept_with text r.decision))
          (reference_other x.ordinal reference references r.ordinal
          (found_apart rows (is_of n m) x.ordinal r free e))

  kept_here : (n m : ℕ) → row_at reference_key references x.ordinal ≡ None → is_of n m x ≡ true
      → find (is_of n m) rows ≡ None → then_in n m ≡ Some (kept_with reference x.decision)
  kept_here n m free t none =
      ap (option_map (kept_of_row (reference_put x.ordinal reference references)))
      (find-put_here x n m t rows none)
      ∙ ap (λ (text : Option (List ℕ)). Some (kept_with text x.decision))
      (reference_here x.ordinal reference references free)

-- ---- slots

-- the slot that is found for a teller and a number is theirs
found_pair : (slots : List RequestSlot) (n m : ℕ)
    → IfSome (find (is_for n m) slots) (λ s. is_for n m s ≡ true)
found_pair slots n m = by_found (find (is_for n m) slots) refl
  where
    by_found : (o : Option RequestSlot) → find (is_for n m) slots ≡ o → IfSome o (λ s. is_for n m s ≡ true)
    by_found None e = tt
    by_found (Some s) e = found_passes (is_for n m) slots s e

with_kept-same : (n m : ℕ) (k : KeptFields) (a b : ℕ) (s : RequestSlot)
    → is_for a b (with_kept n m k s) ≡ is_for a b s
with_kept-same n m k a b s = elim (by_test (is_for n m s)) [ inl t ↦ rw t refl | inr f ↦ rw f refl ]

pub slot_for-kept : (n m : ℕ) (k : KeptFields) (slots : List RequestSlot) (a b : ℕ)
    → find (is_for a b) (slots_kept n m k slots) ≡ option_map (with_kept n m k) (find (is_for a b) slots)
slot_for-kept n m k slots a b = find-map (is_for a b) (with_kept n m k) (with_kept-same n m k a b) slots

-- what closed books say stays in the slots
pub books_fit : (n m : ℕ) (k : KeptFields) (slots : List RequestSlot) (a b : ℕ) (x : Books)
    → IfSome (find (is_for a b) slots) (λ s. s.books ≡ x)
    → IfSome (find (is_for a b) (slots_kept n m k slots)) (λ s. s.books ≡ x)
books_fit n m k slots a b x fits =
    subst (λ (o : Option RequestSlot). IfSome o (λ s. s.books ≡ x)) (sym (slot_for-kept n m k slots a b))
    (by_slots (find (is_for a b) slots) fits)
  where
    by_slots : (o : Option RequestSlot) → IfSome o (λ s. s.books ≡ x)
        → IfSome (option_map (with_kept n m k) o) (λ s. s.books ≡ x)
    by_slots None is = tt
    by_slots (Some s) is = elim (by_test (is_for n m s)) [ inl t ↦ rw t is | inr f ↦ rw f is ]

-- one request more is kept with its reference, in its slot and among the rows, under an ordinal that is free
pub kept_fits : (slots : List RequestSlot) (rows : List RequestRow) (references : List ReferenceRow)
    (x : RequestRow) (reference : Option (List ℕ)) → row_at request_key rows x.ordinal ≡ None
    → row_at reference_key references x.ordinal ≡ None → kept_in rows references x.teller x.number ≡ None
    → ((n m : ℕ) → IfSome (find (is_for n m) slots) (λ s. s.kept ≡ kept_in rows references n m))
    → (n m : ℕ)
    → IfSome (find (is_for n m) (slots_kept x.teller x.number (kept_with reference x.decision) slots))
    (λ s. s.kept ≡ then_in rows references x reference n m)
kept_fits slots rows references x reference free unreferenced none fits n m =
    subst (λ (o : Option RequestSlot). IfSome o (λ s. s.kept ≡ then_in rows references x reference n m))
    (sym (slot_for-kept x.teller x.number (kept_with reference x.decision) slots n m))
    (by_slots (find (is_for n m) slots) (fits n m) (found_pair slots n m))
  where
    by_slots : (o : Option RequestSlot) → IfSome o (λ s. s.kept ≡ kept_in rows references n m)
        → IfSome o (λ s. is_for n m s ≡ true)
        → IfSome (option_map (with_kept x.teller x.number (kept_with reference x.decision)) o)
        (λ s. s.kept ≡ then_in rows references x reference n m)
    by_slots None is own = tt
    by_slots (Some s) is own =
        let both = and_parts (eqb s.teller n) (eqb s.number m) own in
        let en : s.teller ≡ n = eqb-true s.teller n both.0 in
        let em : s.number ≡ m = eqb-true s.number m both.1 in
        let flip : is_for x.teller x.number s ≡ is_of n m x =
        ap (λ (b : Bool). b && (eqb s.number x.number))
        (ap (λ (j : ℕ). eqb j x.teller) en ∙ eqb-flip n x.teller)
        ∙ ap (λ (b : Bool). (eqb x.teller n) && b)
        (ap (λ (j : ℕ). eqb j x.number) em ∙ eqb-flip m x.number) in
        elim (by_test (is_of n m x)) [
          | inl t ↦
              let tb = and_parts (eqb x.teller n) (eqb x.number m) t in
              let xn : x.teller ≡ n = eqb-true x.teller n tb.0 in
              let xm : x.number ≡ m = eqb-true x.number m tb.1 in
              let hit : is_for x.teller x.number s ≡ true = flip ∙ t in
              let empty : find (is_of n m) rows ≡ None =
              map_none (kept_of_row references) (find (is_of n m) rows)
              (ap (λ (j : ℕ). kept_in rows references j m) (sym xn)
              ∙ ap (λ (j : ℕ). kept_in rows references x.teller j) (sym xm) ∙ none) in
              rw hit (sym (kept_here rows references x reference n m unreferenced t empty))
          | inr f ↦
              let miss : is_for x.teller x.number s ≡ false = flip ∙ f in
              rw miss (is ∙ sym (kept_other rows references x reference n m free f))
        ]
