-- A list that rises strictly is the only sorted order of its elements.
use Rattle.sql_meanings.specs.Names.{List, [], length, filter, Bool, true, false, cond, AllByRecursion, IsAscending}
use Rattle.sql_meanings.proofs.Names.{inl, inr, refl, ap, subst, ◌∙◌, arith, Ordering, Less}
use Rattle.sql_meanings.proofs.Names.{IsPermutation, length_permutation, nil_from_length, tied_itself}
use Rattle.std.proofs.{Common.is_lt, Common.is_gt, Common.is_eq, lemmas.List.Sorted.IsPermutation-sym}
use Rattle.std.specs.{Cmp.IsTotalOrder, Ordering.ordering_reverse, List.Sorted.IsSorted}
use Rattle.sqlite_trees.proofs.ListLemmas.{all-permutation, filter_all, all_weaker, IsPermutation-filter}
use Rattle.sqlite_exec.proofs.PartitionLemmas.{ascending_from_sorted}
use Rattle.std.specs.Prelude.{◌≡◌, ◌⊎◌, ◌∷◌}

module _ {X : Type 0} (cmp : X → X → Ordering) (total : IsTotalOrder cmp) where
  -- not above
  abbrev pub AtMost : X → X → Type 0
  AtMost a b = is_gt (cmp a b) ≡ false

  not_below : (x y : X) → cmp x y ≡ Less → is_gt (cmp y x) ≡ false → X → y ≡ x
  not_below x y low most d = absurd
      (let back = total.antisymm y x ∙ ap ordering_reverse low in let bad = ap is_gt back in cc)

  first_is : (x y : X) → (y ≡ x) ⊎ (cmp x y ≡ Less) → is_gt (cmp y x) ≡ false → y ≡ x
  first_is x y (inl same) most = same
  first_is x y (inr low) most = not_below x y low most x

  none_in : (p : X → Bool) (zs : List X) → filter p zs ≡ [] → AllByRecursion (λ z. p z ≡ false) zs
  none_in p [] h = tt
  none_in p (z ∷ zs) h = go (p z) refl h (none_in p zs)
    where
      go : (b : Bool) → p z ≡ b → cond b (z ∷ filter p zs) (filter p zs) ≡ []
          → (filter p zs ≡ [] → AllByRecursion (λ z. p z ≡ false) zs)
          → (p z ≡ false) × AllByRecursion (λ z. p z ≡ false) zs
      go true is h more = absurd cc
      go false is h more = (is, more h)

  later : (x z : X) → (z ≡ x) ⊎ (cmp x z ≡ Less) → is_eq (cmp x z) ≡ false → is_lt (cmp x z) ≡ true
  later x z (inl same) apart = absurd (let here = subst (λ w. is_eq (cmp x w) ≡ false) same apart in
      let e = ap is_eq (tied_itself total x) in cc)
  later x z (inr low) apart = ap is_lt low

  joined : (x : X) (zs : List X) → AllByRecursion (λ z. (z ≡ x) ⊎ (cmp x z ≡ Less)) zs
      → AllByRecursion (λ z. is_eq (cmp x z) ≡ false) zs
      → AllByRecursion (λ z. is_lt (cmp x z) ≡ true) zs
  joined x [] h k = tt
  joined x (z ∷ zs) h k = (later x z h.0 k.0, joined x zs h.1 k.1)

  no_equal : (x : X) (xs : List X) → AllByRecursion (λ z. cmp x z ≡ Less) xs
      → filter (λ z. is_eq (cmp x z)) xs ≡ []
  no_equal x [] h = refl
  no_equal x (z ∷ zs) h = rw (h.0) (no_equal x zs h.1)

  -- the elements after the first are those that are above it
  above_first : (x : X) (ys : List X) → AllByRecursion (λ z. is_lt (cmp x z) ≡ true) ys
      → filter (λ z. is_lt (cmp x z)) (x ∷ ys) ≡ ys
  above_first x ys h = rw (tied_itself total x) (filter_all (λ z. is_lt (cmp x z)) ys h)

  tails : (x : X) (xs ys : List X) → AllByRecursion (λ z. cmp x z ≡ Less) xs → IsPermutation (x ∷ xs) (x ∷ ys)
      → IsPermutation xs ys
  tails x xs ys low perm =
      let marked : AllByRecursion (λ z. (z ≡ x) ⊎ (cmp x z ≡ Less)) (x ∷ ys) =
      all-permutation _ (x ∷ xs) (x ∷ ys) perm (inl refl, all_weaker _ _ (λ z h. inr h) xs low) in
      let eq = λ (z : X). is_eq (cmp x z) in
      let once : IsPermutation (filter eq (x ∷ xs)) (filter eq (x ∷ ys)) = IsPermutation-filter eq (x ∷ xs)
      (x ∷ ys) perm in
      let one : length (filter eq (x ∷ ys)) ≡ length (filter eq (x ∷ xs)) = length_permutation _ _ once in
      let none : filter eq ys ≡ [] = nil_from_length (filter eq ys)
      (let e = rw (tied_itself total x, no_equal x xs low) at one in omega (arith, e)) in
      let up = joined x ys marked.1 (none_in eq ys none) in
      let lt = λ (z : X). is_lt (cmp x z) in
      subst (λ l. IsPermutation l ys) (above_first x xs (all_weaker _ _ (λ z h. ap is_lt h) xs low))
      (subst (IsPermutation (filter lt (x ∷ xs))) (above_first x ys up)
      (IsPermutation-filter lt (x ∷ xs) (x ∷ ys) perm))

  -- by neighbours
  pub only_order : (xs ys : List X) → IsAscending (λ a b. cmp a b ≡ Less) xs → IsAscending AtMost ys
      → IsPermutation xs ys → ys ≡ xs
  only_order [] ys up sorted perm = nil_from_length ys (length_permutation [] ys perm)
  only_order (x ∷ xs) [] up sorted perm = absurd
      (let e = length_permutation (x ∷ xs) [] perm in omega (arith, e))
  only_order (x ∷ xs) (y ∷ ys) up sorted perm =
      let marked : AllByRecursion (λ z. (z ≡ x) ⊎ (cmp x z ≡ Less)) (y ∷ ys) =
      all-permutation _ (x ∷ xs) (y ∷ ys) perm (inl refl, all_weaker _ _ (λ z h. inr h) xs up.0) in
      let least : AllByRecursion (AtMost y) (x ∷ xs) =
      all-permutation (AtMost y) (y ∷ ys) (x ∷ xs) (IsPermutation-sym (x ∷ xs) (y ∷ ys) perm) (
        ap is_gt (tied_itself total y),
        sorted.0,
      ) in
      let first : y ≡ x = first_is x y marked.0 least.0 in
      let rest : IsPermutation xs ys = tails x xs ys up.0
      (subst (λ z. IsPermutation (x ∷ xs) (z ∷ ys)) first perm) in
      let more : ys ≡ xs = only_order xs ys up.1 sorted.1 rest in
      cc

  -- a sorted permutation of a strictly rising list is that list
  pub sorted_is : (xs ys : List X) → IsAscending (λ a b. cmp a b ≡ Less) xs → IsSorted cmp ys
      → IsPermutation xs ys → ys ≡ xs
  sorted_is xs ys up sorted perm = only_order xs ys up (ascending_from_sorted cmp total ys sorted) perm
