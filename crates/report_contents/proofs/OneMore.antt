-- One more row.
use Rattle.std.proofs.Common.{◌≡◌, ◌≤◌, ◌<◌, ◌+◌, ◌-◌, ◌/◌, ◌*◌, ℕ, zero, suc, replicate, Bool, true, false, not}
use Rattle.std.proofs.Common.{List, [], ◌∷◌, ◌++◌, map, filter, length, take, set, get_or, refl, sym, ap, subst, ◌∙◌}
use Rattle.std.proofs.Common.{inl, inr, arith, append-nil, w64, to_z, of_z, FitsSigned}
use Rattle.std.specs.Prelude.{ℤ, ◌&&◌, pos, ◌+ℤ◌, nat_eq, nat_le, nat_abs, Option, is_some}
use Rattle.std.specs.{Ordering.int_eq, Int.w128}
use mir.Val.{bool_byte}
use Rattle.walked_rows.specs.declared.{postings.StoredPosting.StoredPosting, requests.StoredRequest.StoredRequest}
use Rattle.walked_rows.specs.declared.{branches.StoredBranch.StoredBranch, tellers.StoredTeller.StoredTeller}
use Rattle.report_contents.specs.{Beside.is_alone, Sums.AreSmall, Added.IsSum}
use Rattle.report_contents.proofs.Lists.{same_int, int_same}
use Rattle.std.proofs.{Math.IntN.+ℤ_assoc, lemmas.Int.ints, lemmas.Int.to_z-of_z, lemmas.Bool.Decides.nat_tests}
use Rattle.std.proofs.{lemmas.Grind.get_or-set_at, lemmas.List.Elements.filter-append}
use Rattle.std.proofs.lemmas.Bool.{cases_Bool, eqb-true, le-leb}
use Rattle.std.proofs.lemmas.List.{length-append, map-append, get_or-set_other, get_or_default, take_more_set}
use Rattle.posting_rules.specs.{believed.Numbering.branch_of_teller, believed.Laws.total}
use Rattle.report_contents.specs.declared.{sum.Sum.Sum, audit.BranchLine.BranchLine}
use Rattle.report_contents.specs.Audit.{teller_sum, teller_balance, lines_of, line_of, differs}

total-append : (xs ys : List ℤ) → total (xs ++ ys) ≡ total xs +ℤ total ys
total-append [] ys = omega (arith, ints)
total-append (x ∷ xs) ys = ap (λ (z : ℤ). x +ℤ z) (total-append xs ys)
    ∙ sym (+ℤ_assoc x (total xs) (total ys))

pub total-snoc : (xs : List ℤ) (z : ℤ) → total (xs ++ z ∷ []) ≡ total xs +ℤ z
total-snoc xs z = total-append xs (z ∷ []) ∙ ap (λ (y : ℤ). total xs +ℤ y) (omega (arith, ints))

-- a sum of one more amount
pub sum_more : {X : Type 0} (f : X → ℤ) (s s' : Sum) (xs : List X) (x : X) → IsSum s (map f xs)
    → s'.count ≡ s.count + 1 → s'.sum ≡ s.sum +ℤ f x → IsSum s' (map f (xs ++ x ∷ []))
sum_more f s s' xs x h c e = record {
  count = c ∙ omega (
    arith,
    h.count,
    length-append (map f xs) (f x ∷ []),
    ap (λ (l : List ℤ). length l) (map-append f xs (x ∷ [])),
  );
  sum = e ∙ ap (λ (z : ℤ). z +ℤ f x) h.sum ∙ sym (total-snoc (map f xs) (f x))
      ∙ ap total (sym (map-append f xs (x ∷ [])));
}

-- the same of an amount of 64 bits
pub sum_more_64 : {X : Type 0} (f : X → ℤ) (s s' : Sum) (xs : List X) (x : X) → FitsSigned w64 (f x)
    → IsSum s (map f xs) → s'.count ≡ s.count + 1
    → s'.sum ≡ s.sum +ℤ to_z w64 (of_z w64 (f x)) → IsSum s' (map f (xs ++ x ∷ []))
sum_more_64 f s s' xs x fit h c e =
    sum_more f s s' xs x h c (e ∙ ap (λ (z : ℤ). s.sum +ℤ z) (to_z-of_z w64 (f x) fit))

-- a row that passes is counted, and another isn't
pub filter_counts : {X : Type 0} (p : X → Bool) (xs : List X) (x : X) → p x ≡ true
    → length (filter p (xs ++ x ∷ [])) ≡ length (filter p xs) + 1
filter_counts p xs x t = ap length (filter-append p xs (x ∷ []))
    ∙ rw t (length-append (filter p xs) (x ∷ []))

pub filter_skips : {X : Type 0} (p : X → Bool) (xs : List X) (x : X) → p x ≡ false
    → length (filter p (xs ++ x ∷ [])) ≡ length (filter p xs)
filter_skips p xs x f = ap length (filter-append p xs (x ∷ []))
    ∙ rw f (ap length (append-nil (filter p xs)))

-- ---- tellers

pub teller_here : (ts : List StoredTeller) (t : StoredTeller) (b : ℕ)
    → (nat_le 1 t.teller && nat_eq (branch_of_teller t.teller) b) ≡ true → teller_sum (ts ++ t ∷ []) b
    ≡ teller_sum ts b +ℤ t.balance
teller_here ts t b is =
    let p : StoredTeller → Bool = λ r. nat_le 1 r.teller && nat_eq (branch_of_teller r.teller) b in
    ap (λ (l : List StoredTeller). total (map teller_balance l)) (filter-append p ts (t ∷ [])) ∙ rw is
    (ap total (map-append teller_balance (filter p ts) (t ∷ []))
    ∙ total-snoc (map teller_balance (filter p ts)) t.balance)

pub teller_elsewhere : (ts : List StoredTeller) (t : StoredTeller) (b : ℕ)
    → (nat_le 1 t.teller && nat_eq (branch_of_teller t.teller) b) ≡ false
    → teller_sum (ts ++ t ∷ []) b ≡ teller_sum ts b
teller_elsewhere ts t b is =
    let p : StoredTeller → Bool = λ r. nat_le 1 r.teller && nat_eq (branch_of_teller r.teller) b in
    ap (λ (l : List StoredTeller). total (map teller_balance l)) (filter-append p ts (t ∷ []))
    ∙ rw is (ap (λ (l : List StoredTeller). total (map teller_balance l)) (append-nil (filter p ts)))

-- ---- branches

pub line_more : (ts : List StoredTeller) (bs : List StoredBranch) (b : StoredBranch)
    → differs (line_of ts b) ≡ true → lines_of ts (bs ++ b ∷ []) ≡ lines_of ts bs ++ line_of ts b
    ∷ []
line_more ts bs b t =
    ap (filter differs) (map-append (line_of ts) bs (b ∷ []))
    ∙ filter-append differs (map (line_of ts) bs) (line_of ts b ∷ []) ∙ rw t refl

pub line_none : (ts : List StoredTeller) (bs : List StoredBranch) (b : StoredBranch)
    → differs (line_of ts b) ≡ false → lines_of ts (bs ++ b ∷ []) ≡ lines_of ts bs
line_none ts bs b f =
    ap (filter differs) (map-append (line_of ts) bs (b ∷ []))
    ∙ filter-append differs (map (line_of ts) bs) (line_of ts b ∷ [])
    ∙ rw f (append-nil (lines_of ts bs))

-- ---- 128 bits

widened : (v b from : ℤ) (count : ℕ) → FitsSigned w64 b → from ≡ to_z w64 (of_z w64 b) → nat_abs v
    ≤ 9223372036854775808 * count → count ≤ 1000000000000
    → to_z w128 (of_z w128 v) +ℤ to_z w128 (of_z w128 from) ≡ v +ℤ b
widened v b from count fit is small few =
    let same : from ≡ b = is ∙ to_z-of_z w64 b fit in
    ap (λ z. z +ℤ to_z w128 (of_z w128 from)) (to_z-of_z w128 v (omega (arith, ints)))
    ∙ ap (λ z. v +ℤ z) (ap (λ z. to_z w128 (of_z w128 z)) same
    ∙ to_z-of_z w128 b (omega (arith, ints)))

-- the sum fits
pub sum_fits : (v b from : ℤ) (count : ℕ) → FitsSigned w64 b → from ≡ to_z w64 (of_z w64 b)
    → nat_abs v ≤ 9223372036854775808 * count → count ≤ 1000000000000
    → FitsSigned w128 (to_z w128 (of_z w128 v) +ℤ to_z w128 (of_z w128 from))
sum_fits v b from count fit is small few =
    let fits : FitsSigned w128 (v +ℤ b) = omega (arith, ints) in
    subst (λ (z : ℤ). FitsSigned w128 z) (sym (widened v b from count fit is small few)) fits

pub sum_is : (v b from : ℤ) (count : ℕ) → FitsSigned w64 b → from ≡ to_z w64 (of_z w64 b)
    → nat_abs v ≤ 9223372036854775808 * count → count ≤ 1000000000000
    → to_z w128 (of_z w128 (to_z w128 (of_z w128 v) +ℤ to_z w128 (of_z w128 from))) ≡ v +ℤ b
sum_is v b from count fit is small few =
    to_z-of_z w128 (to_z w128 (of_z w128 v) +ℤ to_z w128 (of_z w128 from))
    (sum_fits v b from count fit is small few) ∙ widened v b from count fit is small few

-- ---- the sums of each branch

-- where sums are small, so is the one at a place
pub small_at : (sums : List ℤ) (p count : ℕ) (v : ℤ) → AreSmall sums count → p < length sums → v
    ≡ get_or sums p v
    → (v ≡ get_or sums p (pos 0)) × (nat_abs v ≤ 9223372036854775808 * count)
small_at sums p count v small low is =
    let stands : v ≡ get_or sums p (pos 0) = is ∙ get_or_default sums p v (pos 0) low in
    (stands, subst (λ (z : ℤ). nat_abs z ≤ 9223372036854775808 * count) (sym stands) (small p))

not_there : (p i : ℕ) → nat_eq p i ≡ false → i ≡ p → ⊥
not_there p i e same = grind (arith, nat_tests)

pub small_after : (sums : List ℤ) (p count count' : ℕ) (x b : ℤ) → AreSmall sums count → x
    ≡ get_or sums p (pos 0) +ℤ b → FitsSigned w64 b → count' ≡ count + 1 → p < length sums
    → AreSmall (set sums p x) count'
small_after sums p count count' x b small is fit more low i = elim (cases_Bool (nat_eq p i)) [
  | inl t ↦
      let at : i ≡ p = sym (eqb-true p i t) in
      let before : nat_abs (get_or sums p (pos 0)) ≤ 9223372036854775808 * count = small p in
      subst (λ (z : ℤ). nat_abs z ≤ 9223372036854775808 * count')
      (sym (get_or-set_at sums p i x (pos 0) at low ∙ is))
      (abs_more (get_or sums p (pos 0)) b count count' before fit more)
  | inr f ↦
      let before : nat_abs (get_or sums i (pos 0)) ≤ 9223372036854775808 * count = small i in
      subst (λ (z : ℤ). nat_abs z ≤ 9223372036854775808 * count')
      (sym (get_or-set_other sums p i x (pos 0) (λ same. not_there p i f same)))
      (omega (arith, before, more))
]
  where
    abs_more : (v b : ℤ) (count count' : ℕ) → nat_abs v ≤ 9223372036854775808 * count
        → FitsSigned w64 b → count' ≡ count + 1 → nat_abs (v +ℤ b) ≤ 9223372036854775808 * count'
    abs_more v b count count' h fit e = omega (arith, ints)

away : (p b : ℕ) → 1 ≤ b → nat_eq (p + 1) b ≡ false → b - 1 ≡ p → ⊥
away p b some h same = grind (arith, nat_tests)

pub branches_after : (sums : List ℤ) (ts : List StoredTeller) (t : StoredTeller) (p : ℕ) (x : ℤ) → 1
    ≤ t.teller → p ≡ (t.teller - 1) / 10 → p < length sums → x ≡ get_or sums p (pos 0)
    +ℤ t.balance
    → ((b : ℕ) → 1 ≤ b → b ≤ 9999 → get_or sums (b - 1) (pos 0) ≡ teller_sum ts b)
    → (b : ℕ) → 1 ≤ b → b ≤ 9999 → get_or (set sums p x) (b - 1) (pos 0)
    ≡ teller_sum (ts ++ t ∷ []) b
branches_after sums ts t p x one place low is h b some few =
    elim (cases_Bool (nat_eq ((t.teller - 1) / 10 + 1) b)) [
      | inl e ↦
          let same : (t.teller - 1) / 10 + 1 ≡ b = eqb-true ((t.teller - 1) / 10 + 1) b e in
          let at : b - 1 ≡ p = omega (arith, same, place) in
          get_or-set_at sums p (b - 1) x (pos 0) at low ∙ is
          ∙ ap (λ (z : ℤ). z +ℤ t.balance) (ap (λ (i : ℕ). get_or sums i (pos 0)) (sym at)
          ∙ h b some few) ∙ sym (teller_here ts t b (rw (le-leb 1 t.teller one, e) refl))
      | inr e ↦
          get_or-set_other sums p (b - 1) x (pos 0)
          (λ same. away ((t.teller - 1) / 10) b some e (same ∙ place)) ∙ h b some few
          ∙ sym (teller_elsewhere ts t b (rw (le-leb 1 t.teller one, e) refl))
    ]

-- ---- the line of a branch

pub line_is : (ts : List StoredTeller) (b : StoredBranch) (n : ℕ) (z y : ℤ) → n ≡ b.branch → z
    ≡ teller_sum ts b.branch → y ≡ b.balance
    → (let l : BranchLine = record { branch = n; tellers = z; balance = y } in l) ≡ line_of ts b
line_is ts b n z y e f g = rw (e, f, g) refl

pub zeros : (n i : ℕ) → get_or (replicate n (pos 0)) i (pos 0) ≡ pos 0
zeros zero i = refl
zeros (suc n) zero = refl
zeros (suc n) (suc i) = zeros n i

-- ---- two sums that are compared

unequal : (z from : ℤ) → (of_z w128 z ≡ of_z w128 from → ⊥) → not (int_eq z from) ≡ true
unequal z from ne = elim (cases_Bool (int_eq z from))
    [ inl t ↦ absurd (ne (ap (of_z w128) (same_int z from t))) | inr f ↦ rw f refl ]

equal : (z from : ℤ) → FitsSigned w128 z → FitsSigned w128 from → of_z w128 z ≡ of_z w128 from
    → not (int_eq z from) ≡ false
equal z from p q e =
    let same : z ≡ from = sym (to_z-of_z w128 z p) ∙ ap (to_z w128) e ∙ to_z-of_z w128 from q in
    rw (int_same z from same) refl

pub branch_differs : (ts : List StoredTeller) (b : StoredBranch) (z from : ℤ) → z
    ≡ teller_sum ts b.branch → from ≡ b.balance → (of_z w128 z ≡ of_z w128 from → ⊥)
    → differs (line_of ts b) ≡ true
branch_differs ts b z from e f ne =
    subst (λ (y : ℤ). not (int_eq y b.balance) ≡ true) e
    (subst (λ (y : ℤ). not (int_eq z y) ≡ true) f (unequal z from ne))

pub branch_agrees : (ts : List StoredTeller) (b : StoredBranch) (z from : ℤ) → FitsSigned w128 z
    → FitsSigned w128 from → z ≡ teller_sum ts b.branch → from ≡ b.balance
    → of_z w128 z ≡ of_z w128 from → differs (line_of ts b) ≡ false
branch_agrees ts b z from p q e f same =
    subst (λ (y : ℤ). not (int_eq y b.balance) ≡ false) e
    (subst (λ (y : ℤ). not (int_eq z y) ≡ false) f (equal z from p q same))

pub lines_after : (lines : List BranchLine) (d : ℕ) (l : BranchLine) (ts : List StoredTeller)
    (bs : List StoredBranch) (b : StoredBranch) → d < length lines
    → take d lines ≡ lines_of ts bs → l ≡ line_of ts b → differs (line_of ts b) ≡ true
    → take (d + 1) (set lines d l) ≡ lines_of ts (bs ++ b ∷ [])
lines_after lines d l ts bs b low is same differ =
    take_more_set lines d l low ∙ ap (λ (x : List BranchLine). x ++ l ∷ []) is
    ∙ ap (λ (x : BranchLine). lines_of ts bs ++ x ∷ []) same ∙ sym (line_more ts bs b differ)

-- ---- a posting without a request

pub alone_more : (posted : List (StoredPosting × Option StoredRequest)) (h : StoredPosting)
    (o : Option StoredRequest) (b : Bool) (n m k : ℕ) → is_some o ≡ not b
    → k ≡ bool_byte b → n ≡ m + length (filter is_alone posted) → n + k
    ≡ m + length (filter is_alone (posted ++ (h, o) ∷ []))
alone_more posted h o true n m k none is e = let more = filter_counts is_alone posted (h, o) (ap not none) in
    omega (arith, more, is, e)
alone_more posted h o false n m k some is e = let more = filter_skips is_alone posted (h, o) (ap not some) in
    omega (arith, more, is, e)
