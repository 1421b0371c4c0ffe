-- A loop that does the same to each element of a list, one after another.
use Rattle.std.proofs.Common.{◌≡◌, ℕ, ◌+◌, ◌<◌, ◌≤◌, List, [], ◌∷◌, ◌++◌, length, take, drop, get_or, set}
use Rattle.std.proofs.Common.{refl, sym, ap, subst, ◌∙◌, append-nil, append_assoc, arith}
use Rattle.std.specs.List.{AllZip}
use Rattle.std.proofs.Math.Seq.{get_or-append_seam, set-append_seam}
use Rattle.std.proofs.lemmas.List.{drop_all, drop_more, length-take-le, take_all}
use Rattle.std.proofs.lemmas.List.Elements.{all_zip_more, length_all_zip}

-- it was done to those before a place
pub record PairedUpTo {A : Type 0} (M : A → A → Type 0) (xs ys : List A) (i : ℕ) : Type 0 where
  pub done : List A
  pub is : ys ≡ done ++ drop i xs
  pub each : AllZip M (take i xs) done

pub paired_none : {A : Type 0} (M : A → A → Type 0) (xs : List A) → PairedUpTo M xs xs 0
paired_none M xs = record { done = []; is = refl; each = tt }

pub paired_more : {A : Type 0} (M : A → A → Type 0) (xs ys : List A) (i : ℕ) (x y : A) → i < length xs
    → x ≡ get_or ys i x → M (get_or ys i x) y → PairedUpTo M xs ys i → PairedUpTo M xs (set ys i y) (i + 1)
paired_more {A} M xs ys i x y within at one p =
    let len = length_all_zip M (take i xs) p.done p.each in
    let few : i ≤ length xs = omega (arith, within) in
    let long : length p.done ≡ i = omega (arith, len, length-take-le i xs few) in
    let rest = drop (i + 1) xs in
    let parts : ys ≡ p.done ++ get_or xs i x ∷ rest = p.is ∙ ap (λ (l : List A). p.done ++ l) (drop_more xs i x within) in
    let old : x ≡ get_or xs i x = at ∙ ap (λ (l : List A). get_or l i x) parts
    ∙ ap (λ (n : ℕ). get_or (p.done ++ get_or xs i x ∷ rest) n x) (sym long)
    ∙ get_or-append_seam p.done (get_or xs i x) rest x in
    record {
      done = p.done ++ y ∷ [];
      is = ap (λ (l : List A). set l i y) parts
          ∙ ap (λ (n : ℕ). set (p.done ++ get_or xs i x ∷ rest) n y) (sym long)
          ∙ set-append_seam p.done (get_or xs i x) rest y ∙ sym (append_assoc p.done (y ∷ []) rest);
      each = all_zip_more M xs p.done i x y within old p.each (subst (λ (a : A). M a y) (sym at) one);
    }

pub paired_all : {A : Type 0} (M : A → A → Type 0) (xs ys : List A) (i : ℕ) → length xs ≤ i → PairedUpTo M xs ys i
    → AllZip M xs ys
paired_all {A} M xs ys i over p =
    let all : ys ≡ p.done = p.is ∙ ap (λ (l : List A). p.done ++ l) (drop_all i xs over) ∙ append-nil p.done in
    subst (λ (l : List A). AllZip M l ys) (take_all i xs over)
    (subst (λ (l : List A). AllZip M (take i xs) l) (sym all) p.each)
