-- Lines that are appended one by one.
use Rattle.std.proofs.Common.{◌≡◌, ℕ, List, [], ◌∷◌, ◌++◌, sym, ap, ◌∙◌, append-nil, to_z, of_z, FitsSigned}
use Rattle.std.specs.{Prelude.ℤ, Int.w128}
use Rattle.std.proofs.{lemmas.Int.to_z-of_z, lemmas.List.Concat.flat_map-append}
use Rattle.report_contents.specs.{AuditText.number_line, Lines.text_of}

pub text_of-append : (xs ys : List (List ℕ)) → text_of (xs ++ ys) ≡ text_of xs ++ text_of ys
text_of-append xs ys = flat_map-append (λ l. l) xs ys

-- one more line
pub text_of-snoc : (xs : List (List ℕ)) (l : List ℕ) → text_of (xs ++ l ∷ []) ≡ text_of xs ++ l
text_of-snoc xs l = text_of-append xs (l ∷ []) ∙ ap (λ (t : List ℕ). text_of xs ++ t) (append-nil l)

pub record IsText (bytes : List ℕ) (lines : List (List ℕ)) : Type 0 where
  pub is : bytes ≡ text_of lines

pub one_more : {old new : List ℕ} {xs : List (List ℕ)} (l : List ℕ) → IsText old xs → new ≡ old
    ++ l → IsText new (xs ++ l ∷ [])
one_more {xs = xs} l before e =
    record { is = e ∙ ap (λ (t : List ℕ). t ++ l) before.is ∙ sym (text_of-snoc xs l) }

-- the line of a sum
pub one_sum : {old new : List ℕ} {xs : List (List ℕ)} (label : List ℕ) (z : ℤ) → FitsSigned w128 z
    → IsText old xs
    → new ≡ old ++ number_line label (to_z w128 (of_z w128 z))
    → IsText new (xs ++ number_line label z ∷ [])
one_sum {old = old} label z fits before e =
    one_more (number_line label z) before
    (e ∙ ap (λ (y : ℤ). old ++ number_line label y) (to_z-of_z w128 z fits))
