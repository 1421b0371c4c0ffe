-- A text without the spaces at its end, from its last byte on.
use Rattle.std.proofs.Common.{◌≡◌, ◌≤◌, ◌+◌, ◌-◌, ◌++◌, ◌==◌, ◌&&◌, ℕ, zero, suc, false, List, [], ◌∷◌, length, take}
use Rattle.std.proofs.Common.{get_or, refl, sym, ap, subst, ◌∙◌, inl, inr, arith}
use Rattle.std.specs.Prelude.{IsTrue, nat_le}
use Rattle.std.proofs.lemmas.{Bool.and_parts, Bool.cases_Bool, Bool.eqb-true, List.take_more}
use Rattle.message_records.specs.believed.Records.{is_printable}
use Rattle.posting_sheets.specs.References.{space_or, trimmed}

-- a space at the end falls away
space_last : (text : List ℕ) → trimmed (text ++ 32 ∷ []) ≡ trimmed text
space_last [] = refl
space_last (c ∷ cs) = ap (space_or c) (space_last cs)

-- any other byte stays, with all before it
other_last : (text : List ℕ) (c : ℕ) → (c == 32) ≡ false → trimmed (text ++ c ∷ []) ≡ text ++ c ∷ []
other_last [] c other = rw other refl
other_last (x ∷ xs) c other = ap (space_or x) (other_last xs c other) ∙ kept xs
  where
    kept : (xs : List ℕ) → space_or x (xs ++ c ∷ []) ≡ x ∷ (xs ++ c ∷ [])
    kept [] = refl
    kept (y ∷ ys) = refl

module _ (text : List ℕ) (len : ℕ) (some : 1 ≤ len) (low : len ≤ length text) where
  last : take len text ≡ take (len - 1) text ++ get_or text (len - 1) 0 ∷ []
  last =
      let one : (len - 1) + 1 ≡ len = omega (arith, some) in
      subst (λ (k : ℕ). take k text ≡ take (len - 1) text ++ get_or text (len - 1) 0 ∷ []) one
      (take_more text (len - 1) 0 (omega (arith, some, low)))

  pub one_fewer : get_or text (len - 1) 0 ≡ 32 → trimmed (take (len - 1) text) ≡ trimmed (take len text)
  one_fewer space =
      sym (ap trimmed (last ∙ ap (λ c. take (len - 1) text ++ c ∷ []) space) ∙ space_last (take (len - 1) text))

  pub all_kept : (get_or text (len - 1) 0 ≡ 32 → ⊥) → trimmed (take len text) ≡ take len text
  all_kept other = elim (cases_Bool (get_or text (len - 1) 0 == 32)) [
    | inl is ↦ absurd (other (eqb-true (get_or text (len - 1) 0) 32 is))
    | inr not ↦
        ap trimmed last ∙ other_last (take (len - 1) text) (get_or text (len - 1) 0) not ∙ sym last
  ]

-- what stands at the front of printable bytes is printable
pub printable_front : (n : ℕ) (text : List ℕ) → IsTrue (is_printable text) → IsTrue (is_printable (take n text))
printable_front zero text all = refl
printable_front (suc n) [] all = refl
printable_front (suc n) (c ∷ cs) all =
    let parts = and_parts (nat_le 32 c && nat_le c 126) (is_printable cs) all in
    rw (parts.0, printable_front n cs parts.1) refl
