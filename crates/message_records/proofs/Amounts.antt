-- Amounts that are written are read again, and amounts that are read are those that are written.
use Rattle.std.proofs.Common.{◌≡◌, ℕ, zero, suc, ◌+◌, ◌^◌, ◌<◌, cond, eqb, List, [], ◌∷◌, length, Option}
use Rattle.std.proofs.Common.{Some, None, refl, sym, ap, subst, ◌∙◌, arith, inl, inr}
use Rattle.std.specs.Prelude.{ℤ, pos, negsuc, nat_abs, option_and_then}
use Rattle.std.proofs.lemmas.Bool.{eqb-true}
use Rattle.message_records.specs.believed.Spelling.{digits, signed}
use Rattle.message_records.specs.believed.Reading.{number_of, signed_of, below_zero, not_below_zero}
use Rattle.message_records.proofs.Digits.{length-digits, chosen, number_of-digits, number_takes}

-- a sign is one byte more
pub length-signed : (k : ℕ) (z : ℤ) → length (signed k z) ≡ k + 1
length-signed k (pos n) = omega (arith, length-digits k n)
length-signed k (negsuc n) = omega (arith, length-digits k (suc n))

-- what is written is read again
pub signed_again : (k : ℕ) (z : ℤ) (cs : List ℕ) → cs ≡ signed k z → nat_abs z < 10 ^ k
    → signed_of cs ≡ Some z
signed_again k (pos n) cs e lt = ap signed_of e ∙ ap (option_and_then not_below_zero)
    (number_of-digits k n lt)
signed_again k (negsuc n) cs e lt = ap signed_of e ∙ ap (option_and_then below_zero)
    (number_of-digits k (suc n) lt)

-- a step that gave a value had one to begin with
pub and_then_some : {A B : Type 0} (f : A → Option B) (o : Option A) (y : B) → option_and_then f o ≡ Some y
    → (x : A) × (o ≡ Some x) × (f x ≡ Some y)
and_then_some f None y e = absurd cc
and_then_some f (Some x) y e = (x, refl, e)

not_zero : (n : ℕ) (z : ℤ) → below_zero n ≡ Some z → (m : ℕ) × (n ≡ suc m) × (z ≡ negsuc m)
not_zero zero z e = absurd cc
not_zero (suc m) z e = (m, refl, cc)

head_tail : (c sign : ℕ) (cs ds : List ℕ) → c ≡ sign → cs ≡ ds → c ∷ cs ≡ sign ∷ ds
head_tail c sign cs ds e f = cc

-- an amount that is read is the one that the bytes spell, and fits so many digits
pub signed_takes : (k : ℕ) (z : ℤ) (cs : List ℕ) → length cs ≡ suc k → signed_of cs ≡ Some z
    → (cs ≡ signed k z) × (nat_abs z < 10 ^ k)
signed_takes k z [] len e = absurd cc
signed_takes k z (c ∷ cs) len e =
    let rest : length cs ≡ k = omega (arith, len) in
    let minus = cond (eqb c 45) (option_and_then below_zero (number_of cs)) None in
    elim (chosen (eqb c 43) (option_and_then not_below_zero (number_of cs)) minus (Some z) e) [
      | inl t ↦
          let read = and_then_some not_below_zero (number_of cs) z t.1 in
          let z-is : pos read.0 ≡ z = let h = read.2 in cc in
          let taken = number_takes k read.0 cs rest read.1 in
          subst (λ (y : ℤ). (c ∷ cs ≡ signed k y) × (nat_abs y < 10 ^ k)) z-is
          (head_tail c 43 cs (digits k read.0) (eqb-true c 43 t.0) taken.0, taken.1)
      | inr f ↦ elim (chosen (eqb c 45) (option_and_then below_zero (number_of cs)) None (Some z) f.1) [
        | inl t ↦
            let read = and_then_some below_zero (number_of cs) z t.1 in
            let size = not_zero read.0 z read.2 in
            let taken = number_takes k (suc size.0) cs rest (read.1 ∙ ap Some size.1) in
            subst (λ (y : ℤ). (c ∷ cs ≡ signed k y) × (nat_abs y < 10 ^ k)) (sym size.2)
            (head_tail c 45 cs (digits k (suc size.0)) (eqb-true c 45 t.0) taken.0, taken.1)
        | inr g ↦ absurd (let h = g.1 in cc)
      ]
    ]
