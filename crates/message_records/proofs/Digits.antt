-- Digits that are written are read again, and digits that are read are those that are written.
use Rattle.std.proofs.Common.{◌≡◌, ℕ, zero, suc, ◌+◌, ◌-◌, ◌*◌, ◌/◌, ◌%◌, ◌^◌, ◌<◌, ◌≤◌, Bool, true, false, cond}
use Rattle.std.proofs.Common.{◌&&◌, leb, List, [], ◌∷◌, ◌++◌, length, Some, None, refl, sym, ap, ◌∙◌, arith, inl, inr}
use Rattle.std.specs.Prelude.{◌⊎◌}
use Rattle.std.proofs.lemmas.{List.length-append, Bool.Decides.nat_tests}
use Rattle.std.proofs.Math.Nat.{pow-suc, pow-succ', pow-le-pow_right, div-div-eq-div-mul, lt-div-mul-add, one-le-pow}
use Rattle.std.proofs.Math.Nat.{zero-mul}
use Rattle.message_records.specs.{declared.limits.TheConstants.MAX_BALANCE, believed.Spelling.digits}
use Rattle.message_records.specs.believed.Reading.{number_after, number_of}

-- so many digits are so long
pub length-digits : (k n : ℕ) → length (digits k n) ≡ k
unfolding digits
length-digits zero n = refl
length-digits (suc k) n = omega
    (arith, length-append (digits k (n / 10)) ((48 + n % 10) ∷ []), length-digits k (n / 10))

-- a test that gave a value was true, or was false
pub chosen : {A : Type 0} (b : Bool) (x y z : A) → cond b x y ≡ z
    → ((b ≡ true) × (x ≡ z)) ⊎ ((b ≡ false) × (y ≡ z))
chosen true x y z e = inl (refl, e)
chosen false x y z e = inr (refl, e)

-- ---- what is written is read again

-- reading goes on after a front
number_after-append : (a b : ℕ) (xs ys : List ℕ) → number_after a xs ≡ Some b
    → number_after a (xs ++ ys) ≡ number_after b ys
number_after-append a b [] ys e = let h : a ≡ b = cc in ap (λ n. number_after n ys) h
number_after-append a b (x ∷ xs) ys e =
    elim (chosen (leb 48 x && leb x 57) (number_after (a * 10 + (x - 48)) xs) None (Some b) e) [
      | inl t ↦ rw t.0 (number_after-append (a * 10 + (x - 48)) b xs ys t.1)
      | inr f ↦ absurd (let h = f.1 in cc)
    ]

is_digit : (d : ℕ) → d < 10 → (leb 48 (48 + d) && leb (48 + d) 57) ≡ true
is_digit d lt = grind (arith, nat_tests)

-- digits after a front add so many places
number_after-digits : (k a n : ℕ) → n < 10 ^ k → number_after a (digits k n) ≡ Some (a * 10 ^ k + n)
unfolding digits
number_after-digits zero a n lt = ap Some (omega arith)
number_after-digits (suc k) a n lt =
    let front : number_after a (digits k (n / 10)) ≡ Some (a * 10 ^ k + n / 10) =
    number_after-digits k a (n / 10) (omega (arith, pow-suc 10 k)) in
    let places : a * 10 ^ suc k ≡ a * (10 ^ k * 10) = ap (λ (p : ℕ). a * p) (pow-suc 10 k) in
    number_after-append a (a * 10 ^ k + n / 10) (digits k (n / 10)) ((48 + n % 10) ∷ []) front
    ∙ rw (is_digit (n % 10) (omega arith)) (ap Some (omega arith))

-- a number that fits so many digits is read from them
pub number_of-digits : (k n : ℕ) → n < 10 ^ k → number_of (digits k n) ≡ Some n
number_of-digits k n lt = number_after-digits k 0 n lt ∙ ap Some (omega arith)

-- ---- what is read is what is written

digit_range : (c : ℕ) → (leb 48 c && leb c 57) ≡ true → (48 ≤ c) × (c ≤ 57)
digit_range c e = (grind (arith, nat_tests), grind (arith, nat_tests))

div_twice : (n k : ℕ) → n / 10 / 10 ^ k ≡ n / 10 ^ suc k
div_twice n k = div-div-eq-div-mul n 10 (10 ^ k) ∙ ap (λ (p : ℕ). n / p) (sym (pow-succ' 10 k))

div_again : (n k : ℕ) → n / 10 ^ suc k ≡ n / 10 ^ k / 10
div_again n k = ap (λ (p : ℕ). n / p) (pow-suc 10 k) ∙ sym (div-div-eq-div-mul n (10 ^ k) 10)

-- the first digit, and the others
digits-first : (k n : ℕ) → digits (suc k) n ≡ (48 + (n / 10 ^ k) % 10) ∷ digits k n
unfolding digits
digits-first zero n = ap (λ (d : ℕ). d ∷ []) (omega arith)
digits-first (suc k) n =
    ap (λ (t : List ℕ). t ++ (48 + n % 10) ∷ []) (digits-first k (n / 10))
    ∙ ap (λ (d : ℕ). (48 + d % 10) ∷ (digits k (n / 10) ++ (48 + n % 10) ∷ [])) (div_twice n k)

-- bytes that are read after a front are the last digits of the number, and the front is the rest of it
digits_again : (a x : ℕ) (cs : List ℕ) → number_after a cs ≡ Some x
    → (cs ≡ digits (length cs) x) × (x / 10 ^ length cs ≡ a)
unfolding digits
digits_again a x [] e = let h : a ≡ x = cc in (refl, omega (arith, h))
digits_again a x (c ∷ cs) e =
    elim (chosen (leb 48 c && leb c 57) (number_after (a * 10 + (c - 48)) cs) None (Some x) e) [
      | inl t ↦
          let rest = digits_again (a * 10 + (c - 48)) x cs t.1 in
          let range = digit_range c t.0 in (
            sym (digits-first (length cs) x
                ∙ ap (λ (q : ℕ). (48 + q % 10) ∷ digits (length cs) x) rest.1
                ∙ ap (λ (q : ℕ). q ∷ digits (length cs) x) (omega (arith, range.0, range.1))
                ∙ ap (λ (t : List ℕ). c ∷ t) (sym rest.0)),
            div_again x (length cs) ∙ omega (arith, rest.1, range.0, range.1),
          )
      | inr f ↦ absurd (let h = f.1 in cc)
    ]

below_top : (n p : ℕ) → 0 < p → n / p ≡ 0 → n < p
below_top n p above e =
    let within : n < n / p * p + p = lt-div-mul-add above in
    let none : n / p * p ≡ 0 = ap (λ (q : ℕ). q * p) e ∙ zero-mul p in
    omega arith

-- a number that is read is the one that the bytes spell, and fits so many digits
pub number_takes : (k n : ℕ) (cs : List ℕ) → length cs ≡ k → number_of cs ≡ Some n
    → (cs ≡ digits k n) × (n < 10 ^ k)
number_takes k n cs len e =
    let again = digits_again 0 n cs e in
    let one : 0 < 10 = omega arith in
    let fits : n < 10 ^ length cs = below_top n (10 ^ length cs) (one-le-pow (length cs) 10 one) again.1 in
    (again.0 ∙ ap (λ (j : ℕ). digits j n) len, rw len at fits)

-- a number of up to twelve digits
pub most_of_twelve : (n k : ℕ) → n < 10 ^ k → k ≤ 12 → n ≤ MAX_BALANCE
most_of_twelve n k lt le =
    let above : 0 < 10 = omega arith in
    omega (arith, pow-le-pow_right above {i = k} {j = 12} le)
