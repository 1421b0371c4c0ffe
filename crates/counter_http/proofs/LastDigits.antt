-- A number of one more digit.
use Rattle.std.proofs.Common.{◌≡◌, ℕ, ◌-◌, ◌*◌, ◌+◌, Bool, true, false, cond, leb, List, [], ◌∷◌, ◌++◌, Option, None}
use Rattle.std.proofs.Common.{refl, sym, ◌∙◌, ap}
use Rattle.std.specs.Prelude.{◌&&◌}
use Rattle.std.specs.Option.{option_and_then}
use Rattle.message_records.specs.believed.Reading.{number_after, number_of}

abbrev one_more : ℕ → ℕ → Option ℕ
one_more c n = number_after n (c ∷ [])

if_then : {A B : Type 0} (b : Bool) (f : A → Option B) (o : Option A)
    → cond b (option_and_then f o) None ≡ option_and_then f (cond b o None)
if_then true f o = refl
if_then false f o = refl

after_last : (a : ℕ) (xs : List ℕ) (c : ℕ)
    → number_after a (xs ++ c ∷ []) ≡ option_and_then (one_more c) (number_after a xs)
after_last a [] c = refl
after_last a (x ∷ xs) c =
    ap (λ (o : Option ℕ). cond (leb 48 x && leb x 57) o None) (after_last (a * 10 + (x - 48)) xs c)
    ∙ if_then (leb 48 x && leb x 57) (one_more c) (number_after (a * 10 + (x - 48)) xs)

-- the last digit comes after the number that those before it write
pub number_last : (digits front : List ℕ) (c : ℕ) (o : Option ℕ) → digits ≡ front ++ c ∷ [] → o ≡ number_of front
    → option_and_then (λ n. number_after n (c ∷ [])) o ≡ number_of digits
number_last digits front c o whole is =
    ap (option_and_then (one_more c)) is ∙ sym (ap number_of whole ∙ after_last 0 front c)
