-- Taking bytes apart field by field, and going on where no field was faulty.
use Rattle.std.proofs.Common.{◌≡◌, ℕ, ◌+◌, ◌≤◌, cond, List, ◌++◌, length, take, drop, Option, Some, None, Result, Ok}
use Rattle.std.proofs.Common.{Err, refl, sym, ap, ◌∙◌, arith, inl, inr}
use Rattle.std.specs.{Option.ok_or, Str.bytes_eq}
use Rattle.std.proofs.lemmas.Slice.Eq.{bytes_eq-Decides}
use Rattle.std.proofs.lemmas.List.{length-drop, drop-drop, take_at, drop_at, take_all, take-append-drop, length-take}
use Rattle.message_records.specs.believed.Reading.{◌>>=◌, text_at}
use Rattle.message_records.proofs.Digits.{chosen}

-- ---- where a field stands

-- the field that stands here, and what stands after it
pub field_next : (i n : ℕ) (bytes field rest : List ℕ) → drop i bytes ≡ field ++ rest → length field ≡ n
    → (take n (drop i bytes) ≡ field) × (drop (i + n) bytes ≡ rest)
field_next i n bytes field rest e len = (
  ap (take n) e ∙ take_at field rest n len,
  sym (drop-drop n i bytes) ∙ ap (drop n) e
      ∙ drop_at field rest n len,
)

-- a field and what stands after it are what stands here
pub field_joined : (i n : ℕ) (bytes field rest : List ℕ) → take n (drop i bytes) ≡ field
    → drop (i + n) bytes ≡ rest
    → drop i bytes ≡ field ++ rest
field_joined i n bytes field rest f r =
    sym (take-append-drop n (drop i bytes))
    ∙ ap (λ (t : List ℕ). t ++ drop n (drop i bytes)) f
    ∙ ap (λ (t : List ℕ). field ++ t) (drop-drop n i bytes ∙ r)

-- the last field, after which nothing stands
pub last_field : (i n : ℕ) (bytes field : List ℕ) → drop i bytes ≡ field → length field ≡ n
    → take n (drop i bytes) ≡ field
last_field i n bytes field e len = ap (take n) e ∙ take_all n field (omega (arith, len))

-- the last field is what stands here
pub last_joined : (i n : ℕ) (bytes field : List ℕ) → length bytes ≡ i + n → take n (drop i bytes) ≡ field
    → drop i bytes ≡ field
last_joined i n bytes field len f = sym (take_all n (drop i bytes) (omega (arith, length-drop i bytes, len)))
    ∙ f

-- a field that is inside has its length
pub field_length : (i n : ℕ) (bytes : List ℕ) → i + n ≤ length bytes → length (take n (drop i bytes)) ≡ n
field_length i n bytes le = omega (arith, length-take n (drop i bytes), length-drop i bytes)

-- ---- fixed texts

-- the text is read
pub text_again : {E : Type 0} (text : List ℕ) (fault : E) (cs : List ℕ) → cs ≡ text
    → text_at text fault cs ≡ Ok text
text_again {E} text fault cs e =
    let here : Result (List ℕ) E = Ok text in
    ap (λ b. cond b here (Err fault)) ((bytes_eq-Decides cs text).1 e)

-- what is read is the text
pub text_takes : {E : Type 0} (text : List ℕ) (fault : E) (cs t : List ℕ) → text_at text fault cs ≡ Ok t
    → cs ≡ text
text_takes {E} text fault cs t e =
    let here : Result (List ℕ) E = Ok text in
    elim (chosen (bytes_eq cs text) here (Err fault) (Ok t) e) [
      | inl same ↦ (bytes_eq-Decides cs text).0 same.0
      | inr other ↦ absurd (let h = other.1 in cc)
    ]

-- ---- going on

-- steps that gave a value: the first one's, and the next one's from it
pub step_takes : {A B E : Type 0} (r : Result A E) (f : A → Result B E) (y : B) → (r >>= f) ≡ Ok y
    → (x : A) × (r ≡ Ok x) × (f x ≡ Ok y)
step_takes (Ok x) f y e = (x, refl, e)
step_takes (Err fault) f y e = absurd cc

-- without a fault there was a value
pub ok_or_some : {A E : Type 0} (o : Option A) (fault : E) (x : A) → ok_or o fault ≡ Ok x → o ≡ Some x
ok_or_some None fault x e = absurd cc
ok_or_some (Some y) fault x e = let same : y ≡ x = cc in ap Some same

-- a text that was there, and the next step after it
pub text_step : {B E : Type 0} (text : List ℕ) (fault : E) (cs : List ℕ) (f : List ℕ → Result B E) (y : B)
    → (text_at text fault cs >>= f) ≡ Ok y → (cs ≡ text) × (f text ≡ Ok y)
text_step {B} {E} text fault cs f y e =
    let first = step_takes (text_at text fault cs) f y e in
    let same = text_takes text fault cs first.0 first.1 in
    let value : first.0 ≡ text = let h = first.1 in let k = text_again text fault cs same in cc in
    (same, ap f (sym value) ∙ first.2)
