-- A row as the columns that a statement shows of it, one after another.
use Rattle.std.proofs.Common.{◌≡◌, ◌<◌, ◌+◌, ◌++◌, ℕ, zero, suc, ℤ, pos, List, [], ◌∷◌, append-nil, length, refl}
use Rattle.std.proofs.Common.{ap, ◌∙◌, arith}
use Rattle.std.specs.Prelude.{slice_index_or}
use Rattle.sqlite.specs.Order.{Row}
use Rattle.sqlite.specs.declared.types.Value.TheVariants.{Int, Null, Text}
use Rattle.sql_meanings.specs.believed.Entries.{Entry, HasWidth, numbers, texts_held}
use Rattle.store_rows.specs.believed.SeveralRows.{given}

-- what there is at so many places
abbrev pub places : {X : Type 0} → ℕ → (ℕ → X) → List X
places zero at = []
places (suc n) at = at 0 ∷ places n (λ i. at (suc i))

-- a list of so many is what there is at its places
pub places_are : {X : Type 0} (none : X) (n : ℕ) (xs : List X) → length xs ≡ n
    → places n (λ i. slice_index_or xs i none) ≡ xs
places_are none zero [] wide = refl
places_are none zero (x ∷ xs) wide = absurd (omega arith)
places_are none (suc n) [] wide = absurd (omega arith)
places_are none (suc n) (x ∷ xs) wide = ap (λ l. x ∷ l) (places_are none n xs (omega arith))

-- the columns after the key
abbrev pub after_key : Entry → Row
after_key e = numbers e.values ++ texts_held e.texts

no_texts : (row : Row) (texts : List (List ℕ)) → length texts ≡ 0 → row ++ texts_held texts ≡ row
no_texts row [] none = append-nil row
no_texts row (t ∷ texts) none = absurd (omega arith)

counted : (values : List ℤ) (texts : List (List ℕ))
    → length (numbers values ++ texts_held texts) ≡ length values + length texts
counted [] [] = refl
counted [] (t ∷ texts) = let more = counted [] texts in omega arith
counted (v ∷ values) texts = let more = counted values texts in omega arith

-- a row is shown as all of its columns
all_shown : (n m : ℕ) (e : Entry) → HasWidth (n, m) e
    → places (n + m) (λ i. slice_index_or (after_key e) i Null) ≡ after_key e
all_shown n m e wide =
    places_are Null (n + m) (after_key e) (counted e.values e.texts ∙ let one = wide.0 in let two = wide.1 in omega arith)

pub all_columns : (n m : ℕ) (e : Entry) → HasWidth (n, m) e
    → Int e.key ∷ places (n + m) (λ i. slice_index_or (after_key e) i Null) ≡ given e
all_columns n m e wide = ap (λ (row : Row). Int e.key ∷ row) (all_shown n m e wide)

-- a row without texts is shown as its numbers
pub values_shown : (n : ℕ) (e : Entry) → HasWidth (n, 0) e
    → places n (λ i. slice_index_or (after_key e) i Null) ≡ numbers e.values
values_shown n e wide =
    ap (λ k. places k (λ i. slice_index_or (after_key e) i Null)) (let same : n ≡ n + 0 = omega arith in same)
    ∙ all_shown n 0 e wide ∙ no_texts (numbers e.values) e.texts wide.1

-- a number is shown as it is held
pub number_shown : (at : ℕ) (values : List ℤ) (texts : List (List ℕ)) → at < length values
    → slice_index_or (numbers values ++ texts_held texts) at Null ≡ Int (slice_index_or values at (pos 0))
number_shown at [] texts low = absurd (omega arith)
number_shown zero (v ∷ values) texts low = refl
number_shown (suc at) (v ∷ values) texts low = number_shown at values texts (omega arith)

-- so is the text of a row of one text
pub text_shown : (e : Entry) → HasWidth (0, 1) e
    → slice_index_or (after_key e) 0 Null ≡ Text (slice_index_or e.texts 0 [])
text_shown e wide = go e.values e.texts wide.0 wide.1
  where
    go : (values : List ℤ) (texts : List (List ℕ)) → length values ≡ 0 → length texts ≡ 1
        → slice_index_or (numbers values ++ texts_held texts) 0 Null ≡ Text (slice_index_or texts 0 [])
    go (v ∷ values) texts none one = absurd (omega arith)
    go [] [] none one = absurd (omega arith)
    go [] (t ∷ more) none one = refl
