-- Readings of a clock, where it is known which ones are to come.
use Rattle.std.specs.Prelude.{◌≡◌, ℕ, List, [], ◌∷◌, ⊤, Option, Some, None}

-- a reading is the first of those to come
abbrev pub IsNextReading : Option (List ℕ) → ℕ → Type 0
IsNextReading None moment = ⊤
IsNextReading (Some []) moment = ⊤
IsNextReading (Some (m ∷ ms)) moment = moment ≡ m

-- those to come after one
abbrev pub after_one : Option (List ℕ) → Option (List ℕ)
after_one None = None
after_one (Some []) = Some []
after_one (Some (m ∷ ms)) = Some ms

-- these moments were read in order, and no other
abbrev pub AreReadings : Option (List ℕ) → Option (List ℕ) → List ℕ → Type 0
AreReadings old new [] = new ≡ old
AreReadings old new (m ∷ ms) = IsNextReading old m × AreReadings (after_one old) new ms
