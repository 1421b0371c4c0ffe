-- A reference as a field of CSV.
use Rattle.std.specs.Prelude.{ℕ, List, [], ◌∷◌, ◌==◌, Option, Some, None, if◌then◌else◌}
use Rattle.csv.specs.Writing.{default_writer, field_text}

abbrev pub space_or : ℕ → List ℕ → List ℕ
space_or c [] = if c == 32 then [] else c ∷ []
space_or c (d ∷ ds) = c ∷ d ∷ ds

-- a text without the spaces at its end
abbrev pub trimmed : List ℕ → List ℕ
trimmed [] = []
trimmed (c ∷ cs) = space_or c (trimmed cs)

-- the field of a reference, which stands in quotes where it has a comma or a quote
unfoldable pub reference_field : Option (List ℕ) → List ℕ
reference_field None = []
reference_field (Some text) = field_text default_writer (trimmed text)
