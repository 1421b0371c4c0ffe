-- Lines of a report: texts in columns, and the end of each line.
use Rattle.std.specs.Prelude.{ℕ, ℤ, pos, negsuc, ◌-◌, List, [], ◌∷◌, ◌++◌, length, replicate, decimal}
use Rattle.std.specs.Fmt.{signed_decimal}
use Rattle.std.specs.List.{flat_map}

-- a text filled on the left to so many places, and wider where it needs more
abbrev pub filled_to : ℕ → ℕ → List ℕ → List ℕ
filled_to fill n text = replicate (n - length text) fill ++ text

-- right in so many places
abbrev pub right_in : ℕ → List ℕ → List ℕ
right_in n text = filled_to 32 n text

-- left in so many places
abbrev pub left_in : ℕ → List ℕ → List ℕ
left_in n text = text ++ replicate (n - length text) 32

-- an amount whose sign is always there: plus for zero
abbrev pub with_sign : ℤ → List ℕ
with_sign (pos n) = 43 ∷ decimal n
with_sign (negsuc n) = signed_decimal (negsuc n)

-- a text, and the end of its line
abbrev pub line : List ℕ → List ℕ
line text = text ++ 10 ∷ []

-- lines one after another
abbrev pub text_of : List (List ℕ) → List ℕ
text_of lines = flat_map (λ l. l) lines
