-- Keys that rise.
use Rattle.std.specs.Prelude.{ℤ, pos, ◌+ℤ◌, ◌≤ℤ◌, List, [], ◌∷◌, Option, Some, None, ⊤}

-- The keys rise from a number on, and the others follow from a number above them, if others do.
abbrev pub RisesFrom : ℤ → List ℤ → Option ℤ → Type 0
RisesFrom from [] None = ⊤
RisesFrom from [] (Some rest) = from ≤ℤ rest
RisesFrom from (k ∷ keys) rest = (from ≤ℤ k) × RisesFrom (k +ℤ pos 1) keys rest
