-- Rows of which one breaks a rule, so that it can't be given.
use Rattle.std.specs.Prelude.{◌≡◌, ◌++◌, ◌∷◌, List}

-- one of these is broken
abbrev pub HasBroken : {X : Type 0} → (X → Type 0) → List X → Type 0
HasBroken {X} Breaks xs = (before : List X) × (x : X) × (more : List X) × (xs ≡ before ++ x ∷ more)
    × Breaks x
