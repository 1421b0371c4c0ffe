-- The walk over an input always ends.
use Rattle.std.specs.Prelude.{ℕ, List, ◌++◌}
use Rattle.counter_http.specs.believed.Messages.{Ending, EndsWalk}

-- whatever bytes follow
abbrev pub AlwaysEnds : Ending → List ℕ → Type 0
AlwaysEnds ending rest = (more : List ℕ) → EndsWalk ending (rest ++ more)
