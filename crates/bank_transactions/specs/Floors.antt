-- A balance and a floor.
use Rattle.std.specs.Prelude.{ℤ, Bool, false, int_lt, Option, Some}

-- there are both, and the balance is below the floor
abbrev pub falls_below : Option ℤ → Option ℤ → Bool
falls_below (Some balance) (Some floor) = int_lt balance floor
falls_below _ _ = false
