-- Numbers and amounts in their ranges.
use Rattle.std.specs.Prelude.{ℕ, ℤ, nat_le, nat_abs, ◌&&◌, Option, Some, None, if◌then◌else◌}

-- the number, where it is from least to most
abbrev pub whole_within : ℕ → ℕ → ℕ → Option ℕ
whole_within least most n = if (nat_le least n && nat_le n most) then Some n else None

-- the amount, where it is at most so far from zero
abbrev pub cents_within : ℕ → ℤ → Option ℤ
cents_within limit z = if nat_le (nat_abs z) limit then Some z else None
