-- How large sums of 64 bit amounts grow.
use Rattle.std.specs.Prelude.{ℕ, ℤ, pos, ◌≤◌, ◌*◌, ◌^◌, List, nat_abs, slice_index_or}

-- a sum of so many amounts
abbrev pub IsSmall : ℤ → ℕ → Type 0
IsSmall sum count = nat_abs sum ≤ 2 ^ 63 * count

-- sums to which so many amounts were added
abbrev pub AreSmall : List ℤ → ℕ → Type 0
AreSmall sums count = (i : ℕ) → IsSmall (slice_index_or sums i (pos 0)) count
