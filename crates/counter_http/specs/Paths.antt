-- Where a path ends.
use Rattle.std.specs.Prelude.{ℕ, List, ◌==◌}
use Rattle.std.specs.List.{position_or_len}

-- the target up to the first `?`
abbrev pub path_end : List ℕ → ℕ
path_end target = position_or_len (λ b. b == 63) target
