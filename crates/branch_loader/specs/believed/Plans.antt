-- What a text of CSV states as a plan: branches, each with its count of accounts and their floor, or the first
-- fault with its row.
use Rattle.std.specs.Prelude.{ℕ, ℤ}
use Rattle.std.specs.Prelude.{List, Option}

-- a branch, how many accounts it is to have, and their floor, if they are to have one
abbrev pub Row : Type 0
Row = ℕ × ℕ × Option ℤ

-- a plan: rows in its order
abbrev pub Rows : Type 0
Rows = List Row
