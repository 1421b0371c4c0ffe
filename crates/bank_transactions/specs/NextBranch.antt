-- The next open branch of tables.
use Rattle.std.specs.Prelude.{ℕ, Option, option_map}
use Rattle.posting_rules.specs.Branches.{line_in}
use Rattle.posting_rules.specs.believed.Tables.{Tables}
use Rattle.posting_rules.specs.declared.counter.BranchLine.{BranchLine}
use Rattle.store_rows.specs.Columns.{branch_above}

-- what the tables say of the branch with the least number above one
abbrev pub line_above : Tables → ℕ → Option BranchLine
line_above t after = option_map (line_in t) (branch_above t after)
