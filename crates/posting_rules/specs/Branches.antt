-- The open branches, one after another.
use Rattle.std.specs.Prelude.{◌≡◌, ◌<◌, ◌≤◌, ◌≤ℤ◌, ℕ, ℤ, pos, List, Option, Some, None, All, IfSome}
use Rattle.std.specs.List.{Contains}
use Rattle.posting_rules.specs.declared.counter.BranchLine.{BranchLine}
use Rattle.posting_rules.specs.declared.rows.BranchRow.{BranchRow}
use Rattle.posting_rules.specs.declared.rows.FloorRow.{FloorRow}
use Rattle.posting_rules.specs.declared.limits.TheConstants.{LAST_BRANCH, MAX_ACCOUNTS}
use Rattle.posting_rules.specs.believed.Commands.{Command, opened, opened_with}
use Rattle.posting_rules.specs.believed.Entries.{branch_balance, decided}
use Rattle.posting_rules.specs.believed.LookUps.{floor_in}
use Rattle.posting_rules.specs.believed.Tables.{Tables}

-- ---- of a log

-- the branch is open above this number, on these terms and with this balance, and none between is open
pub record IsNextOpen (log : List Command) (after : ℕ) (line : BranchLine) : Type 0 where
  pub above : after < line.branch
  pub terms : opened log line.branch ≡ Some (opened_with line.accounts line.floor)
  pub balance : line.balance ≡ branch_balance (decided log) line.branch
  pub none_between : (branch : ℕ) → after < branch → branch < line.branch → opened log branch ≡ None

-- the open branch with the least number above this one, none where no such branch is open
abbrev pub IsNextBranch : List Command → ℕ → Option BranchLine → Type 0
IsNextBranch log after None = (branch : ℕ) → after < branch → opened log branch ≡ None
IsNextBranch log after (Some line) = IsNextOpen log after line

-- it is above this number, number and count are in their ranges, and its floor is at most zero
pub record IsLineAbove (after : ℕ) (line : BranchLine) : Type 0 where
  pub above : after < line.branch
  pub branch : line.branch ≤ LAST_BRANCH
  pub some : 1 ≤ line.accounts
  pub few : line.accounts ≤ MAX_ACCOUNTS
  pub floor : IfSome line.floor (λ z. z ≤ℤ pos 0)

-- ---- of rows, in whatever order they are

-- number and count are in the ranges of a bank's branches
pub record IsInRange (row : BranchRow) : Type 0 where
  pub branch : row.branch ≤ LAST_BRANCH
  pub some : 1 ≤ row.accounts
  pub few : row.accounts ≤ MAX_ACCOUNTS

-- a floor is at most zero
abbrev pub IsAtMostZero : FloorRow → Type 0
IsAtMostZero row = row.lowest ≤ℤ pos 0

-- the row is above this number, and none above it has a lower one
pub record IsNextRow (rows : List BranchRow) (after : ℕ) (row : BranchRow) : Type 0 where
  pub stands : Contains rows row
  pub above : after < row.branch
  pub least : All (λ r. after < r.branch → row.branch ≤ r.branch) rows

-- the row with the least number above this one, none where there is no such row
abbrev pub IsNextIn : List BranchRow → ℕ → Option BranchRow → Type 0
IsNextIn rows after None = All (λ r. r.branch ≤ after) rows
IsNextIn rows after (Some row) = IsNextRow rows after row

-- what a row and a floor say of a branch
abbrev pub line_of : Option ℤ → BranchRow → BranchLine
line_of floor row = record {
  branch = row.branch;
  accounts = row.accounts;
  balance = row.balance;
  floor = floor;
}

-- what the tables say of the branch that a row is of
abbrev pub line_in : Tables → BranchRow → BranchLine
line_in t row = line_of (floor_in t row.branch) row
