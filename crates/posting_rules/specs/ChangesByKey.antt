-- How an opening changes tables, by look-ups by key, so that the rows may stand in any order; and rows with
-- another balance.
use Rattle.std.specs.Prelude.{◌≡◌, ℕ, ◌+◌, ℤ, pos, List, Option, Some, None, Bool, ◌==◌, ◌&&◌, nat_le, nat_lt}
use Rattle.std.specs.Prelude.{if◌then◌else◌}
use Rattle.std.specs.Option.{option_map}
use Rattle.posting_rules.specs.declared.limits.TheConstants.{TELLERS_PER_BRANCH}
use Rattle.posting_rules.specs.declared.rows.BranchRow.{BranchRow}
use Rattle.posting_rules.specs.declared.rows.TellerRow.{TellerRow}
use Rattle.posting_rules.specs.declared.rows.AccountRow.{AccountRow}
use Rattle.posting_rules.specs.declared.rows.FloorRow.{FloorRow}
use Rattle.posting_rules.specs.believed.Commands.{Terms}
use Rattle.posting_rules.specs.believed.Numbering.{first_teller, first_account}
use Rattle.posting_rules.specs.believed.Tables.{Tables, row_at, HasKeys, branch_key, teller_key, account_key}
use Rattle.posting_rules.specs.believed.Tables.{branch_row_of, teller_row_of, account_row_of, floor_key, floor_row_of}

-- ---- rows of one table

-- the row under this key is changed, and no other
pub record ChangesRow {R : Type 0} (key : R → ℕ) (k : ℕ) (change : R → R) (old new : List R) : Type 0 where
  pub rows : (n : ℕ) → row_at key new n ≡ option_map (λ r. if k == n then change r else r) (row_at key old n)
  pub keys : HasKeys key new

-- this row is added, and no other
pub record GainsRow {R : Type 0} (key : R → ℕ) (row : R) (old new : List R) : Type 0 where
  pub rows : (n : ℕ) → row_at key new n ≡ (if key row == n then Some row else row_at key old n)
  pub keys : HasKeys key new

-- so many numbers from this one on
abbrev pub is_from : ℕ → ℕ → ℕ → Bool
is_from first count n = nat_le first n && nat_lt n (first + count)

-- a row is added for each of so many numbers, and no other
pub record AddsRows {R : Type 0} (key : R → ℕ) (row : ℕ → R) (first count : ℕ)
    (old new : List R) : Type 0 where
  pub rows : (n : ℕ) → row_at key new n ≡ (if is_from first count n then Some (row n) else row_at key old n)
  pub keys : HasKeys key new

-- ---- rows with another balance

abbrev pub with_branch_balance : ℤ → BranchRow → BranchRow
with_branch_balance z r = record { branch = r.branch; accounts = r.accounts; balance = z }

abbrev pub with_teller_balance : ℤ → TellerRow → TellerRow
with_teller_balance z r = record { teller = r.teller; balance = z }

abbrev pub with_account_balance : ℤ → AccountRow → AccountRow
with_account_balance z r = record { account = r.account; balance = z }

-- ---- an opening

-- the floor of a branch is added where it has one, and no other
abbrev pub AddsFloor : ℕ → Option ℤ → List FloorRow → List FloorRow → Type 0
AddsFloor b None old new = new ≡ old
AddsFloor b (Some lowest) old new = GainsRow floor_key (floor_row_of b lowest) old new

-- a branch is there, with its tellers and its accounts, all at zero, and with its floor
pub record OpensBranch (old new : Tables) (b : ℕ) (terms : Terms) : Type 0 where
  pub decided : new.decided ≡ old.decided
  pub branches : GainsRow branch_key (branch_row_of b (pos 0) terms) old.branches new.branches
  pub tellers : AddsRows teller_key (λ n. teller_row_of n (pos 0))
      (first_teller b) TELLERS_PER_BRANCH old.tellers new.tellers
  pub accounts : AddsRows account_key (λ n. account_row_of n (pos 0))
      (first_account b) terms.accounts old.accounts new.accounts
  pub history : new.history ≡ old.history
  pub requests : new.requests ≡ old.requests
  pub references : new.references ≡ old.references
  pub closings : new.closings ≡ old.closings
  pub floors : AddsFloor b terms.floor old.floors new.floors
