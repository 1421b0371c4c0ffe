-- What holds of all tables that a log leads to. Tables of which it doesn't hold are damaged.
use Rattle.std.specs.Prelude.{ℤ, ◌≡◌, ◌≤◌, ◌≤ℤ◌, ℕ, ◌+◌, ◌*◌, nat_abs, length, None, is_some, IsTrue, IfSome}
use Rattle.std.specs.List.{Contains}
use Rattle.posting_rules.specs.declared.limits.TheConstants.{LAST_KEY, MAX_DECIDED, LAST_BRANCH, MAX_ACCOUNTS}
use Rattle.posting_rules.specs.declared.limits.TheConstants.{ACCOUNTS_PER_BRANCH, TELLERS_PER_BRANCH}
use Rattle.message_records.specs.declared.limits.TheConstants.{MAX_ACCOUNT, MAX_TELLER, MAX_BRANCH}
use Rattle.message_records.specs.declared.limits.TheConstants.{MAX_NUMBER, MAX_MOMENT, MAX_BALANCE, MAX_DELTA}
use Rattle.message_records.specs.declared.limits.TheConstants.{REFERENCE_BYTES}
use Rattle.posting_rules.specs.declared.rows.BranchRow.{BranchRow}
use Rattle.posting_rules.specs.declared.rows.TellerRow.{TellerRow}
use Rattle.posting_rules.specs.declared.rows.AccountRow.{AccountRow}
use Rattle.posting_rules.specs.declared.rows.HistoryRow.{HistoryRow}
use Rattle.posting_rules.specs.declared.rows.RequestRow.{RequestRow}
use Rattle.posting_rules.specs.declared.rows.FloorRow.{FloorRow}
use Rattle.posting_rules.specs.declared.rows.ReferenceRow.{ReferenceRow}
use Rattle.posting_rules.specs.declared.rows.ClosingRow.{ClosingRow}
use Rattle.posting_rules.specs.believed.Closings.{is_closing}
use Rattle.message_records.specs.believed.Records.{is_printable}
use Rattle.posting_rules.specs.believed.Commands.{IsFloor, is_within}
use Rattle.posting_rules.specs.believed.Numbering.{branch_of_teller, branch_of_account, place_of_account}
use Rattle.posting_rules.specs.believed.Kept.{is_kept_with}
use Rattle.posting_rules.specs.believed.Tables.{Tables, row_at, branch_key, teller_key, account_key}
use Rattle.posting_rules.specs.believed.Tables.{history_key, request_key, floor_key, reference_key}
use Rattle.posting_rules.specs.believed.LookUps.{floor_in, terms_in}

-- ---- one row

-- a branch and a count of accounts that can be opened, and its balance within the limit
pub record IsSoundBranch (r : BranchRow) : Type 0 where
  -- its number is one that can be opened
  pub some : 1 ≤ r.branch
  pub most : r.branch ≤ LAST_BRANCH
  -- it has one account at least, and no more than can be opened
  pub few : 1 ≤ r.accounts
  pub many : r.accounts ≤ MAX_ACCOUNTS
  -- its balance is within the limit (TPC-B 1.2)
  pub balance : nat_abs r.balance ≤ MAX_BALANCE

-- a teller of a branch that can be opened, and its balance within the limit
pub record IsSoundTeller (r : TellerRow) : Type 0 where
  -- its number is 1 at least, and that of the last branch's last teller at most
  pub some : 1 ≤ r.teller
  pub most : r.teller ≤ TELLERS_PER_BRANCH * LAST_BRANCH
  -- its balance is within the limit (TPC-B 1.2)
  pub balance : nat_abs r.balance ≤ MAX_BALANCE

-- an account of a branch that can be opened, and its balance within the limit
pub record IsSoundAccount (r : AccountRow) : Type 0 where
  -- its number is 1 at least, and that of the last branch's last account at most
  pub some : 1 ≤ r.account
  pub most : r.account ≤ ACCOUNTS_PER_BRANCH * LAST_BRANCH
  -- its balance is within the limit (TPC-B 1.2)
  pub balance : nat_abs r.balance ≤ MAX_BALANCE

-- account, teller, branch and amount of a request are in their ranges
pub record FieldsAreInRange (account' teller' branch' : ℕ) (delta' : ℤ) : Type 0 where
  pub account_above : 1 ≤ account'
  pub account : account' ≤ MAX_ACCOUNT
  pub teller_above : 1 ≤ teller'
  pub teller : teller' ≤ MAX_TELLER
  pub branch_above : 1 ≤ branch'
  pub branch : branch' ≤ MAX_BRANCH
  pub delta : nat_abs delta' ≤ MAX_DELTA

-- a request whose fields are in their ranges, and whose outcome is one that is kept with its balance
pub record IsSoundRequest (r : RequestRow) : Type 0 where
  -- its ordinal is one of those that a bank may decide
  pub ordinal_above : 1 ≤ r.ordinal
  pub ordinal : r.ordinal ≤ MAX_DECIDED
  -- each field of the request is in its range
  pub fields : FieldsAreInRange r.decision.account r.teller r.decision.branch r.decision.delta
  pub number_above : 1 ≤ r.number
  pub number : r.number ≤ MAX_NUMBER
  -- its outcome is one that is kept, and only a posting has a balance
  pub decision : IsTrue (is_kept_with r.decision.outcome r.decision.balance)
  -- that balance is within the limit (TPC-B 1.2)
  pub balance : nat_abs r.decision.balance ≤ MAX_BALANCE

-- a posting whose fields are in the ranges of a request, at a moment within its range
pub record IsSoundPosting (r : HistoryRow) : Type 0 where
  -- its ordinal is one of those that a bank may decide
  pub ordinal_above : 1 ≤ r.ordinal
  pub ordinal : r.ordinal ≤ MAX_DECIDED
  -- each field of its request is in its range
  pub fields : FieldsAreInRange r.account r.teller r.branch r.delta
  -- its moment is within its range
  pub moment : r.moment ≤ MAX_MOMENT

-- the floor of a branch that can be opened
pub record IsSoundFloor (r : FloorRow) : Type 0 where
  -- its branch has a number that can be opened
  pub some : 1 ≤ r.branch
  pub most : r.branch ≤ LAST_BRANCH
  -- it is at most zero, and within the limit (TPC-B 1.2)
  pub lowest : IsFloor r.lowest

-- a reference under an ordinal that a bank may decide
pub record IsSoundReference (r : ReferenceRow) : Type 0 where
  pub ordinal_above : 1 ≤ r.ordinal
  pub ordinal : r.ordinal ≤ MAX_DECIDED
  -- it is as long as a reference, of printable bytes
  pub reference : (length r.reference ≡ REFERENCE_BYTES) × IsTrue (is_printable r.reference)

-- closed numbers of one teller, or the seal
pub record IsSoundClosing (r : ClosingRow) : Type 0 where
  pub last : r.last ≤ LAST_KEY
  pub numbers : IsTrue (is_closing r.first r.last)

-- ---- the tables

-- every row is sound, and so is what the rows of several tables say together
pub record IsUndamaged (t : Tables) : Type 0 where
  -- no more requests are decided than a bank may decide
  pub decided : t.decided ≤ MAX_DECIDED
  -- a teller has its row just where its branch has one
  pub tellers : (n : ℕ) → 1 ≤ n
      → is_some (row_at teller_key t.tellers n) ≡ is_some (row_at branch_key t.branches (branch_of_teller n))
  -- an account has its row just where its place is within its branch's count
  pub accounts : (n : ℕ) → 1 ≤ n
      → is_some (row_at account_key t.accounts n) ≡ is_within (place_of_account n)
      (terms_in t (branch_of_account n))
  -- a branch without a row has no floor
  pub floors : (b : ℕ) → row_at branch_key t.branches b ≡ None → row_at floor_key t.floors b ≡ None
  -- no account is below the floor of its branch
  pub above : (r : AccountRow) → Contains t.accounts r
      → IfSome (floor_in t (branch_of_account r.account)) (λ floor. floor ≤ℤ r.balance)
  -- every row of branches has a number, a count and a balance within their ranges
  pub each_branch : (r : BranchRow) → Contains t.branches r → IsSoundBranch r
  -- every row of tellers has a number and a balance within their ranges
  pub each_teller : (r : TellerRow) → Contains t.tellers r → IsSoundTeller r
  -- every row of accounts has a number and a balance within their ranges
  pub each_account : (r : AccountRow) → Contains t.accounts r → IsSoundAccount r
  -- every row of floors has a branch and a floor within their ranges
  pub each_floor : (r : FloorRow) → Contains t.floors r → IsSoundFloor r
  -- every row of requests has fields within their ranges, and keeps what can be kept
  pub each_request : (r : RequestRow) → Contains t.requests r → IsSoundRequest r
  -- every row of history has fields within their ranges
  pub each_posting : (r : HistoryRow) → Contains t.history r → IsSoundPosting r
  -- every row of references has a reference, and an ordinal within its range
  pub each_reference : (r : ReferenceRow) → Contains t.references r → IsSoundReference r
  -- every row of closings has numbers of one teller, or is the seal
  pub each_closing : (r : ClosingRow) → Contains t.closings r → IsSoundClosing r
  -- the next ordinal has no request
  pub next_request : row_at request_key t.requests (t.decided + 1) ≡ None
  -- no posting
  pub next_posting : row_at history_key t.history (t.decided + 1) ≡ None
  -- and no reference
  pub next_reference : row_at reference_key t.references (t.decided + 1) ≡ None
