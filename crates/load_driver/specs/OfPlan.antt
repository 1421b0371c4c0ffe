-- What a request of a plan names.
use Rattle.std.specs.Prelude.{◌≡◌, ◌≤◌, ◌↔◌, ℕ, Bool, IsTrue, Contains}
use Rattle.message_records.specs.believed.Records.{RequestFields}
use Rattle.posting_rules.specs.believed.Numbering.{branch_of_account, branch_of_teller, place_of_account}
use Rattle.branch_loader.specs.believed.Plans.{Rows, Row}

-- the account is one of the row's branch, within its count
pub record IsAccountOf (row : Row) (account : ℕ) : Type 0 where
  pub some : 1 ≤ account
  pub branch : branch_of_account account ≡ row.0
  pub place : place_of_account account ≤ row.1

-- the account is one of the plan, and of the home branch just where it is to be
pub record IsAccountFor (rows : Rows) (home : Row) (is_home : Bool) (account : ℕ) : Type 0 where
  pub row : Row
  pub planned : Contains rows row
  pub within : IsAccountOf row account
  pub at_home : IsTrue is_home ↔ (branch_of_account account ≡ home.0)

-- the request names a teller of the plan, that teller's branch, and an account of the plan, which is one of
-- that branch just where it is to be
pub record IsOfPlan (rows : Rows) (is_home : Bool) (r : RequestFields) : Type 0 where
  pub home : Row
  pub planned : Contains rows home
  pub branch : r.branch ≡ home.0
  pub some : 1 ≤ r.teller
  pub teller : branch_of_teller r.teller ≡ home.0
  pub account : IsAccountFor rows home is_home r.account
