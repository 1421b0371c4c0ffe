-- The rows that come with a branch, one by one.
use Rattle.std.specs.Prelude.{ℕ, zero, suc, ◌+◌, pos, Bool, None, is_some}
use Rattle.posting_rules.specs.believed.Changes.{with_accounts, with_branch, with_tellers}
use Rattle.posting_rules.specs.Changes.{with_account, with_teller}
use Rattle.posting_rules.specs.believed.Changes.{new_teller, new_account}
use Rattle.posting_rules.specs.believed.Commands.{opened_with}
use Rattle.posting_rules.specs.believed.Numbering.{first_account, first_teller}
use Rattle.posting_rules.specs.believed.Tables.{Tables, branch_row_of, row_at, teller_key, account_key}
use Rattle.posting_rules.specs.declared.limits.TheConstants.{TELLERS_PER_BRANCH}
use Rattle.bank_transactions.specs.declared.new_branch.NewRows.{NewRows}
use Rattle.bank_transactions.specs.declared.new_branch.NewRows.TheVariants.{Tellers, Accounts}
use Rattle.message_records.specs.declared.limits.TheConstants.{MAX_ACCOUNT, MAX_TELLER}

-- the last number that such a row may have
abbrev pub last_of : NewRows → ℕ
last_of Tellers = MAX_TELLER
last_of Accounts = MAX_ACCOUNT

-- a row under this number is there
abbrev pub is_taken : NewRows → ℕ → Tables → Bool
is_taken Tellers n t = is_some (row_at teller_key t.tellers n)
is_taken Accounts n t = is_some (row_at account_key t.accounts n)

-- a row more, with nothing on it
abbrev pub with_new : NewRows → ℕ → Tables → Tables
with_new Tellers n t = with_teller (new_teller n) t
with_new Accounts n t = with_account (new_account n) t

-- a branch more, with its tellers and its accounts
abbrev pub tables_staffed : Tables → ℕ → ℕ → Tables
tables_staffed t b count = with_accounts (first_account b) count
    (with_tellers (first_teller b) TELLERS_PER_BRANCH (with_branch (branch_row_of b (pos 0) (opened_with count None)) t))

-- so many more, from this number on
abbrev pub with_new_rows : NewRows → ℕ → ℕ → Tables → Tables
with_new_rows kind first zero t = t
with_new_rows kind first (suc count) t = with_new kind (first + count) (with_new_rows kind first count t)
