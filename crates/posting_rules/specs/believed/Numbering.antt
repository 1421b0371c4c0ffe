-- How the tellers and the accounts of a bank are numbered: those of branch 1 first, then those of branch 2,
-- and so on (the scaling of TPC-B). The nth of a branch, from 0 on, is n after its first.
use Rattle.std.specs.Prelude.{ℕ, ◌+◌, ◌-◌, ◌*◌, ◌/◌, ◌%◌}
use Rattle.posting_rules.specs.declared.limits.TheConstants.{ACCOUNTS_PER_BRANCH, TELLERS_PER_BRANCH}

-- the first teller of a branch, which has TELLERS_PER_BRANCH tellers
abbrev pub first_teller : ℕ → ℕ
first_teller b = TELLERS_PER_BRANCH * (b - 1) + 1

-- the first account of a branch, which has ACCOUNTS_PER_BRANCH numbers of accounts
abbrev pub first_account : ℕ → ℕ
first_account b = ACCOUNTS_PER_BRANCH * (b - 1) + 1

-- the branch of a teller
abbrev pub branch_of_teller : ℕ → ℕ
branch_of_teller t = (t - 1) / TELLERS_PER_BRANCH + 1

-- the branch of an account
abbrev pub branch_of_account : ℕ → ℕ
branch_of_account a = (a - 1) / ACCOUNTS_PER_BRANCH + 1

-- the place of an account among those of its branch, from 1 on
abbrev pub place_of_account : ℕ → ℕ
place_of_account a = (a - 1) % ACCOUNTS_PER_BRANCH + 1
