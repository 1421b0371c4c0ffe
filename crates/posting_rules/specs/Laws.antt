-- Laws of every log, beside the consistency condition.
use Rattle.std.specs.Prelude.{◌≡◌, ◌≤◌, ◌≤ℤ◌, ℕ, nat_abs, List}
use Rattle.std.specs.Prelude.{IfSome}
use Rattle.message_records.specs.declared.limits.TheConstants.{MAX_BALANCE}
use Rattle.posting_rules.specs.believed.Commands.{Command, AreCommands, opened, floor_of}
use Rattle.posting_rules.specs.believed.Numbering.{branch_of_account}
use Rattle.posting_rules.specs.believed.Entries.{decided, account_balance, teller_balance}
use Rattle.posting_rules.specs.believed.Entries.{branch_balance}
use Rattle.posting_rules.specs.believed.Tables.{Tables, AreTablesOf}
use Rattle.posting_rules.specs.believed.Runs.{replies_to}

-- ---- balances

-- every balance stays within the limit
pub record StaysWithin (log : List Command) : Type 0 where
  pub accounts : (a : ℕ) → nat_abs (account_balance (decided log) a) ≤ MAX_BALANCE
  pub tellers : (t : ℕ) → nat_abs (teller_balance (decided log) t) ≤ MAX_BALANCE
  pub branches : (b : ℕ) → nat_abs (branch_balance (decided log) b) ≤ MAX_BALANCE

abbrev pub BalancesStayWithin : Type 0
BalancesStayWithin = (log : List Command) → StaysWithin log

-- no account is below the floor of its own branch, whichever branch its postings came from
abbrev pub AccountsStayAbove : Type 0
AccountsStayAbove = (log : List Command) → AreCommands log → (account : ℕ)
    → IfSome (floor_of (λ b. opened log b) (branch_of_account account))
    (λ floor. floor ≤ℤ account_balance (decided log) account)

-- ---- the tables say all that matters of a log

-- logs with equal tables give equal replies to whatever follows
abbrev pub EqualTablesAnswerAlike : Type 0
EqualTablesAnswerAlike = (t : Tables) (one two cs : List Command) → AreTablesOf t one → AreTablesOf t two
    → AreCommands cs
    → replies_to one cs ≡ replies_to two cs
