-- The tables say all that matters of a log: what is answered after logs with equal tables, whatever commands
-- follow.
use Rattle.std.specs.Prelude.{◌≡◌, ℕ, List, Option}
use Rattle.posting_rules.specs.declared.counter.BranchLine.{BranchLine}
use Rattle.posting_rules.specs.Branches.{IsNextBranch}
use Rattle.posting_rules.specs.believed.Commands.{Command, Terms, AreCommands}
use Rattle.posting_rules.specs.believed.Counter.{opening_after}
use Rattle.posting_rules.specs.believed.Entries.{balance_after}
use Rattle.posting_rules.specs.believed.Runs.{followed_by}
use Rattle.posting_rules.specs.believed.Tables.{Tables, AreTablesOf}

-- the tables show both logs, and these commands follow either
pub record AreAlike (t : Tables) (one two commands : List Command) : Type 0 where
  pub first : AreTablesOf t one
  pub second : AreTablesOf t two
  pub valid : AreCommands commands

-- an opening gets one answer
abbrev pub OpeningsAnswerAlike : Type 0
OpeningsAnswerAlike = (t : Tables) (one two commands : List Command) → AreAlike t one two commands
    → (branch : ℕ) (terms : Terms)
    → opening_after (followed_by one commands) branch terms ≡ opening_after (followed_by two commands) branch terms

-- an account has one balance
abbrev pub BalancesAnswerAlike : Type 0
BalancesAnswerAlike = (t : Tables) (one two commands : List Command) → AreAlike t one two commands
    → (account : ℕ)
    → balance_after (followed_by one commands) account ≡ balance_after (followed_by two commands) account

-- one branch is the next that is open
abbrev pub BranchesAnswerAlike : Type 0
BranchesAnswerAlike = (t : Tables) (one two commands : List Command) → AreAlike t one two commands
    → (after : ℕ) (line : Option BranchLine)
    → IsNextBranch (followed_by one commands) after line → IsNextBranch (followed_by two commands) after line
