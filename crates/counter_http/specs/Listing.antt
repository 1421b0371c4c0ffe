-- What is listed of the open branches.
use Rattle.std.specs.Prelude.{ℕ, List, []}
use Rattle.posting_rules.specs.declared.counter.BranchLine.{BranchLine}
use Rattle.posting_rules.specs.believed.Commands.{Command, Terms, opened_with}
use Rattle.counter_http.specs.declared.lines.Listing.{Listing}
use Rattle.counter_http.specs.declared.lines.Listing.TheVariants.{Balances, Plan}
use Rattle.counter_http.specs.believed.Answers.{Answer, balance_line, branch_line, branch_lines, csv, plain, plan_line}
use Rattle.counter_http.specs.believed.Answers.{plan_lines, plan_names}

-- the first line
abbrev pub names_of : Listing → List ℕ
names_of Balances = []
names_of Plan = plan_names

-- the line of a branch that a log opened with these terms
abbrev pub listed_line : Listing → List Command → ℕ → Terms → List ℕ
listed_line Balances log = balance_line log
listed_line Plan log = plan_line

-- the line of a branch as a bank shows it
abbrev pub shown_line : Listing → BranchLine → List ℕ
shown_line Balances line = branch_line line.branch line.accounts line.balance
shown_line Plan line = plan_line line.branch (opened_with line.accounts line.floor)

-- all lines
abbrev pub listed : Listing → List Command → List ℕ
listed Balances log = branch_lines log
listed Plan log = plan_lines log

abbrev pub answer_with : Listing → List ℕ → Answer
answer_with Balances text = plain text
answer_with Plan text = csv text

abbrev pub listing_answer : Listing → List Command → Answer
listing_answer listing log = answer_with listing (listed listing log)
