-- What rows that were added up leave.
use Rattle.std.specs.Prelude.{◌≡◌, ℕ, ℤ, pos, ◌+◌, ◌-◌, ◌≤◌, List, length, map, filter, take, Option, slice_index_or}
use Rattle.posting_rules.specs.declared.limits.TheConstants.{LAST_BRANCH}
use Rattle.posting_rules.specs.believed.Laws.{total}
use Rattle.walked_rows.specs.declared.branches.StoredBranch.{StoredBranch}
use Rattle.walked_rows.specs.declared.tellers.StoredTeller.{StoredTeller}
use Rattle.walked_rows.specs.declared.postings.StoredPosting.{StoredPosting}
use Rattle.walked_rows.specs.declared.requests.StoredRequest.{StoredRequest}
use Rattle.report_contents.specs.declared.sum.Sum.{Sum}
use Rattle.report_contents.specs.declared.tellers.TellerSums.{TellerSums}
use Rattle.report_contents.specs.declared.branches.BranchSums.{BranchSums}
use Rattle.report_contents.specs.declared.ordinals.OrdinalSums.{OrdinalSums}
use Rattle.report_contents.specs.Audit.{teller_sum, lines_of, branch_balance, teller_balance}
use Rattle.report_contents.specs.Beside.{is_odd, is_alone, delta_in}

-- these amounts were added
pub record IsSum (s : Sum) (amounts : List ℤ) : Type 0 where
  pub count : s.count ≡ length amounts
  pub sum : s.sum ≡ total amounts

-- these tellers were added
pub record HasTellers (s : TellerSums) (tellers : List StoredTeller) : Type 0 where
  pub all : IsSum s.all (map teller_balance tellers)
  pub by_branch : (b : ℕ) → 1 ≤ b → b ≤ LAST_BRANCH
      → slice_index_or s.by_branch.items (b - 1) (pos 0) ≡ teller_sum tellers b

-- these branches were added, and compared with these tellers
pub record HasBranches (s : BranchSums) (tellers : List StoredTeller)
    (branches : List StoredBranch) : Type 0 where
  pub all : IsSum s.all (map branch_balance branches)
  pub lines : take s.differing s.lines.items ≡ lines_of tellers branches

-- these requests and postings were added, each with what is beside it
pub record HasBeside (s : OrdinalSums) (asked : List (StoredRequest × Option StoredPosting))
    (posted : List (StoredPosting × Option StoredRequest)) : Type 0 where
  pub requests : s.requests ≡ length asked
  pub history : IsSum s.history (map delta_in posted)
  pub unmatched : s.unmatched ≡ length (filter is_odd asked) + length (filter is_alone posted)
