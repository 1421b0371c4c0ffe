-- The ten numbers and the branch lines of an audit, and whether they are those of consistent tables.
use Rattle.std.specs.Prelude.{ℕ, ℤ, pos, nat_le, Bool, true, false, not, ◌&&◌, ◌==◌, List}
use Rattle.std.specs.Prelude.{◌++◌, length, map, filter, Option, Some, None, is_some}
use Rattle.std.specs.Ordering.{int_eq}
use Rattle.posting_rules.specs.believed.Numbering.{branch_of_teller}
use Rattle.posting_rules.specs.believed.Laws.{total}
use Rattle.posting_rules.specs.believed.Tables.{row_at}
use Rattle.walked_rows.specs.declared.branches.StoredBranch.{StoredBranch}
use Rattle.walked_rows.specs.declared.tellers.StoredTeller.{StoredTeller}
use Rattle.walked_rows.specs.declared.accounts.StoredAccount.{StoredAccount}
use Rattle.walked_rows.specs.declared.postings.StoredPosting.{StoredPosting}
use Rattle.walked_rows.specs.declared.requests.StoredRequest.{StoredRequest}
use Rattle.report_contents.specs.declared.audit.BranchLine.{BranchLine}
use Rattle.report_contents.specs.declared.audit.Audit.{Audit}
use Rattle.report_contents.specs.Stored.{StoredTables}

-- ---- branches

abbrev pub branch_balance : StoredBranch → ℤ
branch_balance r = r.balance

abbrev pub teller_balance : StoredTeller → ℤ
teller_balance r = r.balance

-- the balances of the tellers that a branch's number gives, added up
abbrev pub teller_sum : List StoredTeller → ℕ → ℤ
teller_sum tellers b =
    total (map teller_balance (filter (λ r. nat_le 1 r.teller && (branch_of_teller r.teller == b)) tellers))

-- what is said of a branch
abbrev pub line_of : List StoredTeller → StoredBranch → BranchLine
line_of tellers r = record { branch = r.branch; tellers = teller_sum tellers r.branch; balance = r.balance }

-- the balance isn't the sum of the tellers
abbrev pub differs : BranchLine → Bool
differs l = not (int_eq l.tellers l.balance)

abbrev pub lines_of : List StoredTeller → List StoredBranch → List BranchLine
lines_of tellers branches = filter differs (map (line_of tellers) branches)

-- ---- ordinals

abbrev pub posting_ordinal : StoredPosting → ℕ
posting_ordinal r = r.ordinal

abbrev pub request_ordinal : StoredRequest → ℕ
request_ordinal r = r.ordinal

-- the outcome is 00
abbrev pub is_posted : StoredRequest → Bool
is_posted r = int_eq r.outcome (pos 0)

-- request and posting have the same account, teller, branch and delta
abbrev pub agree : StoredRequest → StoredPosting → Bool
agree r h = int_eq h.account r.account && int_eq h.teller r.teller && int_eq h.branch r.branch
    && int_eq h.delta r.delta

-- under an ordinal there is neither a posted request nor a posting, or there are both, and they agree
abbrev pub is_matched : Option StoredRequest → Option StoredPosting → Bool
is_matched None None = true
is_matched (Some r) None = not (is_posted r)
is_matched None (Some h) = false
is_matched (Some r) (Some h) = is_posted r && agree r h

abbrev pub request_under : StoredTables → ℕ → Option StoredRequest
request_under t o = row_at request_ordinal t.requests o

abbrev pub posting_under : StoredTables → ℕ → Option StoredPosting
posting_under t o = row_at posting_ordinal t.history o

-- a request that isn't matched by the posting of its ordinal, if there is one
abbrev pub is_odd_request : StoredTables → StoredRequest → Bool
is_odd_request t r = not (is_matched (Some r) (posting_under t r.ordinal))

-- a posting without a request
abbrev pub is_odd_posting : StoredTables → StoredPosting → Bool
is_odd_posting t h = not (is_some (request_under t h.ordinal))

-- the ordinals that aren't matched: those of requests, and then those of postings that have no request
abbrev pub unmatched : StoredTables → List ℕ
unmatched t = map request_ordinal (filter (is_odd_request t) t.requests)
    ++ map posting_ordinal (filter (is_odd_posting t) t.history)

-- ---- the audit

abbrev pub account_balance : StoredAccount → ℤ
account_balance r = r.balance

abbrev pub delta_of : StoredPosting → ℤ
delta_of r = r.delta

-- what an audit says of these rows, and of requests and postings of which it knows so many, what they add up
-- to and how many aren't matched
abbrev pub audit_with : List StoredBranch → List StoredTeller → List StoredAccount
    → (requests history : ℕ) → (deltas : ℤ) → (unmatched : ℕ) → Audit
audit_with branches tellers accounts requests history deltas unmatched = record {
  branches = length branches;
  tellers = length tellers;
  accounts = length accounts;
  requests = requests;
  history = history;
  account_sum = total (map account_balance accounts);
  teller_sum = total (map teller_balance tellers);
  branch_sum = total (map branch_balance branches);
  history_sum = deltas;
  unmatched = unmatched;
  lines = lines_of tellers branches;
}

abbrev pub audit_of : StoredTables → Audit
audit_of t =
    audit_with t.branches t.tellers t.accounts (length t.requests) (length t.history)
    (total (map delta_of t.history)) (length (unmatched t))

-- the four sums are equal, each branch is the sum of its tellers, and each ordinal is matched
abbrev pub is_sound : Audit → Bool
is_sound a =
    int_eq a.teller_sum a.account_sum && int_eq a.branch_sum a.account_sum
    && int_eq a.history_sum a.account_sum && (length a.lines == 0) && (a.unmatched == 0)
