-- What an audit has added up of the rows of five tables.
use Rattle.std.specs.Prelude.{List, [], map, Option}
use Rattle.walked_rows.specs.declared.accounts.StoredAccount.{StoredAccount}
use Rattle.walked_rows.specs.declared.branches.StoredBranch.{StoredBranch}
use Rattle.walked_rows.specs.declared.tellers.StoredTeller.{StoredTeller}
use Rattle.walked_rows.specs.declared.postings.StoredPosting.{StoredPosting}
use Rattle.walked_rows.specs.declared.requests.StoredRequest.{StoredRequest}
use Rattle.walked_rows.specs.declared.joined.Joined.{Joined}
use Rattle.report_contents.specs.Added.{IsSum, HasBeside, HasBranches, HasTellers}
use Rattle.report_contents.specs.Audit.{account_balance}
use Rattle.report_contents.specs.Beside.{AuditRows}
use Rattle.bank_reports.specs.declared.sums.Sums.{Sums}

-- the sums are those of these rows
pub record HasSums (s : Sums) (rows : AuditRows) : Type 0 where
  pub tellers : HasTellers s.tellers rows.tellers
  pub branches : HasBranches s.branches rows.tellers rows.branches
  pub accounts : IsSum s.accounts (map account_balance rows.accounts)
  pub ordinals : HasBeside s.ordinals rows.requests rows.history

-- ---- one kind of row, beside the others

-- the rows with these tellers, before any branch is compared with them
abbrev pub with_tellers : AuditRows → List StoredTeller → AuditRows
with_tellers rows tellers = record rows { tellers = tellers; branches = [] }

abbrev pub with_branches : AuditRows → List StoredBranch → AuditRows
with_branches rows branches = record rows { branches = branches }

abbrev pub with_accounts : AuditRows → List StoredAccount → AuditRows
with_accounts rows accounts = record rows { accounts = accounts }

-- a row and what is beside it
abbrev pub both : {R O : Type 0} → Joined R O → R × Option O
both j = (j.stored, j.beside)

-- the rows with these requests, each with the posting of its ordinal
abbrev pub with_requests : AuditRows → List (Joined StoredRequest StoredPosting) → AuditRows
with_requests rows asked = record rows { requests = map both asked }

-- the rows with these postings, each with the request of its ordinal
abbrev pub with_history : AuditRows → List (Joined StoredPosting StoredRequest) → AuditRows
with_history rows posted = record rows { history = map both posted }

-- all of the rows given were added to the sums
abbrev pub AddsToSums : {R : Type 0} → (AuditRows → List R → AuditRows) → Sums → Sums → List R
    → Type 0
AddsToSums with_rows old new given = (rows : AuditRows) → HasSums old (with_rows rows [])
    → HasSums new (with_rows rows given)
