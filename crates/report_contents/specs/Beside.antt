-- The rows that an audit is given, each request and each posting with what is beside it, and the audit of
-- these.
use Rattle.std.specs.Prelude.{◌≡◌, ℤ, ◌+◌, Bool, not, List, [], length, map, filter, Option, Some, is_some}
use Rattle.posting_rules.specs.believed.Laws.{total}
use Rattle.walked_rows.specs.declared.branches.StoredBranch.{StoredBranch}
use Rattle.walked_rows.specs.declared.tellers.StoredTeller.{StoredTeller}
use Rattle.walked_rows.specs.declared.accounts.StoredAccount.{StoredAccount}
use Rattle.walked_rows.specs.declared.postings.StoredPosting.{StoredPosting}
use Rattle.walked_rows.specs.declared.requests.StoredRequest.{StoredRequest}
use Rattle.report_contents.specs.declared.audit.Audit.{Audit}
use Rattle.report_contents.specs.Stored.{StoredTables}
use Rattle.report_contents.specs.Audit.{audit_of, audit_with, is_matched, request_under, posting_under}

pub record AuditRows : Type 0 where
  pub tellers : List StoredTeller
  pub branches : List StoredBranch
  pub accounts : List StoredAccount
  -- each with the posting of its ordinal, if there is one
  pub requests : List (StoredRequest × Option StoredPosting)
  -- each with the request of its ordinal, if there is one
  pub history : List (StoredPosting × Option StoredRequest)

abbrev pub no_rows : AuditRows
no_rows = record { tellers = []; branches = []; accounts = []; requests = []; history = [] }

-- a request that isn't matched by its posting
abbrev pub is_odd : StoredRequest × Option StoredPosting → Bool
is_odd p = not (is_matched (Some p.0) p.1)

-- a posting without a request
abbrev pub is_alone : StoredPosting × Option StoredRequest → Bool
is_alone p = not (is_some p.1)

abbrev pub delta_in : StoredPosting × Option StoredRequest → ℤ
delta_in p = p.0.delta

abbrev pub audit_of_rows : AuditRows → Audit
audit_of_rows g =
    audit_with g.branches g.tellers g.accounts (length g.requests) (length g.history)
    (total (map delta_in g.history))
    (length (filter is_odd g.requests) + length (filter is_alone g.history))

-- the rows of tables, each beside the other of its ordinal
abbrev pub rows_of : StoredTables → AuditRows
rows_of t = record {
  tellers = t.tellers;
  branches = t.branches;
  accounts = t.accounts;
  requests = map (λ r. (r, posting_under t r.ordinal)) t.requests;
  history = map (λ h. (h, request_under t h.ordinal)) t.history;
}

-- the audit of the rows of tables is the audit of the tables
abbrev pub RowsTellOfTables : Type 0
RowsTellOfTables = (t : StoredTables) → audit_of_rows (rows_of t) ≡ audit_of t
