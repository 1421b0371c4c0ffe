-- The tables as a file has them, and the tables of a bank as a file has them.
use Rattle.std.specs.Prelude.{pos, List, map}
use Rattle.message_records.specs.believed.Outcomes.{code_of}
use Rattle.posting_rules.specs.declared.rows.BranchRow.{BranchRow}
use Rattle.posting_rules.specs.declared.rows.TellerRow.{TellerRow}
use Rattle.posting_rules.specs.declared.rows.AccountRow.{AccountRow}
use Rattle.posting_rules.specs.declared.rows.HistoryRow.{HistoryRow}
use Rattle.posting_rules.specs.declared.rows.RequestRow.{RequestRow}
use Rattle.posting_rules.specs.believed.Tables.{Tables}
use Rattle.walked_rows.specs.declared.branches.StoredBranch.{StoredBranch}
use Rattle.walked_rows.specs.declared.tellers.StoredTeller.{StoredTeller}
use Rattle.walked_rows.specs.declared.accounts.StoredAccount.{StoredAccount}
use Rattle.walked_rows.specs.declared.postings.StoredPosting.{StoredPosting}
use Rattle.walked_rows.specs.declared.requests.StoredRequest.{StoredRequest}

pub record StoredTables : Type 0 where
  pub branches : List StoredBranch
  pub tellers : List StoredTeller
  pub accounts : List StoredAccount
  pub history : List StoredPosting
  pub requests : List StoredRequest

-- ---- a bank's tables

abbrev pub branch_stored : BranchRow → StoredBranch
branch_stored r = record { branch = r.branch; accounts = r.accounts; balance = r.balance }

abbrev pub teller_stored : TellerRow → StoredTeller
teller_stored r = record { teller = r.teller; balance = r.balance }

abbrev pub account_stored : AccountRow → StoredAccount
account_stored r = record { account = r.account; balance = r.balance }

abbrev pub posting_stored : HistoryRow → StoredPosting
posting_stored r = record {
  ordinal = r.ordinal;
  account = pos r.account;
  teller = pos r.teller;
  branch = pos r.branch;
  delta = r.delta;
  moment = r.moment;
}

abbrev pub request_stored : RequestRow → StoredRequest
request_stored r = record {
  ordinal = r.ordinal;
  teller = pos r.teller;
  number = pos r.number;
  account = pos r.decision.account;
  branch = pos r.decision.branch;
  delta = r.decision.delta;
  outcome = pos (code_of r.decision.outcome);
  balance = r.decision.balance;
}

abbrev pub stored : Tables → StoredTables
stored t = record {
  branches = map branch_stored t.branches;
  tellers = map teller_stored t.tellers;
  accounts = map account_stored t.accounts;
  history = map posting_stored t.history;
  requests = map request_stored t.requests;
}
