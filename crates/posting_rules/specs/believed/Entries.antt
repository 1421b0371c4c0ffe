-- Which requests of a log are decided, the balances that they lead to, and the reply to each record.
use Rattle.std.specs.Prelude.{ℕ, ℤ, pos, ◌+ℤ◌, List, [], ◌∷◌, length, Option, Some, None, Result, Ok, Err}
use Rattle.std.specs.Prelude.{Bool, ◌==◌, ◌&&◌, if◌then◌else◌}
use Rattle.std.specs.List.{find}
use Rattle.std.specs.Option.{option_map}
use Rattle.message_records.specs.declared.records.Outcome.{Outcome}
use Rattle.message_records.specs.declared.records.Outcome.TheVariants as outcome
use Rattle.message_records.specs.declared.fault.Bad.{Bad}
use Rattle.message_records.specs.believed.Outcomes.{has_balance}
use Rattle.message_records.specs.believed.Records.{RequestFields, ReplyFields}
use Rattle.message_records.specs.believed.Reading.{request_of}
use Rattle.posting_rules.specs.declared.judgments.Found.{Found}
use Rattle.posting_rules.specs.declared.judgments.Verdict.{Verdict}
use Rattle.posting_rules.specs.declared.judgments.Verdict.TheVariants.{Unkept, Again, Refused, Posted}
use Rattle.posting_rules.specs.declared.rows.ClosingRow.{ClosingRow}
use Rattle.posting_rules.specs.believed.Commands.{Command, Open, Post, Close, opened, is_teller_open, Terms}
use Rattle.posting_rules.specs.believed.Commands.{is_account_open, floor_of}
use Rattle.posting_rules.specs.believed.Closings.{closings, books_of}
use Rattle.posting_rules.specs.believed.Numbering.{branch_of_teller, branch_of_account}
use Rattle.posting_rules.specs.believed.Kept.{DecisionFields, KeptFields}
use Rattle.posting_rules.specs.believed.Cases.{case_of, reply_in}

-- A decided request. The balance is the account's new one where the request was posted, and zero elsewhere.
pub record DecidedRequest : Type 0 where
  pub moment : ℕ
  pub request : RequestFields
  pub outcome : Outcome
  pub balance : ℤ

abbrev pub is_posted : DecidedRequest → Bool
is_posted e = has_balance e.outcome

-- the sum of what was posted by the requests that pass a test
abbrev pub posted_sum : (RequestFields → Bool) → List DecidedRequest → ℤ
posted_sum test [] = pos 0
posted_sum test (e ∷ es) = if (is_posted e && test e.request) then posted_sum test es +ℤ e.request.delta
    else posted_sum test es

-- the balance of an account, a teller and a branch: all that was posted to it (TPC-B 1.2), and nothing that is
-- carried along
abbrev pub account_balance : List DecidedRequest → ℕ → ℤ
account_balance es a = posted_sum (λ r. r.account == a) es

abbrev pub teller_balance : List DecidedRequest → ℕ → ℤ
teller_balance es t = posted_sum (λ r. r.teller == t) es

abbrev pub branch_balance : List DecidedRequest → ℕ → ℤ
branch_balance es b = posted_sum (λ r. r.branch == b) es

abbrev pub decision_of : DecidedRequest → DecisionFields
decision_of e = record {
  account = e.request.account;
  branch = e.request.branch;
  delta = e.request.delta;
  outcome = e.outcome;
  balance = e.balance;
}

abbrev pub kept_fields : DecidedRequest → KeptFields
kept_fields e = record { decision = decision_of e; reference = e.request.reference }

-- the request that is kept under a teller and a number
abbrev pub kept : List DecidedRequest → ℕ → ℕ → Option KeptFields
kept es t n = option_map kept_fields (find (λ e. (e.request.teller == t) && (e.request.number == n)) es)

-- what is known where a request comes in
abbrev pub facts : (ℕ → Option Terms) → List ClosingRow → List DecidedRequest → RequestFields → Found
facts opened runs es r = record {
  teller = if is_teller_open opened r.teller then Some
      (teller_balance es r.teller, branch_balance es (branch_of_teller r.teller)) else None;
  kept = kept es r.teller r.number;
  books = books_of runs r.teller r.number;
  decided = length es;
  account = if is_account_open opened r.account then Some (account_balance es r.account) else None;
  floor = floor_of opened (branch_of_account r.account);
}

abbrev pub refused_entry : ℕ → RequestFields → Outcome → DecidedRequest
refused_entry moment r outcome = record { moment = moment; request = r; outcome = outcome; balance = pos 0 }

abbrev pub posted_entry : ℕ → RequestFields → ℤ → DecidedRequest
posted_entry moment r balance = record (refused_entry moment r outcome.Posted) { balance = balance }

-- the decided requests, with this one where it is decided now
abbrev pub with_verdict : ℕ → RequestFields → Verdict → List DecidedRequest → List DecidedRequest
with_verdict moment r (Unkept outcome) es = es
with_verdict moment r (Again first) es = es
with_verdict moment r (Refused outcome) es = refused_entry moment r outcome ∷ es
with_verdict moment r (Posted account teller branch) es = posted_entry moment r account ∷ es

abbrev pub with_record : ℕ → Result RequestFields Bad → (ℕ → Option Terms) → List ClosingRow
    → List DecidedRequest → List DecidedRequest
with_record moment (Err fault) opened runs es = es
with_record moment (Ok r) opened runs es = with_verdict moment r (case_of (facts opened runs es r) r) es

-- the decided requests of a log, the newest first
abbrev pub decided : List Command → List DecidedRequest
decided [] = []
decided (Open branch terms ∷ log) = decided log
decided (Post moment bytes ∷ log) =
    with_record moment (request_of bytes) (λ b. opened log b) (closings log) (decided log)
decided (Close first last ∷ log) = decided log

abbrev pub malformed_reply : ReplyFields
malformed_reply = record { outcome = outcome.Malformed; request = None; balance = None }

abbrev pub reply_given : Result RequestFields Bad → (ℕ → Option Terms) → List ClosingRow → List DecidedRequest
    → ReplyFields
reply_given (Err fault) opened runs es = malformed_reply
reply_given (Ok r) opened runs es = reply_in (case_of (facts opened runs es r) r) r

-- the reply to a record after a log
abbrev pub reply : List Command → List ℕ → ReplyFields
reply log bytes = reply_given (request_of bytes) (λ b. opened log b) (closings log) (decided log)

-- the balance of an open account after a log
abbrev pub balance_after : List Command → ℕ → Option ℤ
balance_after log a = if is_account_open (λ b. opened log b) a then Some
    (account_balance (decided log) a) else None
