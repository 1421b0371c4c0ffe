-- What a reply holds, and which values of types stand for requests and replies.
use Rattle.std.specs.Prelude.{ℕ, ℤ, ◌≡◌, ◌≤◌, nat_le, nat_abs, Bool, true, false, is_some, not, ◌&&◌, Option}
use Rattle.std.specs.Prelude.{Some, None, IfSome, if◌then◌else◌, IsTrue, List, length}
use Rattle.std.specs.Option.{option_map}
use Rattle.message_records.specs.declared.records.Outcome.{Outcome}
use Rattle.message_records.specs.declared.limits.TheConstants.{MAX_ACCOUNT, MAX_TELLER, MAX_BRANCH}
use Rattle.message_records.specs.declared.limits.TheConstants.{MAX_NUMBER, MAX_BALANCE, MAX_DELTA, REFERENCE_BYTES}
use Rattle.message_records.specs.believed.Outcomes.{has_balance}
use Rattle.message_records.specs.Outcomes.{has_request}
use Rattle.message_records.specs.believed.Records.{ReplyFields, RequestFields, is_printable, unreferenced}

-- what a request may be referred to by: so many printable bytes
abbrev pub IsReference : List ℕ → Type 0
IsReference text = (length text ≡ REFERENCE_BYTES) × IsTrue (is_printable text)

-- each field is in its range
pub record IsRequest (r : RequestFields) : Type 0 where
  pub account_above : 1 ≤ r.account
  pub account : r.account ≤ MAX_ACCOUNT
  pub teller_above : 1 ≤ r.teller
  pub teller : r.teller ≤ MAX_TELLER
  pub branch_above : 1 ≤ r.branch
  pub branch : r.branch ≤ MAX_BRANCH
  pub number_above : 1 ≤ r.number
  pub number : r.number ≤ MAX_NUMBER
  pub delta : nat_abs r.delta ≤ MAX_DELTA
  pub reference : IfSome r.reference IsReference

-- the request of these fields, where the amount is within its limit
abbrev pub request_from : ℕ → ℕ → ℕ → ℕ → ℤ → Option (List ℕ) → Option RequestFields
request_from account teller branch number delta reference =
    if nat_le (nat_abs delta) MAX_DELTA then Some (record {
      account = account;
      teller = teller;
      branch = branch;
      number = number;
      delta = delta;
      reference = reference;
    }) else None

-- a request in its ranges, as a reply shows it
abbrev pub IsShownRequest : RequestFields → Type 0
IsShownRequest r = IsRequest r × (unreferenced r ≡ r)

-- it shows a request and a balance just where its outcome has them, each in its range
pub record IsReply (r : ReplyFields) : Type 0 where
  pub shows_request : is_some r.request ≡ has_request r.outcome
  pub request : IfSome r.request IsShownRequest
  pub shows_balance : is_some r.balance ≡ has_balance r.outcome
  pub balance : IfSome r.balance (λ z. nat_abs z ≤ MAX_BALANCE)

-- two tests with one answer
abbrev pub agree : Bool → Bool → Bool
agree true b = b
agree false b = not b

-- the reply of these parts, where they belong together; it shows the request without its reference
abbrev pub reply_from : Outcome → Option RequestFields → Option ℤ → Option ReplyFields
reply_from outcome request balance =
    if (agree (is_some request) (has_request outcome) && agree (is_some balance) (has_balance outcome))
    then Some (record { outcome = outcome; request = option_map unreferenced request; balance = balance })
    else None
