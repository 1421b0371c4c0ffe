-- What becomes of a record, said case by case in the words of the profile, by what came before it.
use Rattle.std.specs.Prelude.{◌≡◌, ◌≢◌, ◌≤◌, ◌<◌, ◌↔◌, ℕ, ℤ, pos, ◌+ℤ◌, nat_abs, List, ◌∷◌, length, Some}
use Rattle.std.specs.Prelude.{None, Ok, Err, true, false, ◌≤ℤ◌, IfSome}
use Rattle.posting_rules.specs.declared.limits.TheConstants.{MAX_DECIDED}
use Rattle.message_records.specs.declared.limits.TheConstants.{MAX_BALANCE}
use Rattle.message_records.specs.declared.records.Outcome.{Outcome}
use Rattle.message_records.specs.declared.records.Outcome.TheVariants as outcome
use Rattle.message_records.specs.declared.fault.Bad.{Bad}
use Rattle.message_records.specs.believed.Records.{RequestFields, ReplyFields, unreferenced}
use Rattle.message_records.specs.believed.Reading.{request_of}
use Rattle.posting_rules.specs.believed.Commands.{Command, Post, opened, is_teller_open, is_account_open, floor_of}
use Rattle.posting_rules.specs.believed.Closings.{closed, sealed}
use Rattle.posting_rules.specs.believed.Numbering.{branch_of_teller, branch_of_account}
use Rattle.posting_rules.specs.believed.Kept.{KeptFields}
use Rattle.posting_rules.specs.believed.Cases.{balance_shown}
use Rattle.posting_rules.specs.believed.Entries.{DecidedRequest, is_posted, kept, account_balance, teller_balance}
use Rattle.posting_rules.specs.believed.Entries.{branch_balance, decided, malformed_reply, reply}

-- the bytes are this request, and its teller is open
pub record Names (before : List Command) (bytes : List ℕ) (r : RequestFields) : Type 0 where
  pub read : request_of bytes ≡ Ok r
  pub teller : is_teller_open (λ b. opened before b) r.teller ≡ true

-- a record is decided where it names a request, nothing is kept under the teller and number, no closed books
-- decided that number, these books aren't sealed, and there is room
pub record IsDecided (before : List Command) (bytes : List ℕ) (r : RequestFields) : Type 0 where
  pub names : Names before bytes r
  pub new : kept (decided before) r.teller r.number ≡ None
  pub unclosed : closed before r.teller r.number ≡ false
  pub unsealed : sealed before ≡ false
  pub room : length (decided before) < MAX_DECIDED

abbrev pub IsWithin : ℤ → Type 0
IsWithin z = nat_abs z ≤ MAX_BALANCE

-- the account stays at or above the floor of its own branch, where that has one
abbrev pub StaysAbove : List Command → RequestFields → Type 0
StaysAbove before r = IfSome (floor_of (λ b. opened before b) (branch_of_account r.account))
    (λ floor. floor ≤ℤ (account_balance (decided before) r.account +ℤ r.delta))

-- a decided request is posted where the branch is its teller's, its account is open and stays at or above its
-- floor, and the account, the teller and the branch stay within the limit (TPC-B 1.2)
pub record IsPosted (before : List Command) (r : RequestFields) : Type 0 where
  pub branch : r.branch ≡ branch_of_teller r.teller
  pub account : is_account_open (λ b. opened before b) r.account ≡ true
  pub floor : StaysAbove before r
  pub account_limit : IsWithin (account_balance (decided before) r.account +ℤ r.delta)
  pub teller_limit : IsWithin (teller_balance (decided before) r.teller +ℤ r.delta)
  pub branch_limit : IsWithin (branch_balance (decided before) r.branch +ℤ r.delta)

-- ---- which records are decided, and which are posted

-- the record adds this entry to those that are decided
pub record AddsEntry (before : List Command) (moment : ℕ) (bytes : List ℕ) (r : RequestFields)
    (e : DecidedRequest) : Type 0 where
  pub adds : decided (Post moment bytes ∷ before) ≡ e ∷ decided before
  pub at_moment : e.moment ≡ moment
  pub of_request : e.request ≡ r
  pub posted : (is_posted e ≡ true) ↔ IsPosted before r
  -- its outcome and balance are those of the reply, and the balance is zero where the reply has none
  pub replied : reply before bytes ≡ record {
    outcome = e.outcome;
    request = Some (unreferenced r);
    balance = balance_shown e.outcome e.balance;
  }
  pub unposted : (IsPosted before r → ⊥) → e.balance ≡ pos 0

pub record DecidesAsStated (before : List Command) (moment : ℕ) (bytes : List ℕ) : Type 0 where
  pub where_decided : (r : RequestFields) → IsDecided before bytes r
      → (e : DecidedRequest) × AddsEntry before moment bytes r e
  pub otherwise : ((r : RequestFields) → IsDecided before bytes r → ⊥)
      → decided (Post moment bytes ∷ before) ≡ decided before

-- ---- the reply, by the first case that applies; it shows the request without its reference

abbrev pub refusal : Outcome → RequestFields → ReplyFields
refusal outcome r = record { outcome = outcome; request = Some (unreferenced r); balance = None }

-- the kept request has this content
pub record HasContent (k : KeptFields) (r : RequestFields) : Type 0 where
  pub account : k.decision.account ≡ r.account
  pub branch : k.decision.branch ≡ r.branch
  pub delta : k.decision.delta ≡ r.delta
  -- it has the same one, or neither has one
  pub reference : k.reference ≡ r.reference

pub record RepliesAsStated (before : List Command) (bytes : List ℕ) : Type 0 where
  pub malformed : (fault : Bad) → request_of bytes ≡ Err fault → reply before bytes ≡ malformed_reply
  pub no_teller : (r : RequestFields) → request_of bytes ≡ Ok r
      → is_teller_open (λ b. opened before b) r.teller ≡ false
      → reply before bytes ≡ refusal outcome.NoTeller r
  pub again : (r : RequestFields) (k : KeptFields) → Names before bytes r
      → kept (decided before) r.teller r.number ≡ Some k → HasContent k r
      → reply before bytes ≡ record {
        outcome = k.decision.outcome;
        request = Some (unreferenced r);
        balance = balance_shown k.decision.outcome k.decision.balance;
      }
  pub reused_number : (r : RequestFields) (k : KeptFields) → Names before bytes r
      → kept (decided before) r.teller r.number ≡ Some k → (HasContent k r → ⊥)
      → reply before bytes ≡ refusal outcome.ReusedNumber r
  pub closed_number : (r : RequestFields) → Names before bytes r → kept (decided before) r.teller r.number ≡ None
      → closed before r.teller r.number ≡ true
      → reply before bytes ≡ refusal outcome.Closed r
  pub sealed_books : (r : RequestFields) → Names before bytes r → kept (decided before) r.teller r.number ≡ None
      → closed before r.teller r.number ≡ false → sealed before ≡ true
      → reply before bytes ≡ refusal outcome.Sealed r
  pub full : (r : RequestFields) → Names before bytes r → kept (decided before) r.teller r.number ≡ None
      → closed before r.teller r.number ≡ false → sealed before ≡ false
      → MAX_DECIDED ≤ length (decided before)
      → reply before bytes ≡ refusal outcome.Full r
  pub wrong_branch : (r : RequestFields) → IsDecided before bytes r → r.branch ≢ branch_of_teller r.teller
      → reply before bytes ≡ refusal outcome.WrongBranch r
  pub no_account : (r : RequestFields) → IsDecided before bytes r → r.branch ≡ branch_of_teller r.teller
      → is_account_open (λ b. opened before b) r.account ≡ false
      → reply before bytes ≡ refusal outcome.NoAccount r
  pub below_floor : (r : RequestFields) → IsDecided before bytes r → r.branch ≡ branch_of_teller r.teller
      → is_account_open (λ b. opened before b) r.account ≡ true
      → (StaysAbove before r → ⊥) → reply before bytes ≡ refusal outcome.BelowFloor r
  pub over_limit : (r : RequestFields) → IsDecided before bytes r → r.branch ≡ branch_of_teller r.teller
      → is_account_open (λ b. opened before b) r.account ≡ true → StaysAbove before r
      → (IsPosted before r → ⊥) → reply before bytes ≡ refusal outcome.OverLimit r
  pub posted : (r : RequestFields) → IsDecided before bytes r → IsPosted before r
      → reply before bytes ≡ record {
        outcome = outcome.Posted;
        request = Some (unreferenced r);
        balance = Some (account_balance (decided before) r.account +ℤ r.delta);
      }

-- of every record after every log
abbrev pub DecidedAsStated : Type 0
DecidedAsStated = (before : List Command) (moment : ℕ) (bytes : List ℕ) → DecidesAsStated before moment bytes

abbrev pub RepliedAsStated : Type 0
RepliedAsStated = (before : List Command) (bytes : List ℕ) → RepliesAsStated before bytes
