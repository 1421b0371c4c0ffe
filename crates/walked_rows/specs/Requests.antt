-- The request in a kept row, the reply that it got, and when it was posted.
use Rattle.std.specs.Prelude.{◌≡◌, ◌≤◌, ℕ, ℤ, pos, nat_abs, true, Option, Some, None, option_map}
use Rattle.std.specs.Prelude.{unwrap_or}
use Rattle.message_records.specs.declared.limits.TheConstants.{MAX_ACCOUNT, MAX_BALANCE, MAX_BRANCH, MAX_DELTA}
use Rattle.message_records.specs.declared.limits.TheConstants.{MAX_NUMBER, MAX_TELLER}
use Rattle.message_records.specs.declared.records.Outcome.{Outcome}
use Rattle.message_records.specs.declared.records.Outcome.TheVariants.{Malformed}
use Rattle.message_records.specs.believed.Outcomes.{code_of, outcome_with}
use Rattle.message_records.specs.believed.Records.{ReplyFields, RequestFields, unreferenced}
use Rattle.posting_rules.specs.believed.Cases.{balance_shown}
use Rattle.posting_rules.specs.believed.Kept.{is_kept}
use Rattle.sql_meanings.specs.believed.Entries.{Entry}
use Rattle.store_rows.specs.believed.Columns.{number_at}
use Rattle.walked_rows.specs.KeptRows.{IsOrdinal, KeptItem}
use Rattle.walked_rows.specs.References.{text_after}

-- ---- in a kept row: the numbers of `request`, the reference and the row of `history` under its ordinal

abbrev pub request_in : KeptItem → RequestFields
request_in k = record {
  account = nat_abs (number_at 2 k.entry);
  teller = nat_abs (number_at 0 k.entry);
  branch = nat_abs (number_at 3 k.entry);
  number = nat_abs (number_at 1 k.entry);
  delta = number_at 4 k.entry;
  reference = option_map text_after k.reference;
}

abbrev pub outcome_in : KeptItem → Outcome
outcome_in k = unwrap_or (outcome_with (nat_abs (number_at 5 k.entry))) Malformed

abbrev pub reply_in : KeptItem → ReplyFields
reply_in k = record {
  outcome = outcome_in k;
  request = Some (unreferenced (request_in k));
  balance = balance_shown (outcome_in k) (number_at 6 k.entry);
}

abbrev pub moment_under : Option Entry → ℕ
moment_under None = 0
moment_under (Some posting) = nat_abs (number_at 4 posting)

-- ---- whether it is one

-- a number that is from least to most
abbrev pub IsFrom : ℕ → ℕ → ℤ → Type 0
IsFrom least most z = (n : ℕ) × (z ≡ pos n) × (least ≤ n) × (n ≤ most)

-- the code of an outcome that is kept
abbrev pub IsKeptCode : ℤ → Type 0
IsKeptCode z = (o : Outcome) × (z ≡ pos (code_of o)) × (is_kept o ≡ true)

-- each number of the row is in the range of its field
pub record IsRequestRow (k : KeptItem) : Type 0 where
  pub account : IsFrom 1 MAX_ACCOUNT (number_at 2 k.entry)
  pub teller : IsFrom 1 MAX_TELLER (number_at 0 k.entry)
  pub branch : IsFrom 1 MAX_BRANCH (number_at 3 k.entry)
  pub number : IsFrom 1 MAX_NUMBER (number_at 1 k.entry)
  pub delta : nat_abs (number_at 4 k.entry) ≤ MAX_DELTA

-- its outcome is one that is kept, and where it was posted its balance is in its range
pub record IsReplyRow (k : KeptItem) : Type 0 where
  pub outcome : IsKeptCode (number_at 5 k.entry)
  pub balance : number_at 5 k.entry ≡ pos 0 → nat_abs (number_at 6 k.entry) ≤ MAX_BALANCE

-- it has a request and its reply
abbrev pub IsAnsweredRow : KeptItem → Type 0
IsAnsweredRow k = IsRequestRow k × IsReplyRow k

-- its ordinal is one, and its numbers are those of no request that is answered
abbrev pub IsNoRequest : KeptItem → Type 0
IsNoRequest k = IsOrdinal k.entry.key × (IsAnsweredRow k → ⊥)
