-- What becomes of a request, by what is known where it comes in: the first case that applies.
use Rattle.std.specs.Prelude.{ℕ, ℤ, ◌+ℤ◌, List, Option, Some, None, Bool, true, false, ◌==◌, ◌&&◌, nat_le}
use Rattle.std.specs.Prelude.{if◌then◌else◌, int_lt}
use Rattle.std.specs.Str.{bytes_eq}
use Rattle.std.specs.Ordering.{int_eq}
use Rattle.posting_rules.specs.declared.limits.TheConstants.{MAX_DECIDED}
use Rattle.message_records.specs.declared.limits.TheConstants.{MAX_BALANCE}
use Rattle.message_records.specs.declared.records.Outcome.{Outcome}
use Rattle.message_records.specs.declared.records.Outcome.TheVariants as outcome
use Rattle.message_records.specs.believed.Ranges.{cents_within}
use Rattle.message_records.specs.believed.Records.{RequestFields, ReplyFields, unreferenced}
use Rattle.posting_rules.specs.declared.judgments.Books.{Books}
use Rattle.posting_rules.specs.declared.judgments.Books.TheVariants.{Current, Closed, Sealed}
use Rattle.posting_rules.specs.declared.judgments.Found.{Found}
use Rattle.posting_rules.specs.declared.judgments.Verdict.{Verdict}
use Rattle.posting_rules.specs.declared.judgments.Verdict.TheVariants.{Unkept, Again, Refused, Posted}
use Rattle.posting_rules.specs.believed.Numbering.{branch_of_teller}
use Rattle.posting_rules.specs.believed.Kept.{KeptFields}

-- one reference, or none on either side
abbrev pub is_same_reference : Option (List ℕ) → Option (List ℕ) → Bool
is_same_reference None None = true
is_same_reference (Some one) (Some other) = bytes_eq one other
is_same_reference _ _ = false

-- the kept request has the content of this one
abbrev pub is_same : KeptFields → RequestFields → Bool
is_same k r =
    (k.decision.account == r.account) && ((k.decision.branch == r.branch) && (int_eq k.decision.delta r.delta
    && is_same_reference k.reference r.reference))

abbrev pub balance_shown : Outcome → ℤ → Option ℤ
balance_shown outcome.Posted z = Some z
balance_shown _ z = None

-- the reply that the kept request got
abbrev pub kept_reply : KeptFields → RequestFields → ReplyFields
kept_reply k r = record {
  outcome = k.decision.outcome;
  request = Some (unreferenced r);
  balance = balance_shown k.decision.outcome k.decision.balance;
}

-- a balance with an amount added, where it stays within the limit (TPC-B 1.2)
abbrev pub plus_within : ℤ → ℤ → Option ℤ
plus_within balance delta = cents_within MAX_BALANCE (balance +ℤ delta)

abbrev pub posting_of : Option ℤ → Option ℤ → Option ℤ → Verdict
posting_of (Some account) (Some teller) (Some branch) = Posted account teller branch
posting_of _ _ _ = Refused outcome.OverLimit

-- a balance is below the floor, where there is one
abbrev pub is_below : Option ℤ → ℤ → Bool
is_below None balance = false
is_below (Some floor) balance = int_lt balance floor

abbrev pub account_case : Option ℤ → Option ℤ → ℤ → ℤ → ℤ → Verdict
account_case None floor teller branch delta = Refused outcome.NoAccount
account_case (Some account) floor teller branch delta =
    if is_below floor (account +ℤ delta) then Refused outcome.BelowFloor
    else posting_of (plus_within account delta) (plus_within teller delta) (plus_within branch delta)

abbrev pub new_case : Found → RequestFields → ℤ → ℤ → Verdict
new_case f r teller branch =
    if nat_le MAX_DECIDED f.decided then Unkept outcome.Full
    else if r.branch == branch_of_teller r.teller then account_case f.account f.floor teller branch r.delta
    else Refused outcome.WrongBranch

-- closed books have decided it, or these books decide nothing more
abbrev pub books_case : Books → Found → RequestFields → ℤ → ℤ → Verdict
books_case Closed f r teller branch = Unkept outcome.Closed
books_case Sealed f r teller branch = Unkept outcome.Sealed
books_case Current f r teller branch = new_case f r teller branch

abbrev pub known_case : Option KeptFields → Found → RequestFields → ℤ → ℤ → Verdict
known_case None f r teller branch = books_case f.books f r teller branch
known_case (Some k) f r teller branch = if is_same k r then Again
    (kept_reply k r) else Unkept outcome.ReusedNumber

abbrev pub teller_case : Option (ℤ × ℤ) → Found → RequestFields → Verdict
teller_case None f r = Unkept outcome.NoTeller
teller_case (Some balances) f r = known_case f.kept f r balances.0 balances.1

unfoldable pub case_of : Found → RequestFields → Verdict
case_of f r = teller_case f.teller f r

-- the reply in each case; it shows the request without its reference
abbrev pub reply_in : Verdict → RequestFields → ReplyFields
reply_in (Unkept outcome) r = record { outcome = outcome; request = Some (unreferenced r); balance = None }
reply_in (Again first) r = first
reply_in (Refused outcome) r = record { outcome = outcome; request = Some (unreferenced r); balance = None }
reply_in (Posted account teller branch) r = record {
  outcome = outcome.Posted;
  request = Some (unreferenced r);
  balance = Some account;
}
