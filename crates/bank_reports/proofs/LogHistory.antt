-- The history of a log as a list, and balances on the way to it.
use Rattle.std.proofs.Common.{◌≡◌, ◌&&◌, ◌<◌, ◌≤◌, ◌+◌, ◌++◌, ℕ, Bool, true, false, cond, eqb, List, [], ◌∷◌, length}
use Rattle.std.proofs.Common.{Option, Some, Result, Ok, Err, refl, ap, ◌∙◌, arith}
use Rattle.std.specs.Prelude.{nat_abs, if◌then◌else◌}
use Rattle.std.specs.List.{AllByRecursion}
use Rattle.message_records.specs.{declared.limits.TheConstants.MAX_BALANCE, declared.fault.Bad.Bad}
use Rattle.message_records.specs.{believed.Records.RequestFields, believed.Reading.request_of}
use Rattle.posting_rules.specs.declared.{rows.HistoryRow.HistoryRow, judgments.Verdict.Verdict}
use Rattle.posting_rules.specs.declared.judgments.Verdict.TheVariants.{Unkept, Again, Refused, Posted}
use Rattle.posting_rules.specs.believed.Commands.{Command, Open, Post, Close, opened, Terms}
use Rattle.posting_rules.specs.believed.Cases.{case_of}
use Rattle.posting_rules.specs.believed.Entries.{DecidedRequest, is_posted, facts, account_balance, with_verdict}
use Rattle.posting_rules.specs.believed.Entries.{with_record, decided}
use Rattle.posting_rules.specs.believed.Tables.{row_at, history_key, history_row, history_row_of}
use Rattle.posting_rules.proofs.BalanceLimits.{stays_within}
use Rattle.sql_meanings.proofs.Places.{all_weaker}
use Rattle.walked_rows.proofs.RisingRows.{Rising, all-append, rising_more, under_next}
use Rattle.posting_rules.specs.declared.rows.ClosingRow.{ClosingRow}
use Rattle.posting_rules.specs.believed.Closings.{closings}

-- the postings of decided requests, the oldest first
abbrev pub postings_of : List DecidedRequest → List HistoryRow
postings_of [] = []
postings_of (e ∷ es) = if is_posted e then postings_of es ++ history_row_of (length es + 1) e
    ∷ [] else postings_of es

below : (es : List DecidedRequest) → AllByRecursion (λ r. history_key r < length es + 1) (postings_of es)
below [] = tt
below (e ∷ es) = last (is_posted e)
    (all_weaker (λ r. history_key r < length es + 1) (λ r. history_key r < length (e ∷ es) + 1)
    (λ r low. omega (arith, low)) (postings_of es) (below es))
  where
    last : (b : Bool) → AllByRecursion (λ r. history_key r < length (e ∷ es) + 1) (postings_of es)
        → AllByRecursion (λ r. history_key r < length (e ∷ es) + 1)
        (cond b (postings_of es ++ history_row_of (length es + 1) e ∷ []) (postings_of es))
    last true earlier = all-append (λ r. history_key r < length (e ∷ es) + 1) (postings_of es)
        (history_row_of (length es + 1) e ∷ []) earlier (omega arith, tt)
    last false earlier = earlier

pub postings_rise : (es : List DecidedRequest) → Rising history_key (postings_of es)
postings_rise [] = tt
postings_rise (e ∷ es) = last (is_posted e) (postings_rise es)
  where
    last : (b : Bool) → Rising history_key (postings_of es)
        → Rising history_key
        (cond b (postings_of es ++ history_row_of (length es + 1) e ∷ []) (postings_of es))
    last true rise = rising_more history_key (postings_of es) (history_row_of (length es + 1) e) rise (below es)
    last false rise = rise

-- under each ordinal stands what the log has there
pub postings_under : (es : List DecidedRequest) (o : ℕ) → row_at history_key (postings_of es) o
    ≡ history_row es o
postings_under [] o = refl
postings_under (e ∷ es) o = last (is_posted e) (postings_under es o)
  where
    last : (b : Bool) → row_at history_key (postings_of es) o ≡ history_row es o
        → row_at history_key
        (cond b (postings_of es ++ history_row_of (length es + 1) e ∷ []) (postings_of es)) o
        ≡ cond (b && eqb (length es + 1) o) (Some (history_row_of o e)) (history_row es o)
    last true earlier =
        under_next history_key (postings_of es) (λ n. history_row_of n e) (length es + 1) refl (below es) o
        ∙ ap (λ x. cond (eqb (length es + 1) o) (Some (history_row_of o e)) x) earlier
    last false earlier = earlier

-- ---- balances

-- after each of the requests the account's balance is within the limit
abbrev pub EachWithin : ℕ → List DecidedRequest → Type 0
EachWithin a [] = Unit {0}
EachWithin a (e ∷ es) = (nat_abs (account_balance (e ∷ es) a) ≤ MAX_BALANCE) × EachWithin a es

within_verdict : (a m : ℕ) (r : RequestFields) (v : Verdict) (es : List DecidedRequest)
    → nat_abs (account_balance (with_verdict m r v es) a) ≤ MAX_BALANCE
    → EachWithin a es → EachWithin a (with_verdict m r v es)
within_verdict a m r (Unkept o) es now before = before
within_verdict a m r (Again x) es now before = before
within_verdict a m r (Refused o) es now before = (now, before)
within_verdict a m r (Posted x t b) es now before = (now, before)

within_record : (a m : ℕ) (read : Result RequestFields Bad) (opened : ℕ → Option Terms)
    (runs : List ClosingRow) (es : List DecidedRequest)
    → nat_abs (account_balance (with_record m read opened runs es) a) ≤ MAX_BALANCE → EachWithin a es
    → EachWithin a (with_record m read opened runs es)
within_record a m (Err fault) opened runs es now before = before
within_record a m (Ok r) opened runs es now before =
    within_verdict a m r (case_of (facts opened runs es r) r) es now before

pub each_within : (log : List Command) (a : ℕ) → EachWithin a (decided log)
each_within [] a = tt
each_within (Open b count ∷ log) a = each_within log a
each_within (Close first last ∷ log) a = each_within log a
each_within (Post m bytes ∷ log) a =
    within_record a m (request_of bytes) (λ b. opened log b) (closings log) (decided log)
    ((stays_within (Post m bytes ∷ log)).accounts a) (each_within log a)
