-- The four ways in which a reply is settled: what is settled is replied so, and nothing is decided.
use Rattle.std.proofs.Common.{◌≡◌, ℕ, Bool, true, false, cond, leb, List, length, Option, Some, None, Ok, refl, sym}
use Rattle.std.proofs.Common.{ap, ◌∙◌, inl, inr}
use Rattle.std.specs.Prelude.{ℤ, ◌⊎◌}
use Rattle.posting_rules.specs.declared.limits.TheConstants.{MAX_DECIDED}
use Rattle.message_records.specs.declared.records.Outcome.TheVariants as outcome
use Rattle.message_records.specs.believed.Records.{RequestFields, ReplyFields}
use Rattle.posting_rules.specs.{declared.judgments.Found.Found, declared.judgments.Verdict.Verdict}
use Rattle.posting_rules.specs.{believed.Kept.KeptFields, believed.Numbering.branch_of_teller}
use Rattle.posting_rules.specs.declared.judgments.Verdict.TheVariants.{Unkept, Again}
use Rattle.posting_rules.specs.believed.Commands.{opened, is_teller_open, Terms}
use Rattle.posting_rules.specs.believed.Cases.{case_of, teller_case, known_case, books_case, new_case, is_same}
use Rattle.posting_rules.specs.believed.Cases.{reply_in}
use Rattle.posting_rules.specs.believed.Closings.{books_of}
use Rattle.posting_rules.specs.declared.judgments.Books.{Books}
use Rattle.posting_rules.specs.declared.judgments.Books.TheVariants.{Current, Closed, Sealed}
use Rattle.message_records.specs.declared.records.Outcome.{Outcome}
use Rattle.posting_rules.specs.believed.Cases.{kept_reply}
use Rattle.posting_rules.specs.believed.Entries.{DecidedRequest, facts, kept, teller_balance, branch_balance}
use Rattle.posting_rules.specs.believed.Entries.{with_verdict, with_record, reply_given}
use Rattle.posting_rules.proofs.Keyed.{by_test}
use Rattle.posting_rules.specs.declared.rows.ClosingRow.{ClosingRow}

-- the verdict on a request under whose teller and number one is kept
abbrev known_verdict : KeptFields → RequestFields → Verdict
known_verdict k r = cond (is_same k r) (Again (kept_reply k r)) (Unkept outcome.ReusedNumber)

-- ---- the four ways in which a reply is settled

-- the teller isn't open
pub record IsClosed (opened : ℕ → Option Terms) (r : RequestFields) (out : ReplyFields) : Type 0 where
  pub teller : is_teller_open opened r.teller ≡ false
  pub is_reply : out ≡ reply_in (Unkept outcome.NoTeller) r

-- a request is kept under the teller and number
pub record IsKnown (opened : ℕ → Option Terms) (es : List DecidedRequest) (r : RequestFields)
    (out : ReplyFields) : Type 0 where
  pub teller : is_teller_open opened r.teller ≡ true
  pub fields : KeptFields
  pub is_kept : kept es r.teller r.number ≡ Some fields
  pub is_reply : out ≡ reply_in (known_verdict fields r) r

-- the outcome with which closed books refuse a number
abbrev pub barred_by : Books → Option Outcome
barred_by Closed = Some outcome.Closed
barred_by Sealed = Some outcome.Sealed
barred_by Current = None

-- closed books refuse it
pub record IsBarred (opened : ℕ → Option Terms) (runs : List ClosingRow) (es : List DecidedRequest)
    (r : RequestFields) (out : ReplyFields) : Type 0 where
  pub teller : is_teller_open opened r.teller ≡ true
  pub none : kept es r.teller r.number ≡ None
  pub outcome : Outcome
  pub barred : barred_by (books_of runs r.teller r.number) ≡ Some outcome
  pub is_reply : out ≡ reply_in (Unkept outcome) r

-- no more requests are decided
pub record IsFull (opened : ℕ → Option Terms) (runs : List ClosingRow) (es : List DecidedRequest)
    (r : RequestFields) (out : ReplyFields) : Type 0 where
  pub teller : is_teller_open opened r.teller ≡ true
  pub none : kept es r.teller r.number ≡ None
  pub current : books_of runs r.teller r.number ≡ Current
  pub full : leb MAX_DECIDED (length es) ≡ true
  pub is_reply : out ≡ reply_in (Unkept outcome.Full) r

abbrev pub IsSettled : (ℕ → Option Terms) → List ClosingRow → List DecidedRequest → RequestFields → ReplyFields → Type 0
IsSettled opened runs es r out =
    IsClosed opened r out ⊎ IsKnown opened es r out ⊎ IsFull opened runs es r out ⊎ IsBarred opened runs es r out

-- ---- what is settled is replied so, and nothing is decided

abbrev SaysSame : (ℕ → Option Terms) → List ClosingRow → List DecidedRequest → RequestFields → ReplyFields → Type 0
SaysSame opened runs es r out = (reply_given (Ok r) opened runs es ≡ out) × ((m : ℕ) → with_record m (Ok r) opened runs es ≡ es)

by_verdict : (opened : ℕ → Option Terms) (runs : List ClosingRow) (es : List DecidedRequest) (r : RequestFields) (out : ReplyFields)
    (v : Verdict)
    → case_of (facts opened runs es r) r ≡ v → reply_in v r ≡ out
    → ((m : ℕ) → with_verdict m r v es ≡ es) → SaysSame opened runs es r out
by_verdict opened runs es r out v e eo ed =
    (ap (λ (x : Verdict). reply_in x r) e ∙ eo, λ m. ap (λ (x : Verdict). with_verdict m r x es) e ∙ ed m)

-- a known request decides nothing
known_same : (k : KeptFields) (r : RequestFields) (m : ℕ) (es : List DecidedRequest)
    → with_verdict m r (known_verdict k r) es ≡ es
known_same k r m es = elim (by_test (is_same k r)) [ inl h ↦ rw h refl | inr h ↦ rw h refl ]

-- the case where the teller isn't open
pub closed_case : (opened : ℕ → Option Terms) (runs : List ClosingRow) (es : List DecidedRequest) (r : RequestFields)
    → is_teller_open opened r.teller ≡ false
    → case_of (facts opened runs es r) r ≡ Unkept outcome.NoTeller
unfolding case_of
closed_case opened runs es r e =
    ap (λ (b : Bool). teller_case (cond b (Some (
      teller_balance es r.teller,
      branch_balance es (branch_of_teller r.teller),
    )) None) (facts opened runs es r) r) e

-- where it is open, what is kept decides
open_case : (opened : ℕ → Option Terms) (runs : List ClosingRow) (es : List DecidedRequest) (r : RequestFields)
    → is_teller_open opened r.teller ≡ true
    → case_of (facts opened runs es r) r
    ≡ known_case (kept es r.teller r.number) (facts opened runs es r) r (teller_balance es r.teller)
    (branch_balance es (branch_of_teller r.teller))
unfolding case_of
open_case opened runs es r e =
    ap (λ (b : Bool). teller_case (cond b (Some (
      teller_balance es r.teller,
      branch_balance es (branch_of_teller r.teller),
    )) None) (facts opened runs es r) r) e

-- where a request is kept, it is a known one
pub known_is : (opened : ℕ → Option Terms) (runs : List ClosingRow) (es : List DecidedRequest) (r : RequestFields) (k : KeptFields)
    → is_teller_open opened r.teller ≡ true
    → kept es r.teller r.number ≡ Some k → case_of (facts opened runs es r) r ≡ known_verdict k r
known_is opened runs es r k e ek =
    open_case opened runs es r e
    ∙ ap (λ (o : Option KeptFields). known_case o (facts opened runs es r) r (teller_balance es r.teller)
    (branch_balance es (branch_of_teller r.teller))) ek

-- where none is kept, it is a new one
pub new_is : (opened : ℕ → Option Terms) (runs : List ClosingRow) (es : List DecidedRequest) (r : RequestFields)
    → is_teller_open opened r.teller ≡ true
    → kept es r.teller r.number ≡ None
    → case_of (facts opened runs es r) r
    ≡ books_case (books_of runs r.teller r.number) (facts opened runs es r) r (teller_balance es r.teller)
    (branch_balance es (branch_of_teller r.teller))
new_is opened runs es r e ek =
    open_case opened runs es r e
    ∙ ap (λ (o : Option KeptFields). known_case o (facts opened runs es r) r (teller_balance es r.teller)
    (branch_balance es (branch_of_teller r.teller))) ek

-- where closed books say nothing of it, these decide it
pub current_is : (opened : ℕ → Option Terms) (runs : List ClosingRow) (es : List DecidedRequest)
    (r : RequestFields)
    → is_teller_open opened r.teller ≡ true
    → kept es r.teller r.number ≡ None → books_of runs r.teller r.number ≡ Current
    → case_of (facts opened runs es r) r ≡ new_case (facts opened runs es r) r (teller_balance es r.teller)
    (branch_balance es (branch_of_teller r.teller))
current_is opened runs es r e ek ec =
    new_is opened runs es r e ek
    ∙ ap (λ (books : Books). books_case books (facts opened runs es r) r (teller_balance es r.teller)
    (branch_balance es (branch_of_teller r.teller))) ec

-- and otherwise they refuse it
pub barred_is : (opened : ℕ → Option Terms) (runs : List ClosingRow) (es : List DecidedRequest)
    (r : RequestFields) (o : Outcome)
    → is_teller_open opened r.teller ≡ true
    → kept es r.teller r.number ≡ None → barred_by (books_of runs r.teller r.number) ≡ Some o
    → case_of (facts opened runs es r) r ≡ Unkept o
barred_is opened runs es r o e ek barred =
    new_is opened runs es r e ek ∙ by_books (books_of runs r.teller r.number) barred
  where
    by_books : (books : Books) → barred_by books ≡ Some o
        → books_case books (facts opened runs es r) r (teller_balance es r.teller)
        (branch_balance es (branch_of_teller r.teller)) ≡ Unkept o
    by_books Closed is = cc
    by_books Sealed is = cc
    by_books Current is = absurd cc

pub full_is : (f : Found) (r : RequestFields) (t b : ℤ) → leb MAX_DECIDED f.decided ≡ true
    → new_case f r t b ≡ Unkept outcome.Full
full_is f r t b e = rw e refl

pub settled_says : (opened : ℕ → Option Terms) (runs : List ClosingRow) (es : List DecidedRequest) (r : RequestFields)
    (out : ReplyFields)
    → IsSettled opened runs es r out → SaysSame opened runs es r out
settled_says opened runs es r out (inl h) = by_verdict opened runs es r out (Unkept outcome.NoTeller)
    (closed_case opened runs es r h.teller) (sym h.is_reply) (λ m. refl)
settled_says opened runs es r out (inr (inl h)) =
    by_verdict opened runs es r out (known_verdict h.fields r) (known_is opened runs es r h.fields h.teller h.is_kept)
    (sym h.is_reply) (λ m. known_same h.fields r m es)
settled_says opened runs es r out (inr (inr (inr h))) =
    by_verdict opened runs es r out (Unkept h.outcome) (barred_is opened runs es r h.outcome h.teller h.none h.barred)
    (sym h.is_reply) (λ m. refl)
settled_says opened runs es r out (inr (inr (inl h))) =
    by_verdict opened runs es r out (Unkept outcome.Full)
    (current_is opened runs es r h.teller h.none h.current ∙ full_is (facts opened runs es r) r _ _ h.full) (sym h.is_reply)
    (λ m. refl)
