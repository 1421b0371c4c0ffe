-- The table of cases gives what is stated case by case.
use Rattle.std.proofs.Common.{◌≡◌, ◌≢◌, ℕ, true, false, eqb, leb, List, ◌∷◌, length, Option, Some, None, Result, Ok}
use Rattle.std.proofs.Common.{Err, refl, sym, ap, ◌∙◌, inl, inr}
use Rattle.std.specs.Prelude.{ℤ, pos, ◌+ℤ◌}
use Rattle.std.proofs.lemmas.Bool.{eqb-true, eq-eqb, leb-true, leb-false}
use Rattle.posting_rules.specs.{declared.limits.TheConstants.MAX_DECIDED, declared.judgments.Verdict.Verdict}
use Rattle.posting_rules.specs.{believed.Numbering.branch_of_teller, believed.Kept.KeptFields}
use Rattle.message_records.specs.{declared.records.Outcome.Outcome, believed.Outcomes.has_balance}
use Rattle.message_records.specs.{declared.fault.Bad.Bad, believed.Records.RequestFields, believed.Reading.request_of}
use Rattle.message_records.specs.declared.records.Outcome.TheVariants as outcome
use Rattle.posting_rules.specs.declared.judgments.Verdict.TheVariants.{Unkept, Again, Refused}
use Rattle.posting_rules.specs.believed.Commands.{Command, Post, opened, is_teller_open, is_account_open}
use Rattle.posting_rules.specs.believed.Cases.{balance_shown, is_same, kept_reply, reply_in}
use Rattle.posting_rules.specs.believed.Entries.{DecidedRequest, kept, account_balance, teller_balance}
use Rattle.posting_rules.specs.believed.Entries.{branch_balance, with_verdict, with_record, decided, reply_given}
use Rattle.posting_rules.specs.believed.Entries.{reply, refused_entry, posted_entry}
use Rattle.posting_rules.specs.Stated.{IsDecided, IsPosted, StaysAbove, AddsEntry, DecidesAsStated, RepliesAsStated}
use Rattle.posting_rules.proofs.Keyed.{by_test}
use Rattle.posting_rules.proofs.VerdictsStated.{verdict, by_limit, by_floor, below_floor, decided_verdict, full}
use Rattle.posting_rules.proofs.VerdictsStated.{has_sums, is_closed, is_sealed, known, new, no_account, no_teller, other_content}
use Rattle.posting_rules.proofs.VerdictsStated.{over_limit, posted_verdict, same_content, wrong_branch}
use Rattle.posting_rules.specs.believed.Closings.{closings, closed, sealed}

-- ---- the reply

reply_is : (before : List Command) (bytes : List ℕ) (r : RequestFields) (v : Verdict)
    → request_of bytes ≡ Ok r → verdict before r ≡ v → reply before bytes ≡ reply_in v r
reply_is before bytes r v read e =
    ap (λ (x : Result RequestFields Bad). reply_given x (λ b. opened before b) (closings before) (decided before)) read ∙ ap
    (λ (w : Verdict). reply_in w r) e

pub replied : (before : List Command) (bytes : List ℕ) → RepliesAsStated before bytes
replied before bytes = record {
  malformed = λ fault read. ap (λ (x : Result RequestFields Bad). reply_given x (λ b. opened before b)
      (closings before) (decided before)) read;
  no_teller = λ r read closed. reply_is before bytes r (Unkept outcome.NoTeller) read
      (no_teller before r closed);
  again = λ r k names e same. reply_is before bytes r (Again (kept_reply k r)) names.read
      (known before r k names.teller e ∙ rw (same_content k r same) refl);
  reused_number = λ r k names e other. reply_is before bytes r (Unkept outcome.ReusedNumber) names.read
      (known before r k names.teller e ∙ rw (other_content k r other) refl);
  closed_number = λ r names e c. reply_is before bytes r (Unkept outcome.Closed) names.read (is_closed before r names.teller e c);
  sealed_books = λ r names e c s. reply_is before bytes r (Unkept outcome.Sealed) names.read
      (is_sealed before r names.teller e c s);
  full = λ r names e c s many. reply_is before bytes r (Unkept outcome.Full) names.read
      (new before r names.teller e c s ∙ full before r many);
  wrong_branch = λ r d ne. reply_is before bytes r (Refused outcome.WrongBranch) d.names.read
      (decided_verdict before r bytes d ∙ wrong_branch before r d.room ne);
  no_account = λ r d its closed. reply_is before bytes r (Refused outcome.NoAccount) d.names.read
      (decided_verdict before r bytes d ∙ no_account before r d.room its closed);
  below_floor = λ r d its open_a low. reply_is before bytes r (Refused outcome.BelowFloor) d.names.read
      (decided_verdict before r bytes d ∙ below_floor before r d.room its open_a low);
  over_limit = λ r d its open_a above h. reply_is before bytes r (Refused outcome.OverLimit) d.names.read
      (decided_verdict before r bytes d ∙ has_sums before r d.room its open_a above
      ∙ over_limit before r its open_a above h);
  posted = λ r d p. reply_is before bytes r _ d.names.read (posted_verdict before r bytes d p);
}

-- ---- what is decided

entries_are : (before : List Command) (moment : ℕ) (bytes : List ℕ) (r : RequestFields) (v : Verdict)
    → request_of bytes ≡ Ok r → verdict before r ≡ v
    → decided (Post moment bytes ∷ before) ≡ with_verdict moment r v (decided before)
entries_are before moment bytes r v read e =
    ap (λ (x : Result RequestFields Bad). with_record moment x (λ b. opened before b) (closings before) (decided before)) read
    ∙ ap (λ (w : Verdict). with_verdict moment r w (decided before)) e

-- an outcome without a posting shows no balance
no_balance : (o : Outcome) (z : ℤ) → has_balance o ≡ false → balance_shown o z ≡ None
no_balance outcome.Posted z e = absurd cc
no_balance outcome.NoTeller z e = refl
no_balance outcome.WrongBranch z e = refl
no_balance outcome.NoAccount z e = refl
no_balance outcome.BelowFloor z e = refl
no_balance outcome.OverLimit z e = refl
no_balance outcome.ReusedNumber z e = refl
no_balance outcome.Closed z e = refl
no_balance outcome.Sealed z e = refl
no_balance outcome.Full z e = refl
no_balance outcome.Malformed z e = refl

refused : (before : List Command) (moment : ℕ) (bytes : List ℕ) (r : RequestFields) (o : Outcome)
    → request_of bytes ≡ Ok r → verdict before r ≡ Refused o → has_balance o ≡ false
    → (IsPosted before r → ⊥) → (e : DecidedRequest) × AddsEntry before moment bytes r e
refused before moment bytes r o read e f h = (
  refused_entry moment r o,
  record {
    adds = entries_are before moment bytes r (Refused o) read e;
    at_moment = refl;
    of_request = refl;
    posted = (λ p. absurd (let g = sym f ∙ p in cc), λ p. absurd (h p));
    replied = reply_is before bytes r (Refused o) read e ∙ rw (no_balance o (pos 0) f) refl;
    unposted = λ _. refl;
  },
)

posted : (before : List Command) (moment : ℕ) (bytes : List ℕ) (r : RequestFields) → IsDecided before bytes r
    → IsPosted before r → (e : DecidedRequest) × AddsEntry before moment bytes r e
posted before moment bytes r d p = (
  posted_entry moment r (account_balance (decided before) r.account +ℤ r.delta),
  record {
    adds = entries_are before moment bytes r _ d.names.read (posted_verdict before r bytes d p);
    at_moment = refl;
    of_request = refl;
    posted = (λ e. p, λ q. refl);
    replied = reply_is before bytes r _ d.names.read (posted_verdict before r bytes d p);
    unposted = λ none. absurd (none p);
  },
)

-- where the branch is the teller's, and the account is open and not below its floor, the three sums decide
by_sums : (before : List Command) (moment : ℕ) (bytes : List ℕ) (r : RequestFields) → IsDecided before bytes r
    → r.branch ≡ branch_of_teller r.teller
    → is_account_open (λ b. opened before b) r.account ≡ true → StaysAbove before r
    → (e : DecidedRequest) × AddsEntry before moment bytes r e
by_sums before moment bytes r d its open_a above =
    let none = λ (h : IsPosted before r → ⊥). refused before moment bytes r outcome.OverLimit d.names.read
    (decided_verdict before r bytes d ∙ has_sums before r d.room its open_a above
    ∙ over_limit before r its open_a above h) refl h in
    elim (by_limit (account_balance (decided before) r.account +ℤ r.delta)) [
      | inr f ↦ none (λ p. f p.account_limit)
      | inl x ↦ elim (by_limit (teller_balance (decided before) r.teller +ℤ r.delta)) [
        | inr f ↦ none (λ p. f p.teller_limit)
        | inl y ↦ elim (by_limit (branch_balance (decided before) r.branch +ℤ r.delta)) [
          | inr f ↦ none (λ p. f p.branch_limit)
          | inl z ↦ posted before moment bytes r d
              (record {
                branch = its;
                account = open_a;
                floor = above;
                account_limit = x;
                teller_limit = y;
                branch_limit = z;
              })
        ]
      ]
    ]

-- a decided request adds its entry
adds_entry : (before : List Command) (moment : ℕ) (bytes : List ℕ) (r : RequestFields)
    → IsDecided before bytes r → (e : DecidedRequest) × AddsEntry before moment bytes r e
adds_entry before moment bytes r d =
    elim (by_test (eqb r.branch (branch_of_teller r.teller))) [
      | inr f ↦ let ne : r.branch ≢ branch_of_teller r.teller =
          (λ e. let t = eq-eqb r.branch (branch_of_teller r.teller) e in absurd (let g = sym f ∙ t in cc)) in
          refused before moment bytes r outcome.WrongBranch d.names.read
          (decided_verdict before r bytes d ∙ wrong_branch before r d.room ne) refl (λ p. ne p.branch)
      | inl t ↦ let its : r.branch ≡ branch_of_teller r.teller = eqb-true _ _ t in
          elim (by_test (is_account_open (λ b. opened before b) r.account)) [
            | inr f ↦ refused before moment bytes r outcome.NoAccount d.names.read
                (decided_verdict before r bytes d ∙ no_account before r d.room its f) refl
                (λ p. absurd (let g = sym f ∙ p.account in cc))
            | inl o ↦ elim (by_floor before r) [
              | inr low ↦ refused before moment bytes r outcome.BelowFloor d.names.read
                  (decided_verdict before r bytes d ∙ below_floor before r d.room its o low) refl
                  (λ p. low p.floor)
              | inl above ↦ by_sums before moment bytes r d its o above
            ]
          ]
    ]

-- a record that isn't decided adds none
adds_none : (before : List Command) (moment : ℕ) (bytes : List ℕ)
    → ((r : RequestFields) → IsDecided before bytes r → ⊥)
    → decided (Post moment bytes ∷ before) ≡ decided before
adds_none before moment bytes h = by_read (request_of bytes) refl
  where
    by_kept : (r : RequestFields) (k : Option KeptFields) → request_of bytes ≡ Ok r
        → is_teller_open (λ b. opened before b) r.teller ≡ true → kept (decided before) r.teller r.number ≡ k
        → decided (Post moment bytes ∷ before) ≡ decided before
    by_kept r (Some k) read open_t e =
        elim (by_test (is_same k r)) [
          | inl t ↦ entries_are before moment bytes r (Again (kept_reply k r)) read
              (known before r k open_t e ∙ rw t refl)
          | inr f ↦ entries_are before moment bytes r (Unkept outcome.ReusedNumber) read
              (known before r k open_t e ∙ rw f refl)
        ]
    by_kept r None read open_t e =
        elim (by_test (closed before r.teller r.number)) [
          | inl c ↦ entries_are before moment bytes r (Unkept outcome.Closed) read (is_closed before r open_t e c)
          | inr c ↦ elim (by_test (sealed before)) [
            | inl s ↦ entries_are before moment bytes r (Unkept outcome.Sealed) read (is_sealed before r open_t e c s)
            | inr s ↦ elim (by_test (leb MAX_DECIDED (length (decided before)))) [
              | inl t ↦ entries_are before moment bytes r (Unkept outcome.Full) read (new before r open_t e c s
                  ∙ full before r (leb-true _ _ t))
              | inr f ↦ absurd (h r (record {
                names = record { read = read; teller = open_t };
                new = e;
                unclosed = c;
                unsealed = s;
                room = leb-false _ _ f;
              }))
            ]
          ]
        ]

    by_read : (read : Result RequestFields Bad) → request_of bytes ≡ read
        → decided (Post moment bytes ∷ before) ≡ decided before
    by_read (Err fault) e = ap (λ (x : Result RequestFields Bad). with_record moment x (λ b. opened before b)
        (closings before) (decided before)) e
    by_read (Ok r) e =
        elim (by_test (is_teller_open (λ b. opened before b) r.teller)) [
          | inl o ↦ by_kept r (kept (decided before) r.teller r.number) e o refl
          | inr f ↦ entries_are before moment bytes r (Unkept outcome.NoTeller) e (no_teller before r f)
        ]

pub decides : (before : List Command) (moment : ℕ) (bytes : List ℕ) → DecidesAsStated before moment bytes
decides before moment bytes = record {
  where_decided = adds_entry before moment bytes;
  otherwise = adds_none before moment bytes;
}
