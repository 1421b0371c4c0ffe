-- What is settled stays settled, whatever is decided later.
use Rattle.std.proofs.Common.{◌≡◌, ℕ, true, false, eqb, leb, List, ◌∷◌, length, Option, Some, None, Result, Ok}
use Rattle.std.proofs.Common.{Err, refl, sym, ap, subst, ◌∙◌, arith, inl, inr}
use Rattle.std.specs.Prelude.{◌&&◌}
use Rattle.std.proofs.lemmas.Bool.{and_parts, eqb-true, leb-true}
use Rattle.posting_rules.specs.declared.{limits.TheConstants.MAX_DECIDED, judgments.Verdict.Verdict}
use Rattle.message_records.specs.declared.fault.Bad.{Bad}
use Rattle.message_records.specs.believed.Records.{RequestFields, ReplyFields}
use Rattle.posting_rules.specs.declared.judgments.Verdict.TheVariants.{Unkept, Again, Refused, Posted}
use Rattle.posting_rules.specs.believed.{Kept.KeptFields, Commands.opened, Commands.Terms, Cases.case_of}
use Rattle.posting_rules.specs.believed.Entries.{DecidedRequest, facts, kept, with_verdict, with_record}
use Rattle.posting_rules.proofs.{Keyed.by_test, Verdicts.IsVerdict, Verdicts.verdict_is, SettledReplies.IsSettled}
use Rattle.posting_rules.proofs.{Verdicts.IsOfBooks, Verdicts.of_books, SettledReplies.barred_by}
use Rattle.posting_rules.specs.believed.Closings.{books_of}
use Rattle.posting_rules.specs.declared.judgments.Books.TheVariants.{Current}
use Rattle.message_records.specs.declared.records.Outcome.{Outcome}
use Rattle.posting_rules.specs.declared.rows.ClosingRow.{ClosingRow}

-- a request that is new isn't the one that is kept
other_number : (es : List DecidedRequest) (x r : RequestFields) (k : KeptFields)
    → kept es x.teller x.number ≡ None
    → kept es r.teller r.number ≡ Some k
    → ((eqb x.teller r.teller) && (eqb x.number r.number)) ≡ false
other_number es x r k none some =
    elim (by_test ((eqb x.teller r.teller) && (eqb x.number r.number))) [
      | inl t ↦ let two = and_parts (eqb x.teller r.teller) (eqb x.number r.number) t in
          let et = eqb-true x.teller r.teller two.0 in
          let en = eqb-true x.number r.number two.1 in
          let e : kept es r.teller r.number ≡ None = ap (λ (i : ℕ). kept es i r.number) (sym et) ∙ ap
          (λ (i : ℕ). kept es x.teller i) (sym en) ∙ none in
          absurd cc
      | inr f ↦ f
    ]

kept_after : (es : List DecidedRequest) (e : DecidedRequest) (r : RequestFields) (k : KeptFields)
    → ((eqb e.request.teller r.teller) && (eqb e.request.number r.number)) ≡ false
    → kept es r.teller r.number ≡ Some k → kept (e ∷ es) r.teller r.number ≡ Some k
kept_after es e r k other is = rw other is

-- what is kept stays kept
kept_stays : (opened : ℕ → Option Terms) (es : List DecidedRequest) (x r : RequestFields) (k : KeptFields)
    (m : ℕ)
    (v : Verdict) → IsVerdict opened es x v
    → kept es r.teller r.number ≡ Some k → kept (with_verdict m x v es) r.teller r.number ≡ Some k
kept_stays opened es x r k m (Unkept o) h is = is
kept_stays opened es x r k m (Again a) h is = is
kept_stays opened es x r k m (Refused o) h is = kept_after es _ r k (other_number es x r k h.new is) is
kept_stays opened es x r k m (Posted a t b) h is = kept_after es _ r k (other_number es x r k h.new is) is

-- a request that is decided isn't the one that closed books refuse
other_books : (runs : List ClosingRow) (x r : RequestFields) (o : Outcome)
    → books_of runs x.teller x.number ≡ Current → barred_by (books_of runs r.teller r.number) ≡ Some o
    → ((eqb x.teller r.teller) && (eqb x.number r.number)) ≡ false
other_books runs x r o current barred =
    elim (by_test ((eqb x.teller r.teller) && (eqb x.number r.number))) [
      | inl t ↦ let two = and_parts (eqb x.teller r.teller) (eqb x.number r.number) t in
          let et = eqb-true x.teller r.teller two.0 in
          let en = eqb-true x.number r.number two.1 in
          let e : books_of runs r.teller r.number ≡ Current = ap (λ (i : ℕ). books_of runs r.teller i) (sym en) ∙ ap
          (λ (i : ℕ). books_of runs i x.number) (sym et) ∙ current in
          let none : barred_by (books_of runs r.teller r.number) ≡ None = ap barred_by e in
          absurd cc
      | inr f ↦ f
    ]

none_after : (es : List DecidedRequest) (e : DecidedRequest) (r : RequestFields)
    → ((eqb e.request.teller r.teller) && (eqb e.request.number r.number)) ≡ false
    → kept es r.teller r.number ≡ None → kept (e ∷ es) r.teller r.number ≡ None
none_after es e r other none = rw other none

-- what they refuse stays undecided
none_stays : (runs : List ClosingRow) (es : List DecidedRequest) (x r : RequestFields) (o : Outcome) (m : ℕ)
    (v : Verdict) → IsOfBooks (books_of runs x.teller x.number) v
    → barred_by (books_of runs r.teller r.number) ≡ Some o
    → kept es r.teller r.number ≡ None → kept (with_verdict m x v es) r.teller r.number ≡ None
none_stays runs es x r o m (Unkept u) h barred none = none
none_stays runs es x r o m (Again a) h barred none = none
none_stays runs es x r o m (Refused u) h barred none = none_after es _ r (other_books runs x r o h barred) none
none_stays runs es x r o m (Posted a t b) h barred none = none_after es _ r (other_books runs x r o h barred) none

-- where no more are decided, nothing changes
full_stays : (opened : ℕ → Option Terms) (es : List DecidedRequest) (x : RequestFields) (m : ℕ) (v : Verdict)
    → IsVerdict opened es x v
    → leb MAX_DECIDED (length es) ≡ true → with_verdict m x v es ≡ es
full_stays opened es x m (Unkept o) h e = refl
full_stays opened es x m (Again a) h e = refl
full_stays opened es x m (Refused o) h e = let le = leb-true _ _ e in let lt = h.room in absurd (omega arith)
full_stays opened es x m (Posted a t b) h e = let le = leb-true _ _ e in let lt = h.room in absurd
    (omega arith)

pub settled_stays : (opened : ℕ → Option Terms) (runs : List ClosingRow) (es : List DecidedRequest) (r : RequestFields)
    (out : ReplyFields)
    (m : ℕ)
    (read : Result RequestFields Bad)
    → IsSettled opened runs es r out → IsSettled opened runs (with_record m read opened runs es) r out
settled_stays opened runs es r out m (Err e) h = h
settled_stays opened runs es r out m (Ok x) (inl h) = inl h
settled_stays opened runs es r out m (Ok x) (inr (inl h)) =
    let v = case_of (facts opened runs es x) x in
    inr (inl (record {
      teller = h.teller;
      fields = h.fields;
      is_kept =
          kept_stays opened es x r h.fields m v (verdict_is opened runs es x) h.is_kept;
      is_reply = h.is_reply;
    }))
settled_stays opened runs es r out m (Ok x) (inr (inr (inl h))) =
    let same = full_stays opened es x m (case_of (facts opened runs es x) x) (verdict_is opened runs es x) h.full in
    subst (λ (ds : List DecidedRequest). IsSettled opened runs ds r out) (sym same) (inr (inr (inl h)))
settled_stays opened runs es r out m (Ok x) (inr (inr (inr h))) =
    let f = facts opened runs es x in
    inr (inr (inr (record {
      teller = h.teller;
      none = none_stays runs es x r h.outcome m (case_of f x) (of_books f x) h.barred h.none;
      outcome = h.outcome;
      barred = h.barred;
      is_reply = h.is_reply;
    })))
