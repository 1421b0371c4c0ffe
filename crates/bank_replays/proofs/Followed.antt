-- A log that follows decided requests, one request more.
use Rattle.std.proofs.Common.{◌≡◌, ◌∙◌, ℕ, ℤ, pos, Bool, true, false, cond, eqb, leb, List, [], ◌∷◌, map, Option}
use Rattle.std.proofs.Common.{Some, None, Result, Ok, Err, refl, sym, ap, subst, inl, inr}
use Rattle.std.specs.{Option.option_or, Prelude.◌⊎◌}
use Rattle.std.proofs.{Math.Bool.and-false, lemmas.Bool.eq-eqb, lemmas.Bool.eqb-true}
use Rattle.message_records.specs.believed.{Reading.request_of, Records.RequestFields}
use Rattle.message_records.specs.declared.{fault.Bad.Bad, records.Outcome.Outcome}
use Rattle.posting_rules.specs.declared.judgments.{Found.Found, Verdict.Verdict}
use Rattle.posting_rules.specs.declared.judgments.Verdict.TheVariants.{Again, Posted, Refused, Unkept}
use Rattle.posting_rules.specs.believed.Cases.{case_of}
use Rattle.posting_rules.specs.believed.Commands.{Command, Open, Post, Close, Terms, opened}
use Rattle.posting_rules.specs.believed.Entries.{DecidedRequest, decided, facts, is_posted, posted_entry, refused_entry}
use Rattle.posting_rules.specs.believed.Entries.{with_record, with_verdict}
use Rattle.posting_rules.specs.believed.Numbering.{branch_of_account, branch_of_teller}
use Rattle.bank_replays.specs.Following.{AreDecided, Follows, IsWithin, had_account, open_by, opening, prepared, timed}
use Rattle.bank_replays.specs.GivenBack.{unmoved}
use Rattle.bank_replays.proofs.GivenBack.{facts_unmoved}
use Rattle.bank_replays.proofs.SameVerdicts.{IsJudged, account_open, same_verdict, teller_open}
use Rattle.posting_rules.specs.declared.rows.ClosingRow.{ClosingRow}
use Rattle.posting_rules.specs.believed.Closings.{books_of, closings}
use Rattle.posting_rules.specs.declared.judgments.Books.{Books}
use Rattle.posting_rules.specs.declared.judgments.Books.TheVariants.{Current}
use Rattle.posting_rules.proofs.Verdicts.{IsOfBooks, of_books}

-- ---- moments

unmoved_timed : (es : List DecidedRequest) → map unmoved (map timed es) ≡ map unmoved es
unmoved_timed [] = refl
unmoved_timed (e ∷ es) = ap (λ l. unmoved e ∷ l) (unmoved_timed es)

pub unmoved_same : (es es' : List DecidedRequest) → map timed es ≡ map timed es' → map unmoved es ≡ map unmoved es'
unmoved_same es es' same = sym (unmoved_timed es) ∙ ap (map unmoved) same ∙ unmoved_timed es'

facts_timed : (o : ℕ → Option Terms) (runs : List ClosingRow) (es es' : List DecidedRequest) (r : RequestFields)
    → map timed es ≡ map timed es' → facts o runs es r ≡ facts o runs es' r
facts_timed o runs es es' r same =
    sym (facts_unmoved o runs es r) ∙ ap (λ l. facts o runs l r) (unmoved_same es es' same) ∙ facts_unmoved o runs es' r

moment_only : (m n : ℕ) (b : Bool) → (b ≡ true → m ≡ n) → cond b m 0 ≡ cond b n 0
moment_only m n true same = same refl
moment_only m n false same = refl

entry_same : (m n : ℕ) (r : RequestFields) (o o' : Outcome) (z z' : ℤ) → m ≡ n → o ≡ o' → z ≡ z'
    → (let e : DecidedRequest = record { moment = m; request = r; outcome = o; balance = z } in e)
    ≡ record { moment = n; request = r; outcome = o'; balance = z' }
entry_same m n r o o' z z' a b c = cc

-- what a verdict adds that a decided request has
judged_adds : (e : DecidedRequest) (v : Verdict) → IsJudged e v → (m : ℕ) → (is_posted e ≡ true → m ≡ e.moment)
    → (es : List DecidedRequest) → map timed (with_verdict m e.request v es) ≡ timed e ∷ map timed es
judged_adds e (Unkept o) judged m posted es = absurd judged
judged_adds e (Again reply) judged m posted es = absurd judged
judged_adds e (Refused o) judged m posted es =
    ap (λ (x : DecidedRequest). timed x ∷ map timed es)
    (entry_same m m e.request o e.outcome (pos 0) e.balance refl (sym judged.0) (sym judged.1))
    ∙ ap (λ (n : ℕ). (let x : DecidedRequest = record e { moment = n } in x) ∷ map timed es)
    (moment_only m e.moment (is_posted e) posted)
judged_adds e (Posted account teller branch) judged m posted es =
    ap (λ (x : DecidedRequest). timed x ∷ map timed es)
    (entry_same m m e.request _ e.outcome account e.balance refl (sym judged.0) (sym judged.1))
    ∙ ap (λ (n : ℕ). (let x : DecidedRequest = record e { moment = n } in x) ∷ map timed es)
    (moment_only m e.moment (is_posted e) posted)

-- nothing is closed
none_closed : (runs : List ClosingRow) (t n : ℕ) → runs ≡ [] → books_of runs t n ≡ Current
none_closed runs t n none = ap (λ (x : List ClosingRow). books_of x t n) none

-- a request was decided in current books
judged_current : (e : DecidedRequest) (books : Books) (v : Verdict) → IsJudged e v → IsOfBooks books v → books ≡ Current
judged_current e books (Unkept o) judged of_them = absurd judged
judged_current e books (Again reply) judged of_them = absurd judged
judged_current e books (Refused o) judged of_them = of_them
judged_current e books (Posted account teller branch) judged of_them = of_them

-- ---- the last request that a log decided

record LastDecided (first : List Command) (e : DecidedRequest) (es : List DecidedRequest) : Type 0 where
  prev : List Command
  before : decided prev ≡ es
  within : IsWithin (λ b. opened prev b) (λ b. opened first b)
  judged : IsJudged e (case_of (facts (λ b. opened prev b) (closings prev) es e.request) e.request)

more_open : (log : List Command) (branch : ℕ) (terms : Terms)
    → IsWithin (λ b. opened log b) (λ b. opened (Open branch terms ∷ log) b)
more_open log branch terms b first is = rw is refl

wider : (first later : List Command) (e : DecidedRequest) (es : List DecidedRequest)
    → IsWithin (λ b. opened first b) (λ b. opened later b) → LastDecided first e es → LastDecided later e es
wider first later e es within it = record {
  prev = it.prev;
  before = it.before;
  within = λ b terms is. within b terms (it.within b terms is);
  judged = it.judged;
}

head_is : (e f : DecidedRequest) (es fs : List DecidedRequest) → e ∷ es ≡ f ∷ fs → e ≡ f
head_is e f es fs is = cc

tail_is : (e f : DecidedRequest) (es fs : List DecidedRequest) → e ∷ es ≡ f ∷ fs → es ≡ fs
tail_is e f es fs is = cc

module _ (m : ℕ) (bytes : List ℕ) (log : List Command) (e : DecidedRequest) (es : List DecidedRequest)
    (earlier : decided log ≡ e ∷ es → LastDecided log e es) where
  here : (x : DecidedRequest)
      → IsJudged x (case_of (facts (λ b. opened log b) (closings log) (decided log) x.request) x.request)
      → x ∷ decided log ≡ e ∷ es → LastDecided (Post m bytes ∷ log) e es
  here x judged is =
      subst (λ (y : DecidedRequest). LastDecided (Post m bytes ∷ log) y es) (head_is x e (decided log) es is)
      (subst (λ (l : List DecidedRequest). LastDecided (Post m bytes ∷ log) x l) (tail_is x e (decided log) es is)
      (record { prev = log; before = refl; within = λ b terms at. at; judged = judged }))

  of_verdict : (r : RequestFields) (v : Verdict) → case_of (facts (λ b. opened log b) (closings log) (decided log) r) r ≡ v
      → with_verdict m r v (decided log) ≡ e ∷ es → LastDecided (Post m bytes ∷ log) e es
  of_verdict r (Unkept o) at is = wider log (Post m bytes ∷ log) e es (λ b terms h. h) (earlier is)
  of_verdict r (Again reply) at is = wider log (Post m bytes ∷ log) e es (λ b terms h. h) (earlier is)
  of_verdict r (Refused o) at is =
      here (refused_entry m r o) (subst (IsJudged (refused_entry m r o)) (sym at) (refl, refl)) is
  of_verdict r (Posted account teller branch) at is =
      here (posted_entry m r account) (subst (IsJudged (posted_entry m r account)) (sym at) (refl, refl)) is

  of_record : (read : Result RequestFields Bad)
      → with_record m read (λ b. opened log b) (closings log) (decided log) ≡ e ∷ es → LastDecided (Post m bytes ∷ log) e es
  of_record (Err fault) is = wider log (Post m bytes ∷ log) e es (λ b terms h. h) (earlier is)
  of_record (Ok r) is = of_verdict r (case_of (facts (λ b. opened log b) (closings log) (decided log) r) r) refl is

last_decided : (first : List Command) (e : DecidedRequest) (es : List DecidedRequest) → decided first ≡ e ∷ es
    → LastDecided first e es
last_decided [] e es is = absurd cc
last_decided (Open b terms ∷ log) e es is =
    wider log (Open b terms ∷ log) e es (more_open log b terms) (last_decided log e es is)
last_decided (Close first last ∷ log) e es is =
    wider log (Close first last ∷ log) e es (λ b terms h. h) (last_decided log e es is)
last_decided (Post m bytes ∷ log) e es is =
    of_record m bytes log e es (last_decided log e es) (request_of bytes) is

-- the decided requests but the last are decided too
pub decided_before : (plan : ℕ → Option Terms) (e : DecidedRequest) (es : List DecidedRequest)
    → AreDecided plan (e ∷ es) → AreDecided plan es
decided_before plan e es are =
    let it = last_decided are.first e es are.decides in
    record { first = it.prev; decides = it.before; within = λ b terms is. are.within b terms (it.within b terms is) }

-- ---- what is open before a request

module _ (plan : ℕ → Option Terms) where
  -- opening a branch decides nothing
  pub opening_decides : (b : ℕ) (log : List Command) → decided (opening plan b log) ≡ decided log
  opening_decides b log = go (opened log b) (plan b)
    where
      go : (o p : Option Terms) → decided (open_by o p b log) ≡ decided log
      go None None = refl
      go None (Some terms) = refl
      go (Some first) p = refl

  -- and closes nothing
  pub opening_closes : (b : ℕ) (log : List Command) → closings (opening plan b log) ≡ closings log
  opening_closes b log = go (opened log b) (plan b)
    where
      go : (o p : Option Terms) → closings (open_by o p b log) ≡ closings log
      go None None = refl
      go None (Some terms) = refl
      go (Some first) p = refl

  -- what is open then was open before, or is that branch as planned
  opening_opens : (b : ℕ) (log : List Command) (c : ℕ) (terms : Terms) → opened (opening plan b log) c ≡ Some terms
      → (opened log c ≡ Some terms) ⊎ ((c ≡ b) × (plan c ≡ Some terms))
  opening_opens b log c terms = go (opened log b) (plan b) refl
    where
      new : (o : Option Terms) (x : Terms) (hit : Bool) → eqb b c ≡ hit → plan b ≡ Some x
          → opened log c ≡ o → option_or o (cond hit (Some x) None) ≡ Some terms
          → (opened log c ≡ Some terms) ⊎ ((c ≡ b) × (plan c ≡ Some terms))
      new (Some y) x hit at planned old is = inl (old ∙ is)
      new None x false at planned old is = absurd cc
      new None x true at planned old is =
          let same : b ≡ c = eqb-true b c at in inr (sym same, ap plan (sym same) ∙ planned ∙ is)

      go : (o p : Option Terms) → plan b ≡ p → opened (open_by o p b log) c ≡ Some terms
          → (opened log c ≡ Some terms) ⊎ ((c ≡ b) × (plan c ≡ Some terms))
      go None None planned is = inl is
      go None (Some x) planned is = new (opened log c) x (eqb b c) refl planned refl is
      go (Some first) p planned is = inl is

  -- a branch that was opened as planned or not at all is open as planned
  opening_is : (b : ℕ) (log : List Command) → IsWithin (λ c. opened log c) plan → opened (opening plan b log) b ≡ plan b
  opening_is b log within = go (opened log b) (plan b) refl refl
    where
      go : (o p : Option Terms) → opened log b ≡ o → plan b ≡ p → opened (open_by o p b log) b ≡ p
      go None None old planned = old
      go None (Some x) old planned = rw (old, eq-eqb b b refl) refl
      go (Some first) p old planned = old ∙ sym (within b first old) ∙ planned

  -- a planned branch is open as planned after others are opened
  opening_keeps : (b : ℕ) (log : List Command) (c : ℕ) (terms : Terms) → opened log c ≡ Some terms
      → opened (opening plan b log) c ≡ Some terms
  opening_keeps b log c terms is = go (opened log b) (plan b)
    where
      go : (o p : Option Terms) → opened (open_by o p b log) c ≡ Some terms
      go None None = is
      go None (Some x) = more_open log b x c terms is
      go (Some first) p = is

-- ---- one request more

module _ (plan : ℕ → Option Terms) (e : DecidedRequest) (es : List DecidedRequest) (log : List Command)
    (are : AreDecided plan (e ∷ es)) (follows : Follows plan es log) where
  abbrev home : ℕ
  home = branch_of_teller e.request.teller

  abbrev own : ℕ
  own = branch_of_account e.request.account

  -- ---- what was open where it was decided

  module _ (first : List Command) (decides : decided first ≡ e ∷ es) (as_planned : IsWithin (λ b. opened first b) plan)
    where
      abbrev last : LastDecided first e es
      last = last_decided first e es decides

      abbrev there : ℕ → Option Terms
      there b = opened last.prev b

      there_planned : IsWithin there plan
      there_planned b terms is = as_planned b terms (last.within b terms is)

      before : IsWithin (λ b. opened log b) there
      before = follows.within last.prev last.before there_planned

      -- an open branch is open there, and as planned
      is_planned : (b : ℕ) → (there b ≡ None → ⊥) → there b ≡ plan b
      is_planned b some = go (there b) refl
        where
          go : (o : Option Terms) → there b ≡ o → there b ≡ plan b
          go None is = absurd (some is)
          go (Some terms) is = is ∙ sym (there_planned b terms is)

      home_open : there home ≡ None → ⊥
      home_open none =
          teller_open e (facts there (closings last.prev) es e.request) e.request
          (rw (none, and-false (leb 1 e.request.teller)) refl) last.judged

      own_open : had_account e.outcome ≡ true → there own ≡ None → ⊥
      own_open had none =
          account_open e (facts there (closings last.prev) es e.request) e.request had
          (rw (none, and-false (leb 1 e.request.account)) refl) last.judged

      -- what is opened before the request is open there
      step_within : (b : ℕ) → (there b ≡ None → ⊥) → (now : List Command) → IsWithin (λ c. opened now c) there
          → IsWithin (λ c. opened (opening plan b now) c) there
      step_within b some now within c terms is = elim (opening_opens plan b now c terms is) [
        | inl old ↦ within c terms old
        | inr new ↦ ap there new.0 ∙ is_planned b some ∙ ap plan (sym new.0) ∙ new.1
      ]

      ready_within : (had : Bool) → had_account e.outcome ≡ had
          → IsWithin (λ c. opened (prepared plan had e.request log) c) there
      ready_within false is = step_within home home_open log before
      ready_within true is =
          step_within own (own_open is) (opening plan home log) (step_within home home_open log before)

      home_is : (had : Bool) → had_account e.outcome ≡ had → opened (prepared plan had e.request log) home ≡ there home
      home_is had is = go had (there home) refl
        where
          opens : opened (opening plan home log) home ≡ plan home
          opens = opening_is plan home log (λ b terms h. there_planned b terms (before b terms h))

          go : (had : Bool) (o : Option Terms) → there home ≡ o
              → opened (prepared plan had e.request log) home ≡ there home
          go had None none = absurd (home_open none)
          go false (Some terms) at = opens ∙ sym (is_planned home home_open)
          go true (Some terms) at =
              opening_keeps plan own (opening plan home log) home terms (opens ∙ sym (is_planned home home_open) ∙ at) ∙ sym at

      own_is : had_account e.outcome ≡ true → opened (prepared plan true e.request log) own ≡ there own
      own_is had =
          opening_is plan own (opening plan home log)
          (λ b terms h. there_planned b terms (step_within home home_open log before b terms h))
          ∙ sym (is_planned own (own_open had))

      own_is_by : (had : Bool) → had_account e.outcome ≡ had → had_account e.outcome ≡ true
          → opened (prepared plan had e.request log) own ≡ there own
      own_is_by true is had = own_is had
      own_is_by false is had = absurd (let h = sym is ∙ had in cc)

  abbrev ready : List Command
  ready = prepared plan (had_account e.outcome) e.request log

  ready_decides : (had : Bool) → decided (prepared plan had e.request log) ≡ decided log
  ready_decides false = opening_decides plan home log
  ready_decides true = opening_decides plan own (opening plan home log) ∙ opening_decides plan home log

  ready_closes : (had : Bool) → closings (prepared plan had e.request log) ≡ []
  ready_closes false = opening_closes plan home log ∙ follows.current
  ready_closes true =
      opening_closes plan own (opening plan home log) ∙ opening_closes plan home log ∙ follows.current

  abbrev known : LastDecided are.first e es
  known = last_decided are.first e es are.decides

  abbrev verdict : Verdict
  verdict = case_of (facts (λ b. opened known.prev b) (closings known.prev) es e.request) e.request

  ready_same : map timed (decided ready) ≡ map timed es
  ready_same = ap (map timed) (ready_decides (had_account e.outcome)) ∙ follows.requests

  ready_verdict : case_of (facts (λ b. opened ready b) (closings ready) (decided ready) e.request) e.request ≡ verdict
  ready_verdict =
      ap (λ (f : Found). case_of f e.request)
      (facts_timed (λ b. opened ready b) (closings ready) (decided ready) es e.request ready_same)
      ∙ same_verdict (λ b. opened ready b) (λ b. opened known.prev b) (closings ready) (closings known.prev) es e
      (ready_within are.first are.decides are.within (had_account e.outcome) refl)
      (home_is are.first are.decides are.within (had_account e.outcome) refl)
      (own_is_by are.first are.decides are.within (had_account e.outcome) refl)
      (none_closed (closings ready) e.request.teller e.request.number (ready_closes (had_account e.outcome))
      ∙ sym (judged_current e _ _ known.judged
      (of_books (facts (λ b. opened known.prev b) (closings known.prev) es e.request) e.request))) known.judged

  pub follows_more : (m : ℕ) (bytes : List ℕ) → request_of bytes ≡ Ok e.request
      → (is_posted e ≡ true → m ≡ e.moment) → Follows plan (e ∷ es) (Post m bytes ∷ ready)
  follows_more m bytes read moment = record {
    requests =
        ap (λ (x : Result RequestFields Bad). map timed (with_record m x (λ b. opened ready b) (closings ready) (decided ready))) read
        ∙ ap (λ (v : Verdict). map timed (with_verdict m e.request v (decided ready))) ready_verdict
        ∙ judged_adds e verdict known.judged m moment (decided ready)
        ∙ ap (λ l. timed e ∷ l) ready_same;
    current = ready_closes (had_account e.outcome);
    within = λ first decides planned b terms is.
        (last first decides planned).within b terms
        (ready_within first decides planned (had_account e.outcome) refl b terms is);
  }
