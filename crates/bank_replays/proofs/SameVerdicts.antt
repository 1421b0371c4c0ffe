-- A request gets the same verdict where fewer branches are open, if those that it needs are.
use Rattle.std.proofs.Common.{◌≡◌, ◌∙◌, ℕ, ℤ, pos, true, false, eqb, leb, List, Option, Some, None, refl, ap}
use Rattle.std.proofs.Common.{sym, inl, inr}
use Rattle.std.proofs.{Math.Bool.and-false, lemmas.Bool.cases_Bool}
use Rattle.message_records.specs.believed.Records.{RequestFields}
use Rattle.message_records.specs.declared.records.Outcome.TheVariants as outcome
use Rattle.posting_rules.specs.declared.limits.TheConstants.{MAX_DECIDED}
use Rattle.posting_rules.specs.declared.judgments.{Found.Found, Verdict.Verdict}
use Rattle.posting_rules.specs.declared.judgments.Verdict.TheVariants.{Again, Posted, Refused, Unkept}
use Rattle.posting_rules.specs.believed.Cases.{account_case, case_of, new_case, plus_within}
use Rattle.posting_rules.specs.believed.Commands.{Terms}
use Rattle.posting_rules.specs.believed.Entries.{DecidedRequest, facts}
use Rattle.posting_rules.specs.believed.Kept.{KeptFields}
use Rattle.posting_rules.specs.believed.Numbering.{branch_of_account, branch_of_teller}
use Rattle.posting_rules.proofs.Verdicts.{by_account, by_books, by_known, by_new, by_posting, by_teller}
use Rattle.bank_replays.specs.Following.{IsWithin, had_account}
use Rattle.posting_rules.specs.declared.rows.ClosingRow.{ClosingRow}
use Rattle.posting_rules.specs.believed.Closings.{books_of}
use Rattle.posting_rules.specs.declared.judgments.Books.{Books}
use Rattle.posting_rules.specs.declared.judgments.Books.TheVariants.{Current, Closed, Sealed}

-- the verdict is the one that a decided request has
abbrev pub IsJudged : DecidedRequest → Verdict → Type 0
IsJudged e (Unkept o) = ⊥
IsJudged e (Again reply) = ⊥
IsJudged e (Refused o) = (e.outcome ≡ o) × (e.balance ≡ pos 0)
IsJudged e (Posted account teller branch) = (e.outcome ≡ outcome.Posted) × (e.balance ≡ account)

module _ (e : DecidedRequest) where
  -- ---- what was open

  pub teller_open : (f : Found) (r : RequestFields) → f.teller ≡ None → IsJudged e (case_of f r) → ⊥
  unfolding case_of
  teller_open f r none judged = rw none at judged

  had_none : had_account e.outcome ≡ true → e.outcome ≡ outcome.NoAccount → ⊥
  had_none had is = let h = rw is at had in cc

  had_wrong : had_account e.outcome ≡ true → e.outcome ≡ outcome.WrongBranch → ⊥
  had_wrong had is = let h = rw is at had in cc

  abbrev IsNot : Verdict → Type 0
  IsNot v = IsJudged e v → ⊥

  pub account_open : (f : Found) (r : RequestFields) → had_account e.outcome ≡ true → f.account ≡ None
      → IsJudged e (case_of f r) → ⊥
  unfolding case_of
  account_open f r had none =
      by_teller IsNot f.teller f r (λ j. j) (λ z is.
      by_known IsNot f.kept f r z.0 z.1 (λ j. j) (λ a j. j) (λ new.
      by_books IsNot f.books f r z.0 z.1 (λ j. j) (λ j. j) (λ current.
      by_new IsNot f r z.0 z.1 (λ j. j) (λ room j. had_wrong had j.0) (λ room its.
      rw none (λ j. had_none had j.0)))))

  -- ---- what was not judged by its account

  not_below : had_account e.outcome ≡ false → e.outcome ≡ outcome.BelowFloor → ⊥
  not_below had is = let h = rw is at had in cc

  not_over : had_account e.outcome ≡ false → e.outcome ≡ outcome.OverLimit → ⊥
  not_over had is = let h = rw is at had in cc

  not_posted : had_account e.outcome ≡ false → e.outcome ≡ outcome.Posted → ⊥
  not_posted had is = let h = rw is at had in cc

  abbrev HasNone : Verdict → Type 0
  HasNone v = IsJudged e v → Refused outcome.NoAccount ≡ v

  bare_account : had_account e.outcome ≡ false → (a floor : Option ℤ) (t b d : ℤ)
      → IsJudged e (account_case a floor t b d) → Refused outcome.NoAccount ≡ account_case a floor t b d
  bare_account had a floor t b d =
      by_account HasNone a floor t b d (λ j. refl) (λ j. absurd (not_below had j.0)) (λ x is above.
      by_posting HasNone (plus_within x d) (plus_within t d) (plus_within b d) (λ j. absurd (not_over had j.0))
      (λ x y z ex ey ez j. absurd (not_posted had j.0)))

  abbrev found : Option (ℤ × ℤ) → Option KeptFields → Books → ℕ → Option ℤ → Option ℤ → Found
  found teller kept books decided account floor =
      record { teller = teller; kept = kept; books = books; decided = decided; account = account; floor = floor }

  bare_new : had_account e.outcome ≡ false → (z : Option (ℤ × ℤ)) (k : Option KeptFields) (c : Books) (n : ℕ)
      (a floor other : Option ℤ) (r : RequestFields) (t b : ℤ)
      → IsJudged e (new_case (found z k c n a floor) r t b)
      → new_case (found z k c n None other) r t b ≡ new_case (found z k c n a floor) r t b
  bare_new had z k c n a floor other r t b = elim (cases_Bool (leb MAX_DECIDED n)) [
    | inl full ↦ rw full (λ j. refl)
    | inr room ↦ rw room (elim (cases_Bool (eqb r.branch (branch_of_teller r.teller))) [
      | inl its ↦ rw its (bare_account had a floor t b r.delta)
      | inr wrong ↦ rw wrong (λ j. refl)
    ])
  ]

  bare : had_account e.outcome ≡ false → (z : Option (ℤ × ℤ)) (k : Option KeptFields) (c : Books) (n : ℕ)
      (a floor other : Option ℤ) (r : RequestFields) → IsJudged e (case_of (found z k c n a floor) r)
      → case_of (found z k c n None other) r ≡ case_of (found z k c n a floor) r
  unfolding case_of
  bare had None k c n a floor other r j = refl
  bare had (Some z) (Some k) c n a floor other r j = refl
  bare had (Some z) None Closed n a floor other r j = refl
  bare had (Some z) None Sealed n a floor other r j = refl
  bare had (Some z) None Current n a floor other r j = bare_new had (Some z) None Current n a floor other r z.0 z.1 j

-- ---- fewer branches

facts_two : (here there : ℕ → Option Terms) (runs others : List ClosingRow) (es : List DecidedRequest) (r : RequestFields)
    → here (branch_of_teller r.teller) ≡ there (branch_of_teller r.teller)
    → here (branch_of_account r.account) ≡ there (branch_of_account r.account)
    → books_of runs r.teller r.number ≡ books_of others r.teller r.number
    → case_of (facts here runs es r) r ≡ case_of (facts there others es r) r
facts_two here there runs others es r home its books =
    ap (λ (f : Found). case_of f r)
    (ap (λ (c : Books). let f : Found = record (facts here runs es r) { books = c } in f) books ∙ rw (home, its) refl)

module _ (here there : ℕ → Option Terms) (runs others : List ClosingRow) (es : List DecidedRequest) (e : DecidedRequest) (within : IsWithin here there)
    (home : here (branch_of_teller e.request.teller) ≡ there (branch_of_teller e.request.teller))
    (its : had_account e.outcome ≡ true
    → here (branch_of_account e.request.account) ≡ there (branch_of_account e.request.account))
    (books : books_of runs e.request.teller e.request.number ≡ books_of others e.request.teller e.request.number)
    (judged : IsJudged e (case_of (facts there others es e.request) e.request)) where
  without : here (branch_of_account e.request.account) ≡ None → had_account e.outcome ≡ false
      → case_of (facts here runs es e.request) e.request ≡ case_of (facts there others es e.request) e.request
  without none had =
      ap (λ (c : Books). case_of (let f : Found = record (facts here runs es e.request) { books = c } in f) e.request) books
      ∙ rw (home, none, and-false (leb 1 e.request.account))
      (bare e had (facts there others es e.request).teller (facts there others es e.request).kept
      (facts there others es e.request).books (facts there others es e.request).decided
      (facts there others es e.request).account (facts there others es e.request).floor None e.request judged)

  by_account_branch : (o : Option Terms) → here (branch_of_account e.request.account) ≡ o
      → had_account e.outcome ≡ false
      → case_of (facts here runs es e.request) e.request ≡ case_of (facts there others es e.request) e.request
  by_account_branch None is had = without is had
  by_account_branch (Some terms) is had =
      facts_two here there runs others es e.request home (is ∙ sym (within (branch_of_account e.request.account) terms is)) books

  pub same_verdict : case_of (facts here runs es e.request) e.request ≡ case_of (facts there others es e.request) e.request
  same_verdict = elim (cases_Bool (had_account e.outcome)) [
    | inl t ↦ facts_two here there runs others es e.request home (its t) books
    | inr f ↦ by_account_branch (here (branch_of_account e.request.account)) refl f
  ]
