use Rattle.std.proofs.Common.{◌≡◌, ◌≤◌, ◌<◌, ◌∙◌, Some, None, true, ap, refl, sym, arith, rules}
use Rattle.std.specs.Prelude.{ℤ}
use Rattle.message_records.specs.believed.Records.{RequestFields}
use Rattle.message_records.specs.declared.records.Outcome.TheVariants as outcome
use Rattle.posting_rules.specs.{declared.judgments.Found.Found, declared.limits.TheConstants.MAX_DECIDED}
use Rattle.posting_rules.specs.{believed.Numbering.branch_of_teller, believed.Kept.KeptFields}
use Rattle.posting_rules.specs.declared.judgments.Verdict.TheVariants.{Unkept, Again}
use Rattle.posting_rules.specs.believed.Cases.{case_of, new_case, account_case, is_same, kept_reply}
use Rattle.posting_rules.specs.declared.judgments.Books.TheVariants.{Current, Closed, Sealed}
use Rattle.posting_rules.proofs.cases.judge.Goals as goal

-- an unknown teller
no_teller : (f : Found) (r : RequestFields) → f.teller ≡ None → Unkept outcome.NoTeller ≡ case_of f r
unfolding case_of
no_teller f r none = rw none refl

-- a request that was decided before
again : (f : Found) (r : RequestFields) (teller branch : ℤ) (kept : KeptFields)
    → f.teller ≡ Some (teller, branch) → f.kept ≡ Some kept → true ≡ is_same kept r
    → Again (kept_reply kept r) ≡ case_of f r
unfolding case_of
again f r teller branch kept known there same = rw (known, there, sym same) refl

-- a request that closed books refuse
closed : (f : Found) (r : RequestFields) (teller branch : ℤ) → f.teller ≡ Some (teller, branch)
    → f.kept ≡ None → f.books ≡ Closed → Unkept outcome.Closed ≡ case_of f r
unfolding case_of
closed f r teller branch known none books = rw (known, none, books) refl

sealed : (f : Found) (r : RequestFields) (teller branch : ℤ) → f.teller ≡ Some (teller, branch)
    → f.kept ≡ None → f.books ≡ Sealed → Unkept outcome.Sealed ≡ case_of f r
unfolding case_of
sealed f r teller branch known none books = rw (known, none, books) refl

-- a request that wasn't
undecided : (f : Found) (r : RequestFields) (teller branch : ℤ) → f.teller ≡ Some (teller, branch)
    → f.kept ≡ None → f.books ≡ Current → new_case f r teller branch ≡ case_of f r
unfolding case_of
undecided f r teller branch known none books = rw (known, none, books) refl

full : (f : Found) (r : RequestFields) (teller branch : ℤ) → MAX_DECIDED ≤ f.decided
    → Unkept outcome.Full ≡ new_case f r teller branch
full f r teller branch many = search rules

posting : (f : Found) (r : RequestFields) (account teller branch : ℤ) → f.decided < MAX_DECIDED
    → r.branch ≡ branch_of_teller r.teller → f.account ≡ Some account
    → account_case (Some account) f.floor teller branch r.delta ≡ new_case f r teller branch
posting f r account teller branch room home there = search rules

pub returns-in_default-clause-value : goal.returns-in_default-clause-value
returns-in_default-clause-value c = no_teller c.args.found.now c.args.request.now c.in_default.is

pub returns-then-is_same-clause-value : goal.returns-then-is_same-clause-value
returns-then-is_same-clause-value c =
    ap Again c.reply.ensures
    ∙ again c.args.found.now c.args.request.now c.in-Some.teller c.in-Some.branch c.in-Some-kept.kept
    c.in-Some.is c.in-Some-kept.is c.if-is_same.ensures

pub returns-then-found-ge-MAX_DECIDED-clause-value :
    goal.returns-then-found-ge-MAX_DECIDED-clause-value
returns-then-found-ge-MAX_DECIDED-clause-value c =
    let none : c.args.found.now.kept ≡ None = cc in
    full c.args.found.now c.args.request.now c.in-Some.teller c.in-Some.branch c.if-found-ge-MAX_DECIDED.true
    ∙ undecided c.args.found.now c.args.request.now c.in-Some.teller c.in-Some.branch c.in-Some.is none
    c.in-Current.is

pub returns-clause-value : goal.returns-clause-value
returns-clause-value c =
    let home : c.args.request.now.branch ≡ branch_of_teller c.args.request.now.teller = cc in
    c.judge_posting.ensures.value
    ∙ ap (account_case (Some c.in-Some-account.account) c.args.found.now.floor c.in-Some.teller c.in-Some.branch)
    c.delta.ensures.value
    ∙ posting c.args.found.now c.args.request.now c.in-Some-account.account c.in-Some.teller c.in-Some.branch
    (omega arith) home c.in-Some-account.is
    ∙ undecided c.args.found.now c.args.request.now c.in-Some.teller c.in-Some.branch c.in-Some.is
    c.in_default-kept.is c.in-Current.is
