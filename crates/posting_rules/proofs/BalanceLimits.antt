-- Every balance stays within the limit.
use Rattle.std.proofs.Common.{◌≡◌, ℕ, ◌≤◌, Bool, true, false, cond, eqb, List, [], ◌∷◌, Result, Ok, Err, refl, sym}
use Rattle.std.proofs.Common.{subst, ◌∙◌, lit≤}
use Rattle.std.specs.Prelude.{ℤ, ◌+ℤ◌, nat_abs, ◌&&◌, Option}
use Rattle.std.proofs.lemmas.Bool.{eqb-true}
use Rattle.message_records.specs.{declared.limits.TheConstants.MAX_BALANCE, declared.fault.Bad.Bad}
use Rattle.message_records.specs.{believed.Records.RequestFields, believed.Reading.request_of}
use Rattle.posting_rules.specs.{declared.judgments.Verdict.Verdict, believed.Cases.case_of, Laws.StaysWithin}
use Rattle.posting_rules.specs.declared.judgments.Verdict.TheVariants.{Unkept, Again, Refused, Posted}
use Rattle.posting_rules.specs.believed.Commands.{Command, Open, Post, Close, opened, Terms}
use Rattle.posting_rules.specs.believed.Entries.{DecidedRequest, is_posted, facts, account_balance, teller_balance}
use Rattle.posting_rules.specs.believed.Entries.{branch_balance, refused_entry, with_verdict, with_record, decided}
use Rattle.posting_rules.proofs.Verdicts.{IsSum, IsVerdict, verdict_is}
use Rattle.posting_rules.specs.declared.rows.ClosingRow.{ClosingRow}
use Rattle.posting_rules.specs.believed.Closings.{closings}

abbrev IsWithin : ℤ → Type 0
IsWithin z = nat_abs z ≤ MAX_BALANCE

record AllWithin (es : List DecidedRequest) : Type 0 where
  accounts : (a : ℕ) → IsWithin (account_balance es a)
  tellers : (t : ℕ) → IsWithin (teller_balance es t)
  branches : (b : ℕ) → IsWithin (branch_balance es b)

-- a balance to which nothing is posted, and one to which a sum within the limit is
keeps_within : (posted hit : Bool) (old delta : ℤ) → IsWithin old
    → (posted ≡ true → hit ≡ true → IsWithin (old +ℤ delta))
    → IsWithin (cond (posted && hit) (old +ℤ delta) old)
keeps_within true true old delta h new = new refl refl
keeps_within true false old delta h new = h
keeps_within false hit old delta h new = h

sum_within : (old delta new : ℤ) → IsSum old delta new → IsWithin (old +ℤ delta)
sum_within old delta new s = subst IsWithin s.sum s.within

within_verdict : (opened : ℕ → Option Terms) (es : List DecidedRequest) (m : ℕ) (r : RequestFields)
    (v : Verdict)
    → IsVerdict opened es r v → AllWithin es → AllWithin (with_verdict m r v es)
within_verdict opened es m r (Unkept o) h all = all
within_verdict opened es m r (Again x) h all = all
within_verdict opened es m r (Refused o) h all = record {
  accounts = λ n. keeps_within (is_posted (refused_entry m r o)) (eqb r.account n)
      (account_balance es n) r.delta (all.accounts n) (λ p. absurd (let f = h.unposted in cc));
  tellers = λ n. keeps_within (is_posted (refused_entry m r o)) (eqb r.teller n) (teller_balance es n) r.delta
      (all.tellers n) (λ p. absurd (let f = h.unposted in cc));
  branches = λ n. keeps_within (is_posted (refused_entry m r o)) (eqb r.branch n)
      (branch_balance es n) r.delta (all.branches n) (λ p. absurd (let f = h.unposted in cc));
}
within_verdict opened es m r (Posted a t b) h all = record {
  accounts = λ n. keeps_within true (eqb r.account n) (account_balance es n) r.delta (all.accounts n)
      (λ p e. subst (λ (k : ℕ). IsWithin (account_balance es k +ℤ r.delta)) (eqb-true _ _ e)
      (sum_within _ _ a h.account_is));
  tellers = λ n. keeps_within true (eqb r.teller n) (teller_balance es n) r.delta (all.tellers n)
      (λ p e. subst (λ (k : ℕ). IsWithin (teller_balance es k +ℤ r.delta)) (eqb-true _ _ e)
      (sum_within _ _ t h.teller_is));
  branches = λ n. keeps_within true (eqb r.branch n) (branch_balance es n) r.delta (all.branches n)
      (λ p e. subst (λ (k : ℕ). IsWithin (branch_balance es k +ℤ r.delta)) (sym h.its_branch
      ∙ eqb-true _ _ e) (sum_within _ _ b h.branch_is));
}

within_record : (opened : ℕ → Option Terms) (runs : List ClosingRow) (es : List DecidedRequest) (m : ℕ) (read : Result RequestFields Bad)
    → AllWithin es → AllWithin (with_record m read opened runs es)
within_record opened runs es m (Ok r) all = within_verdict opened es m r (case_of (facts opened runs es r) r)
    (verdict_is opened runs es r) all
within_record opened runs es m (Err fault) all = all

all_within : (log : List Command) → AllWithin (decided log)
all_within [] = record { accounts = λ a. lit≤ tt; tellers = λ t. lit≤ tt; branches = λ b. lit≤ tt }
all_within (Open b terms ∷ log) = all_within log
all_within (Close first last ∷ log) = all_within log
all_within (Post m bytes ∷ log) = within_record (λ b. opened log b) (closings log) (decided log) m (request_of bytes)
    (all_within log)

pub stays_within : (log : List Command) → StaysWithin log
stays_within log = let all = all_within log in record {
  accounts = all.accounts;
  tellers = all.tellers;
  branches = all.branches;
}
