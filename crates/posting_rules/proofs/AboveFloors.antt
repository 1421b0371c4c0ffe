-- No account is ever below the floor of its own branch.
use Rattle.std.proofs.Common.{◌≡◌, ℕ, Bool, true, false, cond, eqb, leb, List, [], ◌∷◌, Option, Some, None, Result}
use Rattle.std.proofs.Common.{Ok, Err, refl, sym, ap, subst, ◌∙◌}
use Rattle.std.specs.Prelude.{ℤ, pos, ◌+ℤ◌, ◌≤ℤ◌, ◌&&◌, IfSome, option_and_then}
use Rattle.std.specs.Option.{option_or}
use Rattle.std.proofs.lemmas.Bool.{and_parts, and_right, eqb-true}
use Rattle.message_records.specs.declared.fault.Bad.{Bad}
use Rattle.message_records.specs.believed.{Outcomes.has_balance, Records.RequestFields, Reading.request_of}
use Rattle.posting_rules.specs.{declared.judgments.Verdict.Verdict, believed.Cases.case_of}
use Rattle.posting_rules.specs.declared.judgments.Verdict.TheVariants.{Unkept, Again, Refused, Posted}
use Rattle.posting_rules.specs.believed.Commands.{Command, Open, Post, Close, AreCommands, IsFloor, Terms, opened, floor_of}
use Rattle.posting_rules.specs.believed.Commands.{is_account_open, is_within}
use Rattle.posting_rules.specs.believed.Numbering.{branch_of_account, place_of_account}
use Rattle.posting_rules.specs.believed.Entries.{DecidedRequest, facts, with_verdict, with_record, decided}
use Rattle.posting_rules.specs.believed.Entries.{account_balance}
use Rattle.posting_rules.proofs.NamedOpen.{AllNameOpen, with_branch, all_name_open}
use Rattle.posting_rules.proofs.{NoBalance.account_none, Verdicts.IsVerdict, Verdicts.verdict_is}
use Rattle.posting_rules.specs.declared.rows.ClosingRow.{ClosingRow}
use Rattle.posting_rules.specs.believed.Closings.{closings}

abbrev AllAbove : (ℕ → Option Terms) → List DecidedRequest → Type 0
AllAbove opened es =
    (a : ℕ) → IfSome (floor_of opened (branch_of_account a)) (λ floor. floor ≤ℤ account_balance es a)

-- ---- a record

-- the balance moves where the entry is posted to the account
keeps_above : (floor : Option ℤ) (hit : Bool) (old sum : ℤ) → IfSome floor (λ l. l ≤ℤ old)
    → (hit ≡ true → IfSome floor (λ l. l ≤ℤ sum)) → IfSome floor (λ l. l ≤ℤ cond hit sum old)
keeps_above floor true old sum was now = now refl
keeps_above floor false old sum was now = was

above_verdict : (opened : ℕ → Option Terms) (es : List DecidedRequest) (m : ℕ) (r : RequestFields) (v : Verdict)
    → IsVerdict opened es r v → AllAbove opened es → AllAbove opened (with_verdict m r v es)
above_verdict opened es m r (Unkept o) h all = all
above_verdict opened es m r (Again x) h all = all
above_verdict opened es m r (Refused o) h all = λ a.
    keeps_above (floor_of opened (branch_of_account a)) (has_balance o && eqb r.account a)
    (account_balance es a) (account_balance es a +ℤ r.delta) (all a)
    (λ t. let p = (and_parts (has_balance o) (eqb r.account a) t).0 in absurd (let f = h.unposted in cc))
above_verdict opened es m r (Posted x t b) h all = λ a.
    keeps_above (floor_of opened (branch_of_account a)) (eqb r.account a)
    (account_balance es a) (account_balance es a +ℤ r.delta) (all a)
    (λ hit. subst (λ (n : ℕ). IfSome (floor_of opened (branch_of_account n))
    (λ l. l ≤ℤ (account_balance es n +ℤ r.delta))) (eqb-true _ _ hit)
    (subst (λ (z : ℤ). IfSome (floor_of opened (branch_of_account r.account)) (λ l. l ≤ℤ z))
    h.account_is.sum h.above))

above_record : (opened : ℕ → Option Terms) (runs : List ClosingRow) (es : List DecidedRequest) (m : ℕ) (read : Result RequestFields Bad)
    → AllAbove opened es → AllAbove opened (with_record m read opened runs es)
above_record opened runs es m (Ok r) all = above_verdict opened es m r (case_of (facts opened runs es r) r)
    (verdict_is opened runs es r) all
above_record opened runs es m (Err fault) all = all

-- ---- an opening

-- what is open stays on its terms, and what opens does so at zero
still_above : (o p : Option Terms) (z : ℤ) → IfSome (option_and_then (λ n. n.floor) o) (λ l. l ≤ℤ z)
    → (o ≡ None → IfSome (option_and_then (λ n. n.floor) p) (λ l. l ≤ℤ z))
    → IfSome (option_and_then (λ n. n.floor) (option_or o p)) (λ l. l ≤ℤ z)
still_above (Some n) p z was now = was
still_above None p z was now = now refl

not_above_zero : (floor : Option ℤ) → IfSome floor IsFloor → IfSome floor (λ l. l ≤ℤ pos 0)
not_above_zero None h = tt
not_above_zero (Some l) h = h.0

zero_above : (hit : Bool) (terms : Terms) → IfSome terms.floor IsFloor
    → IfSome (option_and_then (λ n. n.floor) (cond hit (Some terms) None)) (λ l. l ≤ℤ pos 0)
zero_above true terms h = not_above_zero terms.floor h
zero_above false terms h = tt

not_open : (opened : ℕ → Option Terms) (a : ℕ) → opened (branch_of_account a) ≡ None
    → is_account_open opened a ≡ false
not_open opened a none = ap (λ o. leb 1 a && is_within (place_of_account a) o) none ∙ and_right (leb 1 a) false refl

above_opened : (opened : ℕ → Option Terms) (es : List DecidedRequest) (b : ℕ) (terms : Terms)
    → AllNameOpen opened es → IfSome terms.floor IsFloor → AllAbove opened es
    → AllAbove (λ x. with_branch opened b terms x) es
above_opened opened es b terms named its all a =
    let home = branch_of_account a in
    still_above (opened home) (cond (eqb b home) (Some terms) None) (account_balance es a) (all a)
    (λ none. subst (λ (z : ℤ). IfSome (option_and_then (λ n. n.floor) (cond (eqb b home) (Some terms) None))
    (λ l. l ≤ℤ z)) (sym (account_none opened es a named (not_open opened a none)))
    (zero_above (eqb b home) terms its))

-- ---- over logs

pub stays_above : (log : List Command) → AreCommands log → (a : ℕ)
    → IfSome (floor_of (λ b. opened log b) (branch_of_account a)) (λ floor. floor ≤ℤ account_balance (decided log) a)
stays_above [] are = λ a. tt
stays_above (Open b terms ∷ log) are =
    above_opened (λ x. opened log x) (decided log) b terms (all_name_open log) are.0.4 (stays_above log are.1)
stays_above (Close first last ∷ log) are = stays_above log are.1
stays_above (Post m bytes ∷ log) are =
    above_record (λ b. opened log b) (closings log) (decided log) m (request_of bytes) (stays_above log are.1)
