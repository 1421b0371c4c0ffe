-- The branch of the teller is opened, and that of the account where the entry was judged by it.
use Rattle.std.proofs.Common.{rules, ◌≡◌, ◌∙◌, ℕ, ◌∷◌, [], Bool, Ok, Err, Result, ap, sym, subst, true, arith}
use Rattle.std.specs.Prelude.{Contains, OnOk, if◌then◌else◌}
use Rattle.posting_core.specs.believed.LogEntries.{AnsweredRequest}
use Rattle.posting_core.specs.Entries.{answered}
use Rattle.posting_rules.specs.believed.Numbering.{branch_of_account, branch_of_teller}
use Rattle.branch_loader.specs.Following.{IsLooked, had_account, needed_by}
use Rattle.branch_loader.proofs.Following.{looked_still, needed_looked}
use Rattle.branch_loader.proofs.followers.Follower.open_needed.Goals as goal

-- the branch of its teller, and that of its account where it was judged by that
needs_teller : (a : AnsweredRequest) (b : ℕ) → b ≡ branch_of_teller a.request.teller → Contains (needed_by a) b
needs_teller a b is = (0, omega arith, sym is)

needs_account : (a : AnsweredRequest) (b : ℕ) → b ≡ branch_of_account a.request.account
    → had_account a.reply.outcome ≡ true → Contains (needed_by a) b
needs_account a b is had =
    subst (λ (t : Bool). Contains (branch_of_teller a.request.teller
    ∷ (if t then branch_of_account a.request.account ∷ [] else [])) b) (sym had) (1, omega arith, sym is)

both_ok : {E A B C : Type 0} (r : Result (Unit {0}) E) → OnOk r A → OnOk r B → (A → B → C) → OnOk r C
both_ok (Ok done) a b f = f a b
both_ok (Err fault) a b f = tt

pub returns-in_err-open : goal.returns-in_err-open
returns-in_err-open g c =
    let fault = c.in_err-open.field-0.0 in
    let same : c.from_residual.result ≡ Err fault = search rules in
    let a = answered c.args.entry.now in
    record {
      follows = λ first rows given is it.
          rw same (c.in_err-open.ensures.follows first rows given a is (needs_teller a _ (c.branch_of_teller.ensures
          ∙ ap branch_of_teller c.teller.ensures)) it);
      looked = rw same tt;
      plan = c.in_err-open.ensures.plan;
    }

pub returns-then-not-had_account : goal.returns-then-not-had_account
returns-then-not-had_account g c =
    let one = c.in_ok-open.ensures in
    let a = answered c.args.entry.now in
    let teller = c.branch_of_teller.ensures ∙ ap branch_of_teller c.teller.ensures in
    record {
      follows = λ first rows given is it. one.follows first rows given a is (needs_teller a _ teller) it;
      looked = needed_looked c.args.self.now.plan.now c.open.new.self.looked.items (branch_of_teller a.request.teller)
          (branch_of_account a.request.account) (had_account a.reply.outcome)
          (subst (λ (b : ℕ). IsLooked c.args.self.now.plan.now c.open.new.self.looked.items b) teller one.looked)
          (λ had. absurd (cc (had, c.if-not-had_account.true, c.had_account.ensures, c.outcome.ensures)));
      plan = one.plan;
    }

pub returns : goal.returns
returns g c =
    let one = c.in_ok-open.ensures in
    let two = c.open-2.ensures in
    let a = answered c.args.entry.now in
    let plan = c.args.self.now.plan.now in
    let looked = c.open-2.new.self.looked.items in
    let teller = c.branch_of_teller.ensures ∙ ap branch_of_teller c.teller.ensures in
    let account = c.branch_of_account.ensures ∙ ap branch_of_account c.account.ensures in
    record {
      follows = λ first rows given is it.
          two.follows first rows given a (one.plan ∙ is) (needs_account a _ account
          (cc (c.if-not-had_account.false, c.had_account.ensures, c.outcome.ensures)))
          (one.follows first rows given a is (needs_teller a _ teller) it);
      looked = both_ok c.open-2.result two.looked two.keeps (λ known keeps.
          needed_looked plan looked (branch_of_teller a.request.teller) (branch_of_account a.request.account)
          (had_account a.reply.outcome)
          (subst (λ (b : ℕ). IsLooked plan looked b) teller
          (looked_still plan c.open.new.self.looked.items looked c.branch_of_account.result c.branch_of_teller.result keeps
          one.looked))
          (λ had. subst (λ (b : ℕ). IsLooked plan looked b) account (rw one.plan at known)));
      plan = two.plan ∙ one.plan;
    }
