-- One more teller, under its branch.
use Rattle.std.proofs.Common.{rules, ◌≡◌, ◌≤◌, ◌<◌, ◌-◌, ◌/◌, ℕ, length, ap, ◌∙◌, arith, w64, FitsSigned}
use Rattle.std.specs.Prelude.{ℤ, ◌+ℤ◌}
use Rattle.report_contents.specs.Audit.{teller_balance}
use Rattle.report_contents.proofs.OneMore.{sum_fits, sum_is, small_after, branches_after, small_at, sum_more_64}
use Rattle.report_contents.proofs.tellers.TellerSums.add.Goals as goal

pub overflow_add-sum : goal.overflow_add-sum
overflow_add-sum c =
    let s = c.args.self.now in
    let p : ℕ = (c.get.result - 1) / 10 in
    let v : ℤ = c.index-sum.result.now in
    let low : p < length s.by_branch.items =
    let room = s.every_branch in omega (arith, c.get.ensures.most, room) in
    let at = small_at s.by_branch.items p s.all.count v s.small low c.index-sum.ensures in
    let fit : FitsSigned w64 c.args.teller.balance = search rules in
    sum_fits v c.args.teller.balance c.from.result s.all.count fit c.from.ensures at.1 s.all.few

pub invariant_of-self-clause-small : goal.invariant_of-self-clause-small
invariant_of-self-clause-small c =
    let s = c.args.self.now in
    let p : ℕ = (c.get.result - 1) / 10 in
    let v : ℤ = c.index-sum.result.now in
    let low : p < length s.by_branch.items =
    let room = s.every_branch in omega (arith, c.get.ensures.most, room) in
    let at = small_at s.by_branch.items p s.all.count v s.small low c.index-sum.ensures in
    let fit : FitsSigned w64 c.args.teller.balance = search rules in
    small_after s.by_branch.items p s.all.count c.plus-self.result.count _ c.args.teller.balance s.small
    (sum_is v c.args.teller.balance c.from.result s.all.count fit c.from.ensures at.1 s.all.few
    ∙ ap (λ (z : ℤ). z +ℤ c.args.teller.balance) at.0) fit c.plus-self.ensures.count low

pub returns : goal.returns
returns c =
    let s = c.args.self.now in
    let p : ℕ = (c.get.result - 1) / 10 in
    let v : ℤ = c.index-sum.result.now in
    let low : p < length s.by_branch.items =
    let room = s.every_branch in omega (arith, c.get.ensures.most, room) in
    let at = small_at s.by_branch.items p s.all.count v s.small low c.index-sum.ensures in
    let fit : FitsSigned w64 c.args.teller.balance = search rules in
    let one : 1 ≤ c.args.teller.teller = omega (arith, c.get.ensures.value, c.get.ensures.least) in
    let place : p ≡ (c.args.teller.teller - 1) / 10 = ap (λ (n : ℕ). (n - 1) / 10) c.get.ensures.value in
    record {
      added = λ tellers h. record {
        all = sum_more_64 teller_balance s.all c.plus-self.result tellers c.args.teller fit h.all
            c.plus-self.ensures.count c.plus-self.ensures.sum;
        by_branch = branches_after s.by_branch.items tellers c.args.teller p _ one place low
            (sum_is v c.args.teller.balance c.from.result s.all.count fit c.from.ensures at.1 s.all.few
            ∙ ap (λ (z : ℤ). z +ℤ c.args.teller.balance) at.0) h.by_branch;
      };
    }
