-- Each way out, by what ended it.
use Rattle.std.proofs.Common.{◌≡◌, Err, inr, rules}
use Rattle.command_line.proofs.LoadEnds.{file_not_write, unopened}
use Rattle.command_line.proofs.loading.load_into.Goals as goal

pub returns-in_err-plan-clause-loads : goal.returns-in_err-plan-clause-loads
returns-in_err-plan-clause-loads g c =
    unopened g.C.Counter.seen g.C.Counter.reason _ _ _ c.args.bank.now c.from_residual.result _ (search rules)
    c.in_err-plan.ensures.refused

pub returns-clause-loads : goal.returns-clause-loads
returns-clause-loads g c =
    inr (c.in_ok-plan.plan, c.load_from.new.source, c.in_ok-plan.ensures.named, c.load_from.ensures.loads)

pub returns-in_err-plan-clause-unprinted : goal.returns-in_err-plan-clause-unprinted
returns-in_err-plan-clause-unprinted g c is =
    let same : c.from_residual.result ≡ Err c.in_err-plan.field-0.0 = search rules in
    absurd (file_not_write c.in_err-plan.field-0.0 c.in_err-plan.ensures.refused (cc (same, is)))

-- what no call of the bank touches
pub returns-in_err-plan-clause-spares : goal.returns-in_err-plan-clause-spares
returns-in_err-plan-clause-spares g c = g.met.C.Counter.spares_itself c.args.bank.now
