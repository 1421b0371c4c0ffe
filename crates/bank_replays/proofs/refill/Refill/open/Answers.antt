-- What came before is posted first.
use Rattle.std.proofs.Common.{◌∙◌, sym, ap, ◌≡◌, Err}
use Rattle.bank_replays.specs.Refilling.{planned_at}
use Rattle.bank_replays.proofs.Filled.{opened_more}
use Rattle.bank_replays.proofs.Exits.{fails_by}
use Rattle.bank_replays.proofs.refill.Refill.open.Goals as goal

pub returns-clause-holds : goal.returns-clause-holds
returns-clause-holds g c sure plan is log holds =
    opened_more plan is log c.args.branch c.post.new.self _ c.planned_at-yet.result
    (c.planned_at-yet.ensures ∙ ap (λ items. planned_at items c.args.branch) c.deref.ensures.value
    ∙ ap (λ planned. planned_at planned.items c.args.branch) (sym c.in_ok-post.ensures.planned))
    c.if-yet-eq0.false c.in_ok-post.ensures.empty c.in_ok-post.ensures.empty c.plan_at.ensures
    (c.in_ok-post.ensures.holds sure plan log holds) c.open_planned.result
    (λ can shows. c.open_planned.ensures.opens sure can log shows) (λ cannot. c.open_planned.ensures.spares cannot)

pub returns-in_err-post : goal.returns-in_err-post
returns-in_err-post g c =
    let same : c.from_residual.result ≡ Err c.in_err-post.field-0.0 = fails_by c.from_residual.ensures.1 in
    record {
      holds = λ sure plan is log holds. rw same tt;
      memory = rw same c.in_err-post.ensures.memory;
    }

pub returns-clause-memory : goal.returns-clause-memory
returns-clause-memory g c = c.open_planned.ensures.memory
