use Rattle.std.proofs.Common.{◌∙◌, refl, sym}
use Rattle.counter_http.specs.Next.{asked}
use Rattle.counter_http.proofs.AnsweredTurns.{not_as_long}
use Rattle.counter_http.proofs.tasks.posting_task.Goals as goal

pub returns-in-None : goal.returns-in-None
returns-in-None c =
    let p = not_as_long (asked c.args.message.now) (sym c.is_post.ensures ∙ c.if-not-is_post.false)
    c.in-None.ensures.cases in
    (p.0, (λ log. p.1 log ∙ sym c.bad_request.ensures), refl)
