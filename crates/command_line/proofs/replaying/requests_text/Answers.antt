use Rattle.std.proofs.Common.{◌∙◌}
use Rattle.std.proofs.lemmas.Result.{IfOk-weaker}
use Rattle.command_line.proofs.Filled.{requests_filled}
use Rattle.command_line.proofs.replaying.requests_text.Goals as goal

pub returns : goal.returns
returns c = IfOk-weaker c.format.result _ _
    (λ s h. let k = rw c.laid_out.ensures at h in
    k ∙ requests_filled c.args.requests) c.format.ensures.ok
