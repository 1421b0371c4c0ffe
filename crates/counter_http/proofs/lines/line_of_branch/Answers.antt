use Rattle.std.proofs.Common.{rules, ◌∙◌}
use mir.Val.{SFits}
use mir.Syntax.{w64}
use Rattle.std.proofs.lemmas.{Int.to_z-of_z, Result.IfOk-weaker}
use Rattle.counter_http.proofs.Listed.{line_text}
use Rattle.counter_http.proofs.lines.line_of_branch.Goals as goal

pub returns : goal.returns
returns c = IfOk-weaker c.format.result _ _
    (λ s h. let k = rw (
      c.laid_out.ensures,
      c.laid_out-2.ensures,
      c.laid_out-3.ensures,
      c.get-branch.ensures.value,
    ) at h in
    k
    ∙ line_text c.args.line.now.branch c.args.line.now.accounts c.args.line.now.balance _
    (let fits : SFits w64 c.get-balance.result = search rules in to_z-of_z w64 c.get-balance.result fits
    ∙ c.get-balance.ensures.value)) c.format.ensures.ok
