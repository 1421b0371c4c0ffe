use Rattle.std.proofs.Common.{rules, ◌∙◌}
use Rattle.std.specs.Prelude.{codes}
use mir.Val.{SFits}
use mir.Syntax.{w64}
use Rattle.std.proofs.lemmas.{Int.to_z-of_z, Result.IfOk-weaker}
use Rattle.counter_http.proofs.Listed.{holder_text}
use Rattle.counter_http.proofs.lines.line_of_teller.Goals as goal

pub returns : goal.returns
returns c = IfOk-weaker c.format.result _ _ (λ s h.
    h ∙ holder_text (codes "teller ") c.args.teller _ c.args.balance _ c.get-number.ensures.value
    (let fits : SFits w64 c.get-cents.result = search rules in to_z-of_z w64 c.get-cents.result fits
    ∙ c.get-cents.ensures.value)) c.format.ensures.ok
