use Rattle.std.proofs.Common.{rules, Option, sym, ap, ◌∙◌}
use Rattle.std.specs.Prelude.{ℤ}
use mir.Val.{SFits}
use mir.Syntax.{w64}
use Rattle.std.proofs.lemmas.{Int.to_z-of_z, Result.IfOk-weaker}
use Rattle.posting_rules.specs.believed.Commands.{opened_with}
use Rattle.counter_http.specs.believed.Answers.{plan_line}
use Rattle.counter_http.proofs.Listed.{plan_text, plan_text_bare}
use Rattle.counter_http.proofs.lines.line_of_plan.Goals as goal

pub returns-in_default : goal.returns-in_default
returns-in_default c = IfOk-weaker c.format.result _ _ (λ s h.
    h ∙ plan_text_bare c.args.line.now.branch c.args.line.now.accounts _ c.get-branch.ensures.value
    ∙ ap (λ (f : Option ℤ). plan_line c.args.line.now.branch (opened_with c.args.line.now.accounts f))
    (sym c.in_default.is)) c.format.ensures.ok

pub returns : goal.returns
returns c = IfOk-weaker c.format-2.result _ _ (λ s h.
    h ∙ plan_text c.args.line.now.branch c.args.line.now.accounts _ c.in-Some.floor _ c.get-branch.ensures.value
    (let fits : SFits w64 c.get-lowest.result = search rules in to_z-of_z w64 c.get-lowest.result fits
    ∙ c.get-lowest.ensures.value)
    ∙ ap (λ (f : Option ℤ). plan_line c.args.line.now.branch (opened_with c.args.line.now.accounts f))
    (sym c.in-Some.is)) c.format-2.ensures.ok
