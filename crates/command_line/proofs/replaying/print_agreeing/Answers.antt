-- The text that was made is printed.
use Rattle.std.proofs.Common.{◌≡◌, ◌∙◌}
use Rattle.command_line.specs.Replaying.{agreeing_lines}
use Rattle.command_line.proofs.Printed.{text_printed, text_unmade}
use Rattle.command_line.proofs.replaying.print_agreeing.Goals as goal

pub returns-in_default : goal.returns-in_default
returns-in_default g c = text_unmade (agreeing_lines c.args.requests c.args.sha256.now c.args.plan.now c.args.closings.now) _ _

pub returns : goal.returns
returns g c =
    let same : c.as_str.result.now ≡ agreeing_lines c.args.requests c.args.sha256.now c.args.plan.now c.args.closings.now =
    c.as_str.ensures.value ∙ c.in-Ok.ensures in
    let printed = c.print_line.ensures in
    rw (← same) (text_printed _ _ _ _ _ c.print_line.result printed.prints printed.fault printed.failed)
