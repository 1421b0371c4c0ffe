-- The text that was made is printed.
use Rattle.std.proofs.Common.{◌≡◌, ◌∙◌, [], refl, List, ℕ, Option, Some, None}
use Rattle.std.specs.Prelude.{unwrap_or}
use Rattle.command_line.specs.Replaying.{IsTextOf, differing_lines}
use Rattle.command_line.proofs.Printed.{text_printed, text_unmade}
use Rattle.command_line.proofs.replaying.print_differing.Goals as goal

known : (output : Option (List ℕ)) → IsTextOf output (unwrap_or output [])
known (Some text) = refl
known None = tt

pub returns-in_default : goal.returns-in_default
returns-in_default g c =
    let output = g.D.Display.output c.args.difference in
    (unwrap_or output [], known output, text_unmade (differing_lines (unwrap_or output [])) _ _)

pub returns : goal.returns
returns g c =
    let it = c.in-Ok.ensures in
    let same : c.as_str.result.now ≡ differing_lines it.0 = c.as_str.ensures.value ∙ it.2 in
    let printed = c.print_line.ensures in (
      it.0,
      it.1,
      rw (← same) (text_printed _ _ _ _ _ c.print_line.result printed.prints printed.fault printed.failed),
    )
