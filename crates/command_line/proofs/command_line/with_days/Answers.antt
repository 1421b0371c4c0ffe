-- Each argument is added in its turn.
use Rattle.command_line.specs.CommandLine.{from_rule, to_rule, zone_rule}
use Rattle.command_line.proofs.command_line.with_days.Goals as goal

pub returns : goal.returns
returns c app is =
    let from = c.with_argument.ensures app from_rule is c.optional_text-from.ensures.rule in
    let to = c.with_argument-2.ensures _ to_rule from c.optional_text-to.ensures.rule in
    c.with_argument-3.ensures _ zone_rule to c.optional_text-zone.ensures.rule
