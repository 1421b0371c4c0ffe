-- Each argument is added in its turn.
use Rattle.command_line.specs.CommandLine.{csv_rule, reference_rule}
use Rattle.command_line.proofs.command_line.with_query.Goals as goal

pub returns : goal.returns
returns c app is =
    let days = c.with_days.ensures app is in
    let reference = c.with_argument.ensures _ reference_rule days c.optional_text-reference.ensures.rule in
    c.with_argument-2.ensures _ csv_rule reference c.flag-csv.ensures.rule
