use Rattle.command_line.specs.CommandLine.{plan_rule}
use Rattle.command_line.proofs.command_line.load_command.Goals as goal

pub returns : goal.returns
returns c = c.with_argument.ensures _ plan_rule c.command_on_file-load.ensures c.required_argument-plan.ensures.rule
