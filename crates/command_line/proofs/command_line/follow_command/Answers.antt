use Rattle.command_line.specs.CommandLine.{plan_rule}
use Rattle.command_line.proofs.command_line.follow_command.Goals as goal

pub returns : goal.returns
returns c = c.with_argument.ensures _ plan_rule c.command_on_file-follow.ensures c.required_argument-plan.ensures.rule
