use Rattle.command_line.specs.CommandLine.{after_rule}
use Rattle.command_line.proofs.command_line.log_command.Goals as goal

pub returns : goal.returns
returns c = c.with_argument.ensures _ after_rule c.command_on_file-log.ensures c.optional_number-after.ensures.rule
