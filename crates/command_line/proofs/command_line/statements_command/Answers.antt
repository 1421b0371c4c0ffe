use Rattle.std.proofs.Common.{codes}
use Rattle.clap.specs.Words.{new_app, with_rule}
use Rattle.command_line.specs.CommandLine.{file_rule}
use Rattle.command_line.proofs.command_line.statements_command.Goals as goal

pub returns : goal.returns
returns c = c.with_query.ensures (with_rule (new_app (codes "statements")) file_rule) c.command_on_file-statements.ensures
