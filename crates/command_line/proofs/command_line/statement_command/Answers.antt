use Rattle.command_line.specs.CommandLine.{account_app}
use Rattle.command_line.proofs.command_line.statement_command.Goals as goal

pub returns : goal.returns
returns c = c.with_query.ensures account_app c.statement_of_account.ensures
