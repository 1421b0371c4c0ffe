-- The name tells the command.
use Rattle.command_line.proofs.reading.command_on_file.Goals as goal

pub returns-in-init-clause-command : goal.returns-in-init-clause-command
returns-in-init-clause-command c = (c.requires, c.in-init.is)

pub returns-in-migrate-clause-command : goal.returns-in-migrate-clause-command
returns-in-migrate-clause-command c = (c.requires, c.in-migrate.is)

pub returns-in-why-clause-command : goal.returns-in-why-clause-command
returns-in-why-clause-command c = (c.in-why.is, c.requires)

pub returns-in-statement-clause-command : goal.returns-in-statement-clause-command
returns-in-statement-clause-command c = rw c.in-statement.is c.statement_in.ensures.command

pub returns-in-statements-clause-command : goal.returns-in-statements-clause-command
returns-in-statements-clause-command c = rw c.in-statements.is c.statements_in.ensures.command

pub returns-in-Some-clause-command : goal.returns-in-Some-clause-command
returns-in-Some-clause-command c = (c.requires, c.in-Some.ensures.work)

pub returns-in-serve-clause-command : goal.returns-in-serve-clause-command
returns-in-serve-clause-command c = rw c.in-serve.is c.served_in.ensures.command
