-- Where nothing is asked that there is, that is the command.
use Rattle.std.proofs.Common.{◌∙◌, inl, refl, sym}
use Rattle.command_line.proofs.reading.statement_in.Goals as goal

pub returns-in-Err-clause-command : goal.returns-in-Err-clause-command
returns-in-Err-clause-command c = inl (inl refl, sym c.in-Err.is ∙ c.query_in.ensures)
