-- Where nothing is asked that there is, that is the command.
use Rattle.std.proofs.Common.{◌∙◌, inl, inr, refl, sym}
use Rattle.command_line.proofs.reading.statements_in.Goals as goal

pub returns-in-Err-clause-command : goal.returns-in-Err-clause-command
returns-in-Err-clause-command c = inl (inr refl, sym c.in-Err.is ∙ c.query_in.ensures)
