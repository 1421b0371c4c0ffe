use Rattle.std.proofs.Common.{rules}
use Rattle.command_line.proofs.lines.explain.Goals as goal

pub returns-in-OutOfMemory-clause-status : goal.returns-in-OutOfMemory-clause-status
returns-in-OutOfMemory-clause-status g c = search rules
