use Rattle.std.proofs.Common.{rules}
use Rattle.command_line.proofs.fault.CommandFault.status.Goals as goal

pub returns-in-Store : goal.returns-in-Store
returns-in-Store c = search rules
