use Rattle.std.proofs.Common.{rules}
use Rattle.posting_core.proofs.system_clock.moment_of.Goals as goal

pub returns : goal.returns
returns c = search rules
