use Rattle.posting_core.proofs.LogGrowth.{log_grows}
use Rattle.posting_core.proofs.entries.entries_are_added.Goals as goal

pub returns : goal.returns
returns c = λ planned log commands entries. log_grows planned commands log entries
