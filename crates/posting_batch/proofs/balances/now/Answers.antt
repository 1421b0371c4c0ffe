use Rattle.std.proofs.Common.{rules}
use Rattle.posting_batch.proofs.balances.now.Goals as goal

pub returns-in-Some : goal.returns-in-Some
returns-in-Some c = search rules
