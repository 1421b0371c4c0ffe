use Rattle.std.proofs.Common.{rules}
use Rattle.posting_batch.proofs.overlay.Overlay.look_up.Goals as goal

pub returns-clause-value : goal.returns-clause-value
returns-clause-value c = search rules
