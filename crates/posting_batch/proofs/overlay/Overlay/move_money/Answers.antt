use Rattle.std.proofs.{Common.arith, lemmas.Grind.common_steps}
use Rattle.posting_batch.proofs.overlay.Overlay.move_money.Goals as goal

pub returns-clause-overlay : goal.returns-clause-overlay
returns-clause-overlay c = grind (arith, common_steps)
