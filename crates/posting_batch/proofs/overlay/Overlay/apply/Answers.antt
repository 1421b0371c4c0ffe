use Rattle.std.proofs.Common.{◌∙◌}
use Rattle.posting_batch.proofs.overlay.Overlay.apply.Goals as goal

pub returns-in-Refused-clause-overlay : goal.returns-in-Refused-clause-overlay
returns-in-Refused-clause-overlay c = rw c.in-Refused.is (rw c.zero.ensures at c.keep.ensures.overlay)

pub returns-in-Posted-clause-overlay : goal.returns-in-Posted-clause-overlay
returns-in-Posted-clause-overlay c =
    rw c.in-Posted.is (c.keep-in-Posted.ensures.overlay ∙ c.move_money.ensures.overlay)
