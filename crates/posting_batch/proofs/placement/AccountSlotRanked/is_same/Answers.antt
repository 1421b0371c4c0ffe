use Rattle.std.proofs.Common.{refl}
use Rattle.posting_batch.proofs.placement.AccountSlotRanked.is_same.Goals as goal

pub returns : goal.returns
returns c = rw (c.get.ensures.value, c.get-2.ensures.value) refl
