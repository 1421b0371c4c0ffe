use Rattle.std.proofs.Common.{refl}
use Rattle.bank_replays.proofs.exports.is_after.Goals as goal

pub returns : goal.returns
returns c = rw c.get.ensures.value refl
