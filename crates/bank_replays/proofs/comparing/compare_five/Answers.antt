-- One after the other.
use Rattle.std.proofs.Common.{refl}
use Rattle.bank_replays.proofs.Comparisons.{compared_both, compared_first, not_none, some_not_none}
use Rattle.bank_replays.proofs.comparing.compare_five.Goals as goal

pub returns-in-Ok-None : goal.returns-in-Ok-None
returns-in-Ok-None g c =
    compared_both (rw c.in-Ok-None.field-0-is at c.in-Ok-None.ensures) c.compare.ensures

pub returns-in-Ok-Some : goal.returns-in-Ok-Some
returns-in-Ok-Some g c =
    compared_first (rw c.in-Ok-Some.field-0-is at c.in-Ok-Some.ensures) (some_not_none _ _ refl)

pub returns-in-Err : goal.returns-in-Err
returns-in-Err g c = compared_first c.in-Err.ensures (not_none _ _ refl)
