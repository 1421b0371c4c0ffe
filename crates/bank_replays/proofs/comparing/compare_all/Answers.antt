-- One half after the other.
use Rattle.std.proofs.Common.{refl}
use Rattle.bank_replays.proofs.AllTables.{all_same, any_differs}
use Rattle.bank_replays.proofs.Comparisons.{compared_as, compared_both, compared_first, not_none, some_not_none}
use Rattle.bank_replays.proofs.comparing.compare_all.Goals as goal

pub returns-in-Ok-None : goal.returns-in-Ok-None
returns-in-Ok-None g c =
    compared_as all_same (λ db other d it f due has has_due. any_differs db other d f due has has_due it)
    (compared_both (rw c.in-Ok-None.field-0-is at c.in-Ok-None.ensures) c.compare_five.ensures)

pub returns-in-Ok-Some : goal.returns-in-Ok-Some
returns-in-Ok-Some g c =
    compared_as all_same (λ db other d it f due has has_due. any_differs db other d f due has has_due it)
    (compared_first (rw c.in-Ok-Some.field-0-is at c.in-Ok-Some.ensures) (some_not_none _ _ refl))

pub returns-in-Err : goal.returns-in-Err
returns-in-Err g c = compared_as all_same (λ db other d it f due has has_due. any_differs db other d f due has has_due it)
    (compared_first c.in-Err.ensures (not_none _ _ refl))
