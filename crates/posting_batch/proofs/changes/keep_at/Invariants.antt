use Rattle.std.proofs.Common.{◌≡◌, ◌++◌, take, drop, map}
use Rattle.posting_batch.specs.Slots.{with_kept}
use Rattle.posting_batch.proofs.changes.keep_at.Given as goal

-- the slots so far are changed, and the others are as they were
abbrev pub invariant-loop-slot : goal.invariant-loop-slot
invariant-loop-slot l =
    l.slots ≡ map (with_kept l.teller l.number l.kept)
    (take l.slot-index l.fn.slots) ++ drop l.slot-index l.fn.slots
