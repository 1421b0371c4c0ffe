use Rattle.std.proofs.Common.{◌≡◌, ◌++◌, take, drop, map}
use Rattle.posting_batch.proofs.emptying.empty_all.Given as goal

-- the slots so far are empty, and the others are as they were
abbrev pub invariant-loop-slot : goal.invariant-loop-slot
invariant-loop-slot g l =
    l.slots ≡ map g.T.Emptied.empty (take l.slot-index l.fn.slots) ++ drop l.slot-index l.fn.slots
