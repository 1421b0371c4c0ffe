-- The slots so far are told, and the others are as they were.
use Rattle.std.proofs.Common.{◌≡◌, ◌++◌, take, drop, map}
use Rattle.bank_transactions.proofs.closed.tell_all.Given as goal

abbrev pub invariant-loop-slot : goal.invariant-loop-slot
invariant-loop-slot g l =
    l.slots ≡ map (g.T.Tells.told l.teller) (take l.slot-index l.fn.slots) ++ drop l.slot-index l.fn.slots
