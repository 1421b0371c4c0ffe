-- The first of them are alike.
use Rattle.std.proofs.Common.{◌≡◌, take}
use Rattle.shared_log.proofs.joining.alike.Given as goal

abbrev pub invariant-loop-i : goal.invariant-loop-i
invariant-loop-i l = take l.i l.own ≡ take l.i l.given
