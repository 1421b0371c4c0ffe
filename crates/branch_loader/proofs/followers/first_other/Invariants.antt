-- The replies so far are those that were due.
use Rattle.std.proofs.Common.{◌≡◌, take}
use Rattle.branch_loader.proofs.followers.first_other.Given as goal

abbrev pub invariant-loop-i : goal.invariant-loop-i
invariant-loop-i l = take l.i l.given ≡ take l.i l.due
