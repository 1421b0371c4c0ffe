use Rattle.std.proofs.Common.{◌≡◌, ◌+◌, drop}
use Rattle.posting_batch.specs.Placed.{rank}
use Rattle.posting_batch.proofs.placement.rank.Given as goal

-- the slots so far are below the other one
abbrev pub invariant-loop-place : goal.invariant-loop-place
invariant-loop-place g l = rank g.T.Ranked.below l.other l.slots ≡ l.place + rank g.T.Ranked.below l.other
    (drop l.place l.slots)
