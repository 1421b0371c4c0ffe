use Rattle.std.proofs.Common.{take}
use Rattle.posting_rules.specs.Branches.{IsNextIn}
use Rattle.posting_core.proofs.branches.next_at.Given as goal

-- it is the next of the rows so far
abbrev pub invariant-loop-row : goal.invariant-loop-row
invariant-loop-row l = IsNextIn (take l.row-index l.rows) l.after l.next
