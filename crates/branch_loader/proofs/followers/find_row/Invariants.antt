-- No row so far is of the branch.
use Rattle.std.proofs.Common.{◌≡◌, None, take}
use Rattle.branch_loader.specs.Following.{row_of}
use Rattle.branch_loader.proofs.followers.find_row.Given as goal

abbrev pub invariant-loop-row : goal.invariant-loop-row
invariant-loop-row l = row_of (take l.row-index l.rows) l.branch ≡ None
