use Rattle.std.proofs.Common.{◌≡◌, ◌++◌, take, drop, map}
use Rattle.posting_rules.proofs.RowChanges.{changed_at}
use Rattle.posting_batch.proofs.changes.change_at.Given as goal

-- the rows so far are changed, and the others are as they were
abbrev pub invariant-loop-row : goal.invariant-loop-row
invariant-loop-row g l =
    l.rows ≡ map (changed_at g.R.BalanceRow.key l.number (g.R.BalanceRow.with_balance l.balance))
    (take l.row-index l.fn.rows) ++ drop l.row-index l.fn.rows
