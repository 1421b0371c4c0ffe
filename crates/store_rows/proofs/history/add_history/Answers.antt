-- What the new row leaves.
use Rattle.store_rows.proofs.{LyingRows.posting_put, Writes.rows_put}
use Rattle.store_rows.proofs.history.add_history.Goals as goal

pub returns-clause-adds : goal.returns-clause-adds
returns-clause-adds g c = rows_put.posting c.args.row _ g.S.Store _ _ c.values_of.ensures.low c.put_in.result
    (rw c.values_of.ensures.values at c.put_in.ensures)

pub returns-clause-lies : goal.returns-clause-lies
returns-clause-lies g c = posting_put g.S.Store _ _ c.put_in.result c.args.row
    (rw c.values_of.ensures.values at c.put_in.ensures)
