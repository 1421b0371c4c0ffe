-- What the new row leaves.
use Rattle.std.proofs.Common.{[], ◌∷◌}
use Rattle.sql_meanings.proofs.PutRows.{puts_one}
use Rattle.store_rows.proofs.{LyingRows.request_put, NewRequests.puts_new, Puts.puts, Writes.rows_put}
use Rattle.store_rows.specs.declared.texts.TheConstants.{ADD_REQUEST}
use Rattle.store_rows.proofs.requests.add_request.Goals as goal

pub returns-clause-adds : goal.returns-clause-adds
returns-clause-adds g c = rows_put.request c.args.row _ g.S.Store _ _ c.values_of.ensures.low c.put_in.result
    (rw c.values_of.ensures.values at c.put_in.ensures)

pub returns-clause-unknown : goal.returns-clause-unknown
returns-clause-unknown g c = puts_new ADD_REQUEST.now (c.args.row ∷ []) (puts_one (puts.request c.args.row))
    g.S.Store _ _ c.put_in.result (rw c.values_of.ensures.values at c.put_in.ensures)

pub returns-clause-lies : goal.returns-clause-lies
returns-clause-lies g c = request_put g.S.Store _ _ c.put_in.result c.args.row
    (rw c.values_of.ensures.values at c.put_in.ensures)
