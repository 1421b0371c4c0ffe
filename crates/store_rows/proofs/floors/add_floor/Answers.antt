-- What the new row leaves.
use Rattle.std.proofs.Common.{arith}
use Rattle.store_rows.proofs.Writes.{rows_put}
use Rattle.store_rows.proofs.floors.add_floor.Goals as goal

pub returns : goal.returns
returns g c = rows_put.floor c.args.row _ g.S.Store _ _ (omega arith) c.put_balance.result
    (rw c.get.ensures.value at c.put_balance.ensures)
