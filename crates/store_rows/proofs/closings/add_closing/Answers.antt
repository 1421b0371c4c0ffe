-- What the new row leaves.
use Rattle.std.proofs.Common.{arith, refl}
use Rattle.store_rows.proofs.{Lookups.whole_column, LyingRows.closing_put, Readings.in_order, Writes.rows_put}
use Rattle.store_rows.proofs.closings.add_closing.Goals as goal

pub returns-clause-adds : goal.returns-clause-adds
returns-clause-adds g c =
    let most = c.requires.last in
    let ordered = in_order c.args.row.now.first c.args.row.now.last c.requires.numbers in
    rows_put.closing c.args.row.now _ g.S.Store _ _ most c.put_in.result (rw (
      whole_column c.params-to_sql.ensures refl (omega (arith, most)),
      whole_column c.params-to_sql-2.ensures refl (omega (arith, most, ordered)),
    ) at c.put_in.ensures)

pub returns-clause-lies : goal.returns-clause-lies
returns-clause-lies g c =
    let most = c.requires.last in
    let ordered = in_order c.args.row.now.first c.args.row.now.last c.requires.numbers in
    closing_put g.S.Store _ _ c.put_in.result c.args.row.now (rw (
      whole_column c.params-to_sql.ensures refl (omega (arith, most)),
      whole_column c.params-to_sql-2.ensures refl (omega (arith, most, ordered)),
    ) at c.put_in.ensures)
