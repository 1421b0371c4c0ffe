-- What the new row leaves.
use Rattle.std.proofs.Common.{arith, refl}
use Rattle.store_rows.proofs.{Lookups.amount_column, Lookups.whole_column, Writes.rows_put}
use Rattle.store_rows.proofs.branches.add_branch.Goals as goal

pub returns : goal.returns
returns g c = rows_put.branch c.args.row _ g.S.Store _ _ (omega arith) c.put_in.result (rw (
  whole_column c.params-to_sql.ensures c.get-key.ensures.value (omega arith),
  whole_column (rw c.from-accounts.ensures at c.params-to_sql-2.ensures) refl (omega arith),
  amount_column c.params-to_sql-3.ensures c.get-balance.ensures.value c.get-balance.ensures.least
      c.get-balance.ensures.most,
) at c.put_in.ensures)
