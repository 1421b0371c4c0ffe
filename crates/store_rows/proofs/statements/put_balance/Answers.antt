-- The values are the key and the balance.
use Rattle.std.proofs.Common.{arith, refl}
use Rattle.store_rows.proofs.Lookups.{amount_column, whole_column}
use Rattle.store_rows.proofs.statements.put_balance.Goals as goal

pub returns : goal.returns
returns g c = rw (
  whole_column c.params-to_sql.ensures refl (omega arith),
  amount_column c.params-to_sql-2.ensures c.get-balance.ensures.value c.get-balance.ensures.least
      c.get-balance.ensures.most,
) at c.put_in.ensures
