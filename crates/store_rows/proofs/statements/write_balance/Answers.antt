-- The number that is written is the balance.
use Rattle.store_rows.proofs.Lookups.{as_amount}
use Rattle.store_rows.proofs.statements.write_balance.Goals as goal

pub returns : goal.returns
returns g c = rw (as_amount c.get.result c.args.balance c.get.ensures.value c.get.ensures.least
    c.get.ensures.most) at c.write_under.ensures
