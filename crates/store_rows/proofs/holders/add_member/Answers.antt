-- What the new row leaves.
use Rattle.std.proofs.Common.{arith}
use Rattle.posting_rules.specs.believed.Tables.{account_row_of, teller_row_of}
use Rattle.store_rows.proofs.Writes.{rows_put}
use Rattle.store_rows.proofs.holders.add_member.Goals as goal

pub returns-in-Account : goal.returns-in-Account
returns-in-Account g c =
    rw c.in-Account.is
    (rows_put.account (account_row_of c.in-Account.account c.args.balance) _ g.S.Store _ _ (omega arith)
    c.put_balance.result (rw c.get.ensures.value at c.put_balance.ensures))

pub returns-in-Teller : goal.returns-in-Teller
returns-in-Teller g c =
    rw c.in-Teller.is
    (rows_put.teller (teller_row_of c.in-Teller.teller c.args.balance) _ g.S.Store _ _ (omega arith)
    c.put_balance-in-Teller.result (rw c.get-in-Teller.ensures.value at c.put_balance-in-Teller.ensures))
