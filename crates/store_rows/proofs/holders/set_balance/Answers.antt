-- What the write leaves.
use Rattle.std.proofs.Common.{arith}
use Rattle.std.proofs.lemmas.Int.{ints}
use Rattle.store_rows.proofs.LyingRows.{account_set, branch_set, teller_set}
use Rattle.store_rows.proofs.Writes.{balances_set}
use Rattle.store_rows.proofs.holders.set_balance.Goals as goal

pub returns-in-Account-clause-sets : goal.returns-in-Account-clause-sets
returns-in-Account-clause-sets g c =
    rw c.in-Account.is
    (balances_set.account _ g.S.Store _ _ c.in-Account.account (omega arith) c.args.balance
    c.write_balance.result (rw c.get.ensures.value at c.write_balance.ensures))

pub returns-in-Account-clause-lies : goal.returns-in-Account-clause-lies
returns-in-Account-clause-lies g c =
    rw c.in-Account.is
    (account_set g.S.Store _ _ c.args.balance (omega (arith, ints)) (omega (arith, ints)) c.write_balance.result
    c.in-Account.account (rw c.get.ensures.value at c.write_balance.ensures))

pub returns-in-Teller-clause-sets : goal.returns-in-Teller-clause-sets
returns-in-Teller-clause-sets g c =
    rw c.in-Teller.is
    (balances_set.teller _ g.S.Store _ _ c.in-Teller.teller (omega arith) c.args.balance
    c.write_balance-in-Teller.result (rw c.get-in-Teller.ensures.value at c.write_balance-in-Teller.ensures))

pub returns-in-Teller-clause-lies : goal.returns-in-Teller-clause-lies
returns-in-Teller-clause-lies g c =
    rw c.in-Teller.is
    (teller_set g.S.Store _ _ c.args.balance (omega (arith, ints)) (omega (arith, ints)) c.write_balance-in-Teller.result
    c.in-Teller.teller (rw c.get-in-Teller.ensures.value at c.write_balance-in-Teller.ensures))

pub returns-in-Branch-clause-sets : goal.returns-in-Branch-clause-sets
returns-in-Branch-clause-sets g c =
    rw c.in-Branch.is
    (balances_set.branch _ g.S.Store _ _ c.in-Branch.branch (omega arith) c.args.balance
    c.write_balance-in-Branch.result (rw c.get-in-Branch.ensures.value at c.write_balance-in-Branch.ensures))

pub returns-in-Branch-clause-lies : goal.returns-in-Branch-clause-lies
returns-in-Branch-clause-lies g c =
    rw c.in-Branch.is
    (branch_set g.S.Store _ _ c.args.balance (omega (arith, ints)) (omega (arith, ints)) c.write_balance-in-Branch.result
    c.in-Branch.branch (rw c.get-in-Branch.ensures.value at c.write_balance-in-Branch.ensures))
