-- The changed balance of one row.
use Rattle.bank_transactions.proofs.{Remembered.followed_change, Remembered.followed_none, Running.writes_none}
use Rattle.store_rows.specs.{Holders.holder_table, Lying.SetsBalance, Lying.holder_key}
use Rattle.bank_transactions.proofs.Exits.{handed_on, survives_itself}
use Rattle.bank_transactions.proofs.batch_changes.write_change.Goals as goal

pub returns-in_default-clause-writes : goal.returns-in_default-clause-writes
returns-in_default-clause-writes g c = rw c.in_default.is (writes_none (survives_itself _))

pub returns-in_default-clause-follows : goal.returns-in_default-clause-follows
returns-in_default-clause-follows g c = followed_none g.S.Store c.args.tx.now c.args.memory.now

pub returns-in_err-write_balance-clause-writes : goal.returns-in_err-write_balance-clause-writes
returns-in_err-write_balance-clause-writes g c =
    let same = handed_on c.from_residual.result c.from_residual.ensures.1 in
    rw (same, c.in-Some.is) c.in_err-write_balance.ensures.writes

pub returns-clause-writes : goal.returns-clause-writes
returns-clause-writes g c = rw c.in-Some.is c.in_ok-write_balance.ensures.writes

pub returns-clause-follows : goal.returns-clause-follows
returns-clause-follows g c =
    let h = c.args.holder.now in
    followed_change g.S.Store c.args.tx.now c.write_balance.new.tx (holder_table h) (holder_key h)
    (SetsBalance h c.in-Some.balance) c.args.memory.now c.change_balance.new.self c.in_ok-write_balance.ensures.lies
    c.change_balance.ensures.fits

pub returns-in_default-clause-noted : goal.returns-in_default-clause-noted
returns-in_default-clause-noted g c = rw c.in_default.is tt

pub returns-clause-noted : goal.returns-clause-noted
returns-clause-noted g c = rw c.in-Some.is c.change_balance.ensures.noted
