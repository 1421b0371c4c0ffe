-- What the write of a balance leaves.
use Rattle.std.proofs.Common.{refl}
use Rattle.store_rows.specs.Holders.{holder_table, holder_update, is_there, with_balance}
use Rattle.store_rows.specs.Lying.{SetsBalance, holder_key}
use Rattle.store_rows.specs.believed.SeveralRows.{under}
use Rattle.bank_transactions.specs.believed.Additions.{WritesUnder}
use Rattle.bank_transactions.proofs.{Leading.lead_balance, Remembered.lies_expected, Running.writes_write}
use Rattle.bank_transactions.proofs.balances.write_balance.Goals as goal

pub returns-clause-writes : goal.returns-clause-writes
returns-clause-writes g c =
    let h = c.args.holder in
    let z = c.args.balance in
    writes_write (WritesUnder (holder_update h) (holder_key h)) g.S.Store _ _ (holder_update h)
    (under (holder_key h) z) (with_balance h z) (refl, z, refl) (λ t so. lead_balance h z t) (holder_table h) (is_there h)
    c.set_balance.result c.rule_of-rule.result _ c.rule_of-rule.ensures c.expect_row.ensures c.set_balance.ensures.sets
    (λ t so. so)

pub returns-clause-lies : goal.returns-clause-lies
returns-clause-lies g c =
    let h = c.args.holder in
    lies_expected g.S.Store c.args.tx.now c.set_balance.new.tx (holder_table h) (holder_key h) (SetsBalance h c.args.balance)
    c.set_balance.result c.rule_of-rule.result _ c.expect_row.ensures c.set_balance.ensures.lies
