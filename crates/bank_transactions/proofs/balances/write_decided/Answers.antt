-- What the write of the count leaves.
use Rattle.std.proofs.Common.{true, pos, refl}
use Rattle.posting_rules.specs.{believed.Changes.with_decided, declared.fault.Rule.TheVariants.Meta}
use Rattle.store_rows.specs.believed.{BankTables.meta, Inserts.meta_key, Inserts.meta_update, SeveralRows.under}
use Rattle.bank_transactions.specs.believed.Additions.{WritesUnder}
use Rattle.store_rows.specs.Lying.{SetsDecided}
use Rattle.bank_transactions.proofs.{Leading.lead_decided, Remembered.count_lies, Remembered.counts_expected}
use Rattle.bank_transactions.proofs.{Remembered.lies_expected, Running.writes_write}
use Rattle.bank_transactions.proofs.balances.write_decided.Goals as goal

pub returns-clause-writes : goal.returns-clause-writes
returns-clause-writes g c =
    let n = c.args.decided in
    writes_write (WritesUnder meta_update meta_key) g.S.Store _ _ meta_update (under meta_key (pos n))
    (with_decided n) (refl, pos n, refl) (λ t so. lead_decided n t) meta (λ t. true) c.set_decided.result Meta _ refl
    c.expect_row.ensures c.set_decided.ensures.sets (λ t so. refl)

pub returns-clause-counts : goal.returns-clause-counts
returns-clause-counts g c =
    counts_expected g.S.Store c.args.tx.now c.set_decided.new.tx c.args.decided c.set_decided.result Meta _ c.expect_row.ensures
    c.set_decided.ensures.counts

pub returns-clause-lies : goal.returns-clause-lies
returns-clause-lies g c =
    count_lies g.S.Store c.args.tx.now c.set_decided.new.tx c.args.decided _
    (counts_expected g.S.Store c.args.tx.now c.set_decided.new.tx c.args.decided c.set_decided.result Meta _ c.expect_row.ensures
    c.set_decided.ensures.counts)
    (lies_expected g.S.Store c.args.tx.now c.set_decided.new.tx meta meta_key (SetsDecided c.args.decided)
    c.set_decided.result Meta _ c.expect_row.ensures c.set_decided.ensures.lies)
