-- Eight rows more.
use Rattle.store_rows.specs.believed.BankTables as bank
use Rattle.bank_transactions.proofs.{Fitting.history_apart, Remembered.followed_put}
use Rattle.bank_transactions.proofs.Rows.{postings_added}
use Rattle.bank_transactions.proofs.batch_changes.HistoryRowNewRow.make_eight.Goals as goal

pub returns-clause-writes : goal.returns-clause-writes
returns-clause-writes g c = postings_added c.args.rows.now c.add_eight_postings.ensures.adds

pub returns-clause-follows : goal.returns-clause-follows
returns-clause-follows g c =
    followed_put g.S.Store c.args.tx.now c.add_eight_postings.new.tx bank.history history_apart c.add_eight_postings.result
    c.add_eight_postings.ensures.lies
