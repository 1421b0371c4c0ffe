-- A row more.
use Rattle.store_rows.specs.believed.BankTables as bank
use Rattle.bank_transactions.proofs.{Fitting.history_apart, Remembered.followed_put}
use Rattle.bank_transactions.proofs.Rows.{posting_added}
use Rattle.bank_transactions.proofs.batch_changes.HistoryRowChange.make.Goals as goal

pub returns-clause-writes : goal.returns-clause-writes
returns-clause-writes g c = posting_added c.args.self.now c.add_history.ensures.adds

pub returns-clause-follows : goal.returns-clause-follows
returns-clause-follows g c =
    followed_put g.S.Store c.args.tx.now c.add_history.new.tx bank.history history_apart c.add_history.result c.add_history.ensures.lies c.args._memory.now
