-- A row more.
use Rattle.store_rows.specs.believed.BankTables as bank
use Rattle.bank_transactions.proofs.{Fitting.references_apart, Remembered.followed_put}
use Rattle.bank_transactions.proofs.Rows.{reference_added}
use Rattle.bank_transactions.proofs.batch_changes.ReferenceRowChange.make.Goals as goal

pub returns-clause-writes : goal.returns-clause-writes
returns-clause-writes g c = reference_added c.args.self.now c.add_reference.ensures.adds

pub returns-clause-follows : goal.returns-clause-follows
returns-clause-follows g c =
    followed_put g.S.Store c.args.tx.now c.add_reference.new.tx bank.reference references_apart c.add_reference.result c.add_reference.ensures.lies c.args._memory.now
