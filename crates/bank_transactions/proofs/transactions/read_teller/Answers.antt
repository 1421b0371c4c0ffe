-- The transaction has one part, which reads.
use Rattle.std.proofs.Common.{rules}
use Rattle.bank_transactions.proofs.{LookUps.does_read, Transacted.commits_read, Transacted.consults, Transacted.undoes}
use Rattle.bank_transactions.proofs.transactions.read_teller.Goals as goal

pub returns-clause-says : goal.returns-clause-says
returns-clause-says g c =
    consults g.S.Store c.args.conn.now c.begin-tx.result c.teller_balances-balances.new.tx c.finish.new.tx.0 _
    c.begin-tx.ensures.begun
    c.begin-tx.ensures.settled c.teller_balances-balances.ensures.says c.finish.ensures (search rules)

pub returns-clause-left : goal.returns-clause-left
returns-clause-left g c =
    commits_read g.S.Store c.args.conn.now c.begin-tx.result c.teller_balances-balances.new.tx c.finish.new.tx.0
    c.conn-1.given.0 c.begin-tx.ensures.begun c.teller_balances-balances.ensures.says c.finish.ensures (search rules)

pub returns-clause-undone : goal.returns-clause-undone
returns-clause-undone g c =
    undoes g.S.Store c.args.conn.now c.begin-tx.result c.teller_balances-balances.new.tx c.finish.new.tx.0
    c.conn-1.given.0 c.begin-tx.ensures.begun c.begin-tx.ensures.settled (does_read {Adds = λ text values. ⊥}
    c.teller_balances-balances.ensures.says)
    c.finish.ensures (search rules)
