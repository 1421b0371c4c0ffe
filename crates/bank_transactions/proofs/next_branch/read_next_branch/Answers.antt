-- The transaction has one part, which reads.
use Rattle.std.proofs.Common.{rules}
use Rattle.std.proofs.lemmas.Result.{IfOk-weaker}
use Rattle.bank_transactions.specs.Stored.{IsStoredNext}
use Rattle.bank_transactions.proofs.{Left.opens_after, LookUps.does_read, Transacted.of_given}
use Rattle.bank_transactions.proofs.Transacted.{commits_read, consults, undoes}
use Rattle.bank_transactions.proofs.next_branch.read_next_branch.Goals as goal

pub returns-clause-says : goal.returns-clause-says
returns-clause-says g c =
    consults g.S.Store c.args.conn.now c.begin-tx.result c.branch_after-next.new.tx c.finish.new.tx.0 _
    c.begin-tx.ensures.begun
    c.begin-tx.ensures.settled c.branch_after-next.ensures.says c.finish.ensures (search rules)

pub returns-clause-within : goal.returns-clause-within
returns-clause-within g c =
    of_given _ c.branch_after-next.result c.finish.result c.finish.ensures.given
    c.branch_after-next.ensures.within

pub returns-clause-stored : goal.returns-clause-stored
returns-clause-stored g c =
    opens_after g.S.Store (λ old new next. IsStoredNext old c.args.after next) c.args.conn.now c.begin-tx.result.conn.now
    c.branch_after-next.new.tx.conn.now c.finish.new.tx.0 c.conn-1.given.0 c.branch_after-next.result c.finish.result
    c.begin-tx.ensures.begun c.finish.ensures (search rules)
    (IfOk-weaker c.branch_after-next.result _ _ (λ next stored clean live. stored clean) c.branch_after-next.ensures.stored)

pub returns-clause-left : goal.returns-clause-left
returns-clause-left g c =
    commits_read g.S.Store c.args.conn.now c.begin-tx.result c.branch_after-next.new.tx c.finish.new.tx.0
    c.conn-1.given.0 c.begin-tx.ensures.begun c.branch_after-next.ensures.says c.finish.ensures (search rules)

pub returns-clause-undone : goal.returns-clause-undone
returns-clause-undone g c =
    undoes g.S.Store c.args.conn.now c.begin-tx.result c.branch_after-next.new.tx c.finish.new.tx.0
    c.conn-1.given.0 c.begin-tx.ensures.begun c.begin-tx.ensures.settled (does_read {Adds = λ text values. ⊥}
    c.branch_after-next.ensures.says)
    c.finish.ensures (search rules)
