-- The parts of the transaction are one, which reads and then writes.
use Rattle.std.proofs.Common.{rules}
use Rattle.std.proofs.lemmas.Result.{IfOk-weaker}
use Rattle.bank_transactions.proofs.{Transacted.transacts, Transacted.undoes, Transacted.whole_after, Left.opens_after}
use Rattle.bank_transactions.specs.believed.Answered.{OpensAll}
use Rattle.posting_rules.specs.believed.Commands.{opened_with}
use Rattle.posting_rules.specs.declared.counter.Opening.{Opening}
use Rattle.bank_transactions.proofs.transactions.open_branch.Goals as goal

pub returns-clause-transacts : goal.returns-clause-transacts
returns-clause-transacts g c =
    transacts g.S.Store c.args.conn.now c.begin-tx.result c.open_inside-opening.new.tx c.finish.new.tx.0 _
    c.begin-tx.ensures.begun
    c.begin-tx.ensures.settled c.open_inside-opening.ensures.acts c.finish.ensures (search rules)

pub returns-clause-stored : goal.returns-clause-stored
returns-clause-stored g c =
    opens_after g.S.Store
    (λ old new opening. OpensAll old new c.args.branch (opened_with c.args.count c.args.floor) opening)
    c.args.conn.now c.begin-tx.result.conn.now c.open_inside-opening.new.tx.conn.now c.finish.new.tx.0
    c.conn-1.given.0 c.open_inside-opening.result c.finish.result c.begin-tx.ensures.begun c.finish.ensures
    (let does = c.open_inside-opening.ensures.acts in search rules)
    c.open_inside-opening.ensures.stored

pub returns-clause-whole : goal.returns-clause-whole
returns-clause-whole g c =
    whole_after g.S.Store
    (λ old after. (opening : Opening) × OpensAll old after c.args.branch (opened_with c.args.count c.args.floor) opening)
    c.args.conn.now c.begin-tx.result.conn.now c.open_inside-opening.new.tx.conn.now c.finish.new.tx.0
    c.conn-1.given.0 c.open_inside-opening.result c.begin-tx.ensures.begun
    c.open_inside-opening.ensures.acts.says.survives c.finish.ensures.survives
    (let does = c.open_inside-opening.ensures.acts in search rules)
    (IfOk-weaker c.open_inside-opening.result _ _ (λ opening it clean live. (opening, it clean live))
    c.open_inside-opening.ensures.stored)

pub returns-clause-undone : goal.returns-clause-undone
returns-clause-undone g c =
    undoes g.S.Store c.args.conn.now c.begin-tx.result c.open_inside-opening.new.tx c.finish.new.tx.0
    c.conn-1.given.0 c.begin-tx.ensures.begun c.begin-tx.ensures.settled c.open_inside-opening.ensures.acts c.finish.ensures (search rules)
