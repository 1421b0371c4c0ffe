-- The parts of the transaction are one, which reads and then writes.
use Rattle.std.proofs.Common.{rules}
use Rattle.std.proofs.lemmas.Result.{IfOk-weaker}
use Rattle.bank_transactions.proofs.{Transacted.transacts, Transacted.undoes, Transacted.whole_after, Left.opens_after}
use Rattle.bank_transactions.specs.believed.Answered.{ClosesAll}
use Rattle.posting_rules.specs.declared.closed_numbers.Closing.{Closing}
use Rattle.bank_transactions.proofs.closings.close_numbers.Goals as goal

pub close_inside-closing-requires : goal.close_inside-closing-requires
close_inside-closing-requires g c = c.requires.sound

pub returns-clause-transacts : goal.returns-clause-transacts
returns-clause-transacts g c =
    transacts g.S.Store c.args.conn.now c.begin-tx.result c.close_inside-closing.new.tx c.finish.new.tx.0 _
    c.begin-tx.ensures.begun
    c.begin-tx.ensures.settled c.close_inside-closing.ensures.acts c.finish.ensures (search rules)

pub returns-clause-stored : goal.returns-clause-stored
returns-clause-stored g c =
    opens_after g.S.Store (λ old new closing. ClosesAll old new c.args.row.now closing)
    c.args.conn.now c.begin-tx.result.conn.now c.close_inside-closing.new.tx.conn.now c.finish.new.tx.0
    c.conn-1.given.0 c.close_inside-closing.result c.finish.result c.begin-tx.ensures.begun c.finish.ensures
    (let does = c.close_inside-closing.ensures.acts in search rules)
    c.close_inside-closing.ensures.stored

pub returns-clause-whole : goal.returns-clause-whole
returns-clause-whole g c =
    whole_after g.S.Store (λ old after. (closing : Closing) × ClosesAll old after c.args.row.now closing)
    c.args.conn.now c.begin-tx.result.conn.now c.close_inside-closing.new.tx.conn.now c.finish.new.tx.0
    c.conn-1.given.0 c.close_inside-closing.result c.begin-tx.ensures.begun
    c.close_inside-closing.ensures.acts.says.survives c.finish.ensures.survives
    (let does = c.close_inside-closing.ensures.acts in search rules)
    (IfOk-weaker c.close_inside-closing.result _ _ (λ closing it clean live. (closing, it clean live))
    c.close_inside-closing.ensures.stored)

pub returns-clause-undone : goal.returns-clause-undone
returns-clause-undone g c =
    undoes g.S.Store c.args.conn.now c.begin-tx.result c.close_inside-closing.new.tx c.finish.new.tx.0
    c.conn-1.given.0 c.begin-tx.ensures.begun c.begin-tx.ensures.settled c.close_inside-closing.ensures.acts c.finish.ensures (search rules)
