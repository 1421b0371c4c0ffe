-- The bank had them all, or has them now.
use Rattle.std.proofs.Common.{arith}
use Rattle.shared_log.proofs.Along.{had_all, had_then_followed}
use Rattle.shared_log.proofs.joining.take_given.Goals as goal

pub returns-then-had-given-clause-taken : goal.returns-then-had-given-clause-taken
returns-then-had-given-clause-taken g c =
    had_all g.C.Counter.seen g.C.Counter.spares c.args.plan.now g.met.C.Counter.spares_then _ _ _ _ _ c.in_ok-had.ensures.asked
    (omega arith)

pub returns-then-has-given-clause-taken : goal.returns-then-has-given-clause-taken
returns-then-has-given-clause-taken g c =
    had_then_followed g.C.Counter.seen g.C.Counter.spares c.args.plan.now g.met.C.Counter.spares_then _ _ _ _ _ _ _ _
    c.in_ok-follow_lacked.ensures.followed.0 c.in_ok-had.ensures.asked c.in_ok-follow_lacked.ensures.followed.1
    c.in_ok-has.ensures.asked (omega arith)

-- no step touches what no call of the bank does
pub returns-in_err-follow_lacked-clause-others : goal.returns-in_err-follow_lacked-clause-others
returns-in_err-follow_lacked-clause-others g c =
    g.met.C.Counter.spares_then c.args.counter.now c.has_given.new.counter c.follow_lacked.new.counter
    c.in_ok-had.ensures.others c.in_err-follow_lacked.ensures.others

pub returns-in_err-has-clause-others : goal.returns-in_err-has-clause-others
returns-in_err-has-clause-others g c =
    g.met.C.Counter.spares_then c.args.counter.now c.follow_lacked.new.counter c.has_given-2.new.counter
    (g.met.C.Counter.spares_then c.args.counter.now c.has_given.new.counter c.follow_lacked.new.counter
    c.in_ok-had.ensures.others c.in_ok-follow_lacked.ensures.others) c.in_err-has.ensures.others

pub returns-then-has-given-clause-others : goal.returns-then-has-given-clause-others
returns-then-has-given-clause-others g c =
    g.met.C.Counter.spares_then c.args.counter.now c.follow_lacked.new.counter c.has_given-2.new.counter
    (g.met.C.Counter.spares_then c.args.counter.now c.has_given.new.counter c.follow_lacked.new.counter
    c.in_ok-had.ensures.others c.in_ok-follow_lacked.ensures.others) c.in_ok-has.ensures.others

pub returns-else-has-given-clause-others : goal.returns-else-has-given-clause-others
returns-else-has-given-clause-others g c =
    g.met.C.Counter.spares_then c.args.counter.now c.follow_lacked.new.counter c.has_given-2.new.counter
    (g.met.C.Counter.spares_then c.args.counter.now c.has_given.new.counter c.follow_lacked.new.counter
    c.in_ok-had.ensures.others c.in_ok-follow_lacked.ensures.others) c.in_ok-has.ensures.others
