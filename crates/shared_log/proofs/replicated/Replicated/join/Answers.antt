-- It went along the log, and sent the rest.
use Rattle.std.proofs.Common.{refl}
use Rattle.shared_log.proofs.Along.{joined_now}
use Rattle.shared_log.proofs.replicated.Replicated.join.Goals as goal

pub returns-clause-joined : goal.returns-clause-joined
returns-clause-joined g c =
    joined_now g.C.Counter.seen g.L.SharedLog.known g.C.Counter.spares c.args.plan.now g.met.C.Counter.spares_then
    c.args.self.now _ c.catch_up.new.bank (g.L.SharedLog.known c.catch_up.new.log) c.in_ok-catch_up.ensures.caught
    c.in_ok-send_rest.ensures.sent refl

-- however far it went
pub returns-in_err-catch_up-clause-others : goal.returns-in_err-catch_up-clause-others
returns-in_err-catch_up-clause-others g c = c.in_err-catch_up.ensures.others

pub returns-in_err-send_rest-clause-others : goal.returns-in_err-send_rest-clause-others
returns-in_err-send_rest-clause-others g c =
    g.met.C.Counter.spares_then c.args.self.now.counter c.catch_up.new.bank c.send_rest.new.bank
    c.in_ok-catch_up.ensures.others c.in_err-send_rest.ensures.others

pub returns-clause-others : goal.returns-clause-others
returns-clause-others g c =
    g.met.C.Counter.spares_then c.args.self.now.counter c.catch_up.new.bank c.send_rest.new.bank
    c.in_ok-catch_up.ensures.others c.in_ok-send_rest.ensures.others
