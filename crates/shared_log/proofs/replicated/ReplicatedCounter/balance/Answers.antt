-- It was up, and its counter was asked, which decides nothing.
use Rattle.std.proofs.Common.{[], refl}
use Rattle.shared_log.proofs.{ByTables.stays_over, Carried.passed}
use Rattle.shared_log.proofs.replicated.ReplicatedCounter.balance.Goals as goal

pub returns-clause-call : goal.returns-clause-call
returns-clause-call g c =
    passed g.C.Counter.seen g.C.Counter.contents g.C.Counter.reason g.L.SharedLog.known c.args.self.now
    c.balance.new.self [] c.in_ok-check_up.ensures.up c.balance.result (λ log. refl) c.balance.ensures.call

pub returns-clause-by_tables : goal.returns-clause-by_tables
returns-clause-by_tables g c =
    stays_over g.C.Counter.seen g.L.SharedLog.known c.args.self.now c.balance.new.self g.C.Counter.contents g.C.Counter.reason
    c.balance.result c.balance.ensures.by_tables c.balance.ensures.call
