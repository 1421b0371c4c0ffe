-- It was up, and its counter was asked, which decides nothing.
use Rattle.std.proofs.Common.{[], ◌∷◌, refl}
use Rattle.posting_rules.specs.believed.Commands.{Open, opened_with}
use Rattle.shared_log.proofs.{ByTables.opens_over, Carried.passed}
use Rattle.shared_log.proofs.replicated.ReplicatedCounter.open_branch.Goals as goal

pub returns-clause-call : goal.returns-clause-call
returns-clause-call g c =
    passed g.C.Counter.seen g.C.Counter.contents g.C.Counter.reason g.L.SharedLog.known c.args.self.now
    c.open_branch.new.self (Open c.args.branch (opened_with c.args.count c.args.floor) ∷ []) c.in_ok-check_up.ensures.up c.open_branch.result (λ log. refl) c.open_branch.ensures.call

pub returns-clause-by_tables : goal.returns-clause-by_tables
returns-clause-by_tables g c =
    opens_over g.C.Counter.seen g.L.SharedLog.known c.args.self.now c.open_branch.new.self g.C.Counter.contents
    g.C.Counter.reason c.args.branch (opened_with c.args.count c.args.floor) c.open_branch.result
    c.open_branch.ensures.by_tables c.open_branch.ensures.call
