-- Nothing more is known of the log.
use Rattle.std.proofs.Common.{◌≡◌}
use Rattle.shared_log.proofs.joining.read_settled.Given as goal

abbrev pub invariant-loop : goal.invariant-loop
invariant-loop g l = g.L.SharedLog.known l.log ≡ g.L.SharedLog.known l.fn.log
