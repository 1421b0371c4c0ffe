-- The bank went along as far as is known.
use Rattle.std.proofs.Common.{List}
use Rattle.posting_rules.specs.believed.Commands.{Command}
use Rattle.shared_log.specs.Joined.{FirstAre, GoesAlong}
use Rattle.shared_log.proofs.joining.catch_up.Given as goal

abbrev pub invariant-loop : goal.invariant-loop
invariant-loop g l = record {
  commands : List Command;
  went : GoesAlong g.C.Counter.seen g.C.Counter.spares l.fn.plan l.fn.bank l.bank commands;
  first : FirstAre (g.C.Counter.seen l.fn.bank) (g.C.Counter.seen l.bank) commands (g.L.SharedLog.known l.log);
}
