-- Some of what only the bank has were appended.
use Rattle.std.proofs.Common.{[]}
use Rattle.posting_rules.specs.believed.Counter.{Takes}
use Rattle.shared_log.specs.Known.{HoldsOn}
use Rattle.shared_log.proofs.Along.{SomeAre}
use Rattle.shared_log.proofs.joining.send_rest.Given as goal

abbrev pub invariant-loop : goal.invariant-loop
invariant-loop g l = record {
  takes : Takes (g.C.Counter.seen l.fn.bank) (g.C.Counter.seen l.bank) [];
  honest : (g.C.Counter.seen l.bank).honest → (g.C.Counter.seen l.fn.bank).honest;
  others : g.C.Counter.spares l.fn.bank l.bank;
  holds : HoldsOn (g.L.SharedLog.known l.fn.log) (g.L.SharedLog.known l.log);
  some : SomeAre (g.C.Counter.seen l.fn.bank) (g.C.Counter.seen l.bank) (g.L.SharedLog.known l.fn.log)
      (g.L.SharedLog.known l.log);
}
