-- More of them, and none left.
use Rattle.std.proofs.Common.{◌≡◌, ℕ, [], subst, arith}
use Rattle.posting_rules.proofs.CounterCalls.{takes_none}
use Rattle.shared_log.specs.{Holding.holds_itself, Holding.holds_then, Published.AreKnown}
use Rattle.shared_log.proofs.Along.{all_now, has_sent, some_more, some_none_yet}
use Rattle.shared_log.proofs.joining.send_rest.Goals as goal

pub loop-init : goal.loop-init
loop-init g c = record {
  takes = takes_none (g.C.Counter.seen c.args.bank.now);
  honest = λ h. h;
  others = g.met.C.Counter.spares_itself c.args.bank.now;
  holds = holds_itself (g.L.SharedLog.known c.args.log.now);
  some = some_none_yet g.C.Counter.seen g.C.Counter.spares [] g.met.C.Counter.spares_then c.args.bank.now
      (g.L.SharedLog.known c.args.log.now);
}

pub loop-preserved : goal.loop-preserved
loop-preserved g c =
    let it = c.loop.invariant in
    let p = c.in-Ok.ensures in
    record {
      takes = record {
        shows = λ h log s. p.takes.shows h log (it.takes.shows (p.honest h) log s);
        stands = λ h log s. p.takes.stands h log (it.takes.stands (p.honest h) log s);
      };
      honest = λ h. it.honest (p.honest h);
      others = g.met.C.Counter.spares_then c.args.bank.now c.loop.bank c.publish.new.counter it.others p.others;
      holds = holds_then (g.L.SharedLog.known c.args.log.now) (g.L.SharedLog.known c.loop.log)
          (g.L.SharedLog.known c.publish.new.log) it.holds p.holds;
      some = some_more g.C.Counter.seen g.C.Counter.spares [] g.met.C.Counter.spares_then c.args.bank.now c.loop.bank
          c.publish.new.counter (g.L.SharedLog.known c.args.log.now) (g.L.SharedLog.known c.loop.log)
          (g.L.SharedLog.known c.publish.new.log) it.takes p.honest c.in-Ok.count it.some p.known;
    }

pub returns-then-count-eq0-clause-sent : goal.returns-then-count-eq0-clause-sent
returns-then-count-eq0-clause-sent g c =
    let it = c.loop.invariant in
    let p = c.in-Ok.ensures in
    let none : c.in-Ok.count ≡ 0 = omega arith in
    has_sent g.C.Counter.seen g.C.Counter.spares c.args.bank.now c.loop.bank c.publish.new.counter
    (g.L.SharedLog.known c.args.log.now) (g.L.SharedLog.known c.publish.new.log) it.takes p.takes it.honest p.honest p.up
    (g.met.C.Counter.spares_then c.args.bank.now c.loop.bank c.publish.new.counter it.others p.others)
    (holds_then (g.L.SharedLog.known c.args.log.now) (g.L.SharedLog.known c.loop.log)
    (g.L.SharedLog.known c.publish.new.log) it.holds p.holds)
    (all_now g.C.Counter.seen g.C.Counter.spares [] g.met.C.Counter.spares_then c.args.bank.now c.loop.bank
    c.publish.new.counter (g.L.SharedLog.known c.args.log.now) (g.L.SharedLog.known c.loop.log)
    (g.L.SharedLog.known c.publish.new.log) it.takes p.honest it.some
    (subst (λ (n : ℕ). AreKnown (g.C.Counter.seen c.loop.bank) (g.C.Counter.seen c.publish.new.counter)
    (g.L.SharedLog.known c.loop.log) (g.L.SharedLog.known c.publish.new.log) n) none p.known))

-- no step touches what no call of the bank does
pub returns-in-Err-clause-others : goal.returns-in-Err-clause-others
returns-in-Err-clause-others g c =
    g.met.C.Counter.spares_then c.args.bank.now c.loop.bank c.publish.new.counter c.loop.invariant.others
    c.in-Err.ensures.others

pub returns-then-count-eq0-clause-others : goal.returns-then-count-eq0-clause-others
returns-then-count-eq0-clause-others g c =
    g.met.C.Counter.spares_then c.args.bank.now c.loop.bank c.publish.new.counter c.loop.invariant.others
    c.in-Ok.ensures.others

pub returns-clause-others : goal.returns-clause-others
returns-clause-others g c = c.loop.invariant.others
