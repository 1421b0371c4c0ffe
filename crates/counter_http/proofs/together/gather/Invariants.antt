use Rattle.std.proofs.Common.{Ok}
use Rattle.std.specs.List.{AllByRecursion}
use Rattle.counter_http.specs.Connections.{known_ends}
use Rattle.counter_http.specs.together.Submitting.{Gathers, LooksOver}
use Rattle.counter_http.proofs.Gathering.{IsPassed}
use Rattle.counter_http.proofs.together.gather.Given as goal

-- what was read from the clients at the places so far is answered
abbrev pub invariant-loop-place : goal.invariant-loop-place
invariant-loop-place g l = record {
  gathers : Gathers {X = Unit {0}} g.C.Counter.seen g.C.Counter.reason (known_ends g.R.Source.remaining g.R.Source.calls
      g.R.Source.beside g.W.Sink.contents g.W.Sink.calls) l.figures l.fn.bank l.bank l.fn.here.items l.here.items l.batch (Ok tt);
  over : LooksOver l.fn.here.items l.here.items l.from l.place l.fn.batch l.batch;
  passed : AllByRecursion (IsPassed l.from l.place l.to) l.batch.senders.items;
  spares : g.C.Counter.spares l.fn.bank l.bank;
}
