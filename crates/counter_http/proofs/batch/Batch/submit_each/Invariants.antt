use Rattle.std.proofs.Common.{Ok, [], ◌∷◌, drop}
use Rattle.counter_http.specs.Connections.{known_ends}
use Rattle.counter_http.specs.together.Submitting.{AreApart, AreGiven, AreSubmitted}
use Rattle.counter_http.proofs.batch.Batch.submit_each.Given as goal

-- the records so far are submitted
abbrev pub invariant-loop-i : goal.invariant-loop-i
invariant-loop-i g l = record {
  did : AreSubmitted {X = Unit {0}} g.C.Counter.seen g.C.Counter.reason (known_ends g.R.Source.remaining
      g.R.Source.calls g.R.Source.beside g.W.Sink.contents g.W.Sink.calls) (l.moment ∷ []) l.fn.bank l.bank
      l.fn.here.items l.here.items l.fn.tally l.tally l.i (Ok tt);
  gives : AreGiven l.here.items (drop l.i l.fn.self.senders.items) (drop l.i l.fn.self.records.items);
  apart : AreApart (drop l.i l.fn.self.senders.items);
  spares : g.C.Counter.spares l.fn.bank l.bank;
}
