use Rattle.std.proofs.Common.{[]}
use Rattle.counter_http.specs.Connections.{known_ends}
use Rattle.counter_http.proofs.Rounding.{Rounding}
use Rattle.counter_http.proofs.together.serve_rounds.Given as goal

-- the rounds so far were answered
abbrev pub invariant-rounds : goal.invariant-rounds
invariant-rounds g l = record {
  rounding : Rounding g.C.Counter.seen g.C.Counter.reason
      (known_ends g.D.Reader.Source.remaining g.D.Reader.Source.calls g.D.Reader.Source.beside
      g.D.Writer.Sink.contents g.D.Writer.Sink.calls) (g.D.Clients.calls l.fn.listener) (g.D.Clients.calls l.listener)
      (g.K.Clock.readings l.fn.clock) (g.K.Clock.readings l.clock) l.fn.bank l.bank l.connections l.came
      l.here.items l.tally l.counter [];
  spares : g.C.Counter.spares l.fn.bank l.bank;
}
