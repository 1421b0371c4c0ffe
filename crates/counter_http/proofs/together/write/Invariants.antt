use Rattle.counter_http.specs.Connections.{known_ends}
use Rattle.counter_http.specs.together.Standing.{Writes}
use Rattle.counter_http.proofs.Paired.{PairedUpTo}
use Rattle.counter_http.proofs.together.write.Given as goal

-- the clients before the place were written to
abbrev pub invariant-loop-client : goal.invariant-loop-client
invariant-loop-client g l =
    PairedUpTo (Writes (known_ends g.R.Source.remaining g.R.Source.calls g.R.Source.beside g.W.Sink.contents g.W.Sink.calls))
    l.fn.here l.here l.client-index
