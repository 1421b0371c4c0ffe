use Rattle.counter_http.specs.Connections.{known_ends}
use Rattle.counter_http.specs.together.Crowd.{GoesOn}
use Rattle.counter_http.proofs.Paired.{PairedUpTo}
use Rattle.counter_http.proofs.together.go_on.Given as goal

-- the clients before the place were gone on with
abbrev pub invariant-loop-place : goal.invariant-loop-place
invariant-loop-place g l =
    PairedUpTo (GoesOn (known_ends g.R.Source.remaining g.R.Source.calls g.R.Source.beside g.W.Sink.contents g.W.Sink.calls))
    l.fn.here l.here l.place
