use Rattle.counter_http.specs.Connections.{known_ends}
use Rattle.counter_http.specs.together.Crowd.{GoesOn}
use Rattle.counter_http.proofs.Paired.{paired_all, paired_more, paired_none}
use Rattle.counter_http.proofs.together.go_on.Goals as goal

pub loop-place-init : goal.loop-place-init
loop-place-init g c =
    paired_none (GoesOn (known_ends g.R.Source.remaining g.R.Source.calls g.R.Source.beside g.W.Sink.contents
    g.W.Sink.calls))
    c.args.here.now

pub loop-place-preserved : goal.loop-place-preserved
loop-place-preserved g c =
    paired_more (GoesOn (known_ends g.R.Source.remaining g.R.Source.calls g.R.Source.beside g.W.Sink.contents
    g.W.Sink.calls))
    c.args.here.now c.loop-place.here c.loop-place.place c.index-here-place.result c.go_on_with.new.client
    c.loop-place-test.true c.index-here-place.is c.go_on_with.ensures c.loop-place.invariant

pub returns : goal.returns
returns g c =
    paired_all (GoesOn (known_ends g.R.Source.remaining g.R.Source.calls g.R.Source.beside g.W.Sink.contents
    g.W.Sink.calls))
    c.args.here.now c.loop-place.here c.loop-place.place c.loop-place-test.false c.loop-place.invariant
