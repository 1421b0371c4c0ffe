use Rattle.counter_http.specs.Connections.{known_ends}
use Rattle.counter_http.specs.together.Standing.{Writes}
use Rattle.counter_http.proofs.Paired.{paired_all, paired_more, paired_none}
use Rattle.counter_http.proofs.together.write.Goals as goal

pub loop-client-init : goal.loop-client-init
loop-client-init g c =
    paired_none (Writes (known_ends g.R.Source.remaining g.R.Source.calls g.R.Source.beside g.W.Sink.contents
    g.W.Sink.calls))
    c.args.here.now

pub loop-client-preserved : goal.loop-client-preserved
loop-client-preserved g c =
    paired_more (Writes (known_ends g.R.Source.remaining g.R.Source.calls g.R.Source.beside g.W.Sink.contents
    g.W.Sink.calls))
    c.args.here.now c.loop-client.here c.loop-client.client-index c.client-item.result c.write.new.self
    c.loop-client-test.true c.client-item.is c.write.ensures c.loop-client.invariant

pub returns : goal.returns
returns g c =
    paired_all (Writes (known_ends g.R.Source.remaining g.R.Source.calls g.R.Source.beside g.W.Sink.contents
    g.W.Sink.calls))
    c.args.here.now c.loop-client.here c.loop-client.client-index c.loop-client-test.false c.loop-client.invariant
