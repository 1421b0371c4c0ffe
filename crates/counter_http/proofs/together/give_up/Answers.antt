use Rattle.std.proofs.Common.{◌<◌, ◌∙◌, Some, length, ap, arith}
use Rattle.std.proofs.lemmas.Option.{slice_get-get_or}
use Rattle.counter_http.specs.declared.parting.Parting.TheVariants as parting
use Rattle.counter_http.proofs.CrowdMoves.{left_at, moved_then}
use Rattle.counter_http.proofs.GivenUp.{rest_removed, rest_stays, said_of}
use Rattle.counter_http.proofs.together.give_up.Goals as goal
use Rattle.counter_http.proofs.together.give_up.Goals.{in-GivenUp, in_default}

pub loop-found-preserved : goal.loop-found-preserved
loop-found-preserved g c =
    let within : c.loop-found.place < length c.loop-found.here.items =
    omega (arith, c.if-place-len.false, c.len.ensures, c.loop-found.here.ok.0) in
    elim c.match-found.branch [
      | in-GivenUp w ↦
          rw (w.listener-is, w.here-is, w.place-is) (record {
            moved = λ came. moved_then (c.loop-found.invariant.moved came)
                (left_at c.loop-found.here.items w.remove-client.new.self.items c.loop-found.place w.remove-client.result
                parting.GivenUp within w.remove-client.ensures.value w.remove-client.ensures.by_index.2
                (λ early. said_of c.loop-found.here.items c.args.here.now.items c.args.readiness.now c.loop-found.place
                c.loop-found.found-index w.remove-client.result c.loop-found.invariant.rest within
                w.remove-client.ensures.value
                (slice_get-get_or c.args.readiness.now c.loop-found.found-index _ c.loop-found-test.true
                ∙ ap Some w.in-GivenUp.is)) w.close.ensures came);
            rest = rest_removed c.loop-found.here.items w.remove-client.new.self.items c.args.here.now.items
                c.loop-found.place c.loop-found.found-index c.loop-found.invariant.rest within
                w.remove-client.ensures.by_index.2;
          })
      | in_default w ↦
          rw (w.listener-is, w.here-is, w.place-is) (record {
            moved = c.loop-found.invariant.moved;
            rest = rest_stays c.loop-found.here.items c.args.here.now.items c.loop-found.place c.loop-found.found-index
                c.loop-found.invariant.rest within;
          })
    ]
