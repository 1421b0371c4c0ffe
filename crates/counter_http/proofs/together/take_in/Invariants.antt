use Rattle.std.proofs.Common.{◌≤◌, ◌-◌, []}
use Rattle.counter_http.specs.together.Crowd.{HaveMoved}
use Rattle.counter_http.proofs.together.take_in.Given as goal

abbrev pub decreases-openings : goal.decreases-openings
decreases-openings g l = l.connections - l.came

abbrev pub invariant-openings : goal.invariant-openings
invariant-openings g l = record {
  few : l.came ≤ l.connections;
  came : HaveMoved ⊥ [] (record { calls = g.D.Clients.calls l.fn.listener; came = l.fn.came; here = l.fn.here.items })
      (record { calls = g.D.Clients.calls l.listener; came = l.came; here = l.here.items });
}
