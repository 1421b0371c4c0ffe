use Rattle.std.proofs.Common.{◌≡◌, ℕ, drop}
use Rattle.counter_http.specs.together.Crowd.{HaveMoved}
use Rattle.counter_http.specs.together.Rounds.{given_up, numbers}
use Rattle.counter_http.proofs.together.give_up.Given as goal

-- those that were told so far left, and the others are here
abbrev pub invariant-loop-found : goal.invariant-loop-found
invariant-loop-found g l = record {
  moved : (came : ℕ) → HaveMoved ⊥ (given_up (numbers l.fn.here.items) l.readiness)
      (record { calls = g.D.Clients.calls l.fn.listener; came = came; here = l.fn.here.items })
      (record { calls = g.D.Clients.calls l.listener; came = came; here = l.here.items });
  rest : drop l.place l.here.items ≡ drop l.found-index l.fn.here.items;
}
