use Rattle.std.proofs.Common.{◌≤◌, ◌-◌, ℕ, [], length, take, vec_len}
use Rattle.std.specs.Prelude.{Contains}
use Rattle.std.specs.List.{AllByRecursion}
use Rattle.counter_http.specs.together.Crowd.{HaveMoved}
use Rattle.counter_http.specs.together.Standing.{IsOver}
use Rattle.counter_http.proofs.together.part.Given as goal

abbrev pub decreases-clients : goal.decreases-clients
decreases-clients g l = vec_len l.here - l.place

-- those before the place are not over
abbrev pub invariant-clients : goal.invariant-clients
invariant-clients g l = record {
  moved : (came : ℕ) → HaveMoved ⊥ [] (record { calls = g.D.Clients.calls l.fn.listener; came = came; here = l.fn.here.items })
      (record { calls = g.D.Clients.calls l.listener; came = came; here = l.here.items });
  within : l.place ≤ length l.here.items;
  were : AllByRecursion (λ client. Contains l.fn.here.items client) l.here.items;
  done : AllByRecursion (λ client. IsOver client → ⊥) (take l.place l.here.items);
}
