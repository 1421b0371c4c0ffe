use Rattle.counter_http.specs.declared.parting.Parting.TheVariants as parting
use Rattle.counter_http.proofs.CrowdMoves.{left_last, moved_then, some_last}
use Rattle.counter_http.proofs.together.part_from_all.Goals as goal

-- the last one left
pub clients-preserved : goal.clients-preserved
clients-preserved g c =
    let here = c.clients.invariant.some
    (some_last c.clients.here.items c.pop.new.self.items c.in-Some.client c.in-Some.ensures.items) in
    record {
      moved = λ came. moved_then (c.clients.invariant.moved came)
          (left_last c.clients.here.items c.pop.new.self.items c.in-Some.client parting.Stopped c.in-Some.ensures.items here
          c.close.ensures came);
      some = λ some. here;
    }
