use Rattle.std.proofs.Common.{◌<◌, length, arith}
use Rattle.std.specs.Prelude.{Contains}
use Rattle.counter_http.specs.together.Standing.{IsOver}
use Rattle.counter_http.proofs.CrowdMoves.{left_at, moved_nothing, moved_then, over_at}
use Rattle.counter_http.proofs.Removed.{all_removed, all_taken, both_taken, each_contained, taken_more, taken_removed}
use Rattle.counter_http.specs.declared.parting.Parting.TheVariants as parting
use Rattle.counter_http.proofs.together.part.Goals as goal

pub clients-init : goal.clients-init
clients-init g c = record {
  moved = λ came. moved_nothing _;
  within = omega arith;
  were = each_contained c.args.here.now.items;
  done = tt;
}

-- one more left
pub clients-preserved-then-is_over : goal.clients-preserved-then-is_over
clients-preserved-then-is_over g c =
    let here = c.clients.here.items in
    let rest = c.remove-client.new.self.items in
    let within : c.clients.place < length here = omega (arith, c.clients-test.true, c.len.ensures) in
    record {
      moved = λ came. moved_then (c.clients.invariant.moved came)
          (left_at here rest c.clients.place c.remove-client.result parting.Stopped
          within c.remove-client.ensures.value c.remove-client.ensures.by_index.2
          (λ early. absurd (early (over_at here c.clients.place c.index.result.now c.remove-client.result within
          c.index.ensures c.remove-client.ensures.value (c.is_over.ensures.over c.if-is_over.true)))) c.close.ensures came);
      within = taken_removed here rest c.clients.place within c.remove-client.ensures.by_index.2;
      were = all_removed (λ client. Contains c.args.here.now.items client) here rest c.clients.place c.remove-client.result within
          c.remove-client.ensures.value c.remove-client.ensures.by_index.2 c.clients.invariant.were;
      done = all_taken (λ client. IsOver client → ⊥) here rest c.clients.place within c.remove-client.ensures.by_index.2
          c.clients.invariant.done;
    }

-- one more stays
pub clients-preserved : goal.clients-preserved
clients-preserved g c =
    let within : c.clients.place < length c.clients.here.items = omega (arith, c.clients-test.true, c.len.ensures) in
    record {
      moved = c.clients.invariant.moved;
      within = omega (arith, within);
      were = c.clients.invariant.were;
      done = taken_more (λ client. IsOver client → ⊥) c.clients.here.items c.clients.place c.index.result.now within
          c.index.ensures (c.is_over.ensures.goes_on c.if-is_over.false) c.clients.invariant.done;
    }

pub returns : goal.returns
returns g c = record {
  leave = c.clients.invariant.moved;
  rest = both_taken (λ client. Contains c.args.here.now.items client) (λ client. IsOver client → ⊥) c.clients.here.items
      c.clients.place (omega (arith, c.clients-test.false, c.len.ensures)) c.clients.invariant.were
      c.clients.invariant.done;
}
