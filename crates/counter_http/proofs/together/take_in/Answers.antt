use Rattle.std.proofs.Common.{◌<◌, [], ◌∷◌, arith, inr, refl}
use Rattle.std.specs.IoError.{error_kind}
use Rattle.counter_http.specs.Clients.{Nobody, Refused}
use Rattle.counter_http.proofs.CrowdMoves.{came_in, moved_then, nobody_came_in, said_last, turned_away}
use Rattle.counter_http.proofs.together.take_in.Goals as goal

-- there was no memory for it
pub openings-preserved-in-Err-push : goal.openings-preserved-in-Err-push
openings-preserved-in-Err-push g c = record {
  few = let before : c.openings.came < c.args.connections = c.openings-test.true in omega (arith, before);
  came = moved_then c.openings.invariant.came
      (turned_away c.openings.came _ c.openings.here.items c.push.new.self.items (c.in-Ok-Some.reader, c.in-Ok-Some.writer)
      c.new-client.result c.in-Err-push.refused.value c.new-client.ensures c.in-Err-push.ensures.value_returned
      c.in-Err-push.ensures.items refl (rw c.in-Ok-Some.field-0-is at c.in-Ok-Some.ensures) c.close.ensures);
}

pub openings-preserved : goal.openings-preserved
openings-preserved g c = record {
  few = let before : c.openings.came < c.args.connections = c.openings-test.true in omega (arith, before);
  came = moved_then c.openings.invariant.came
      (came_in c.openings.came _ c.openings.here.items c.push.new.self.items (c.in-Ok-Some.reader, c.in-Ok-Some.writer)
      c.new-client.result c.new-client.ensures c.in_default.ensures.items refl
      (rw c.in-Ok-Some.field-0-is at c.in-Ok-Some.ensures));
}

-- nobody waits
pub returns-in-Ok-None : goal.returns-in-Ok-None
returns-in-Ok-None g c =
    let none = nobody_came_in c.openings.came c.openings.here.items (Nobody ∷ []) refl refl (tt, tt) (λ ns. refl)
    (rw c.in-Ok-None.field-0-is at c.in-Ok-None.ensures) in
    record {
      moved = moved_then c.openings.invariant.came none;
      few = c.openings.invariant.few;
      all = inr (inr (
        Nobody,
        said_last _ _ c.openings.came c.openings.here.items Nobody c.openings.invariant.came refl refl (tt, tt)
            (λ ns. refl) (rw c.in-Ok-None.field-0-is at c.in-Ok-None.ensures),
        tt,
      ));
      fault = tt;
      refused = tt;
    }

-- the opening failed
pub returns-in-Err : goal.returns-in-Err
returns-in-Err g c =
    let kind = error_kind c.in-Err.field-0 in
    let none = nobody_came_in c.openings.came c.openings.here.items (Refused kind ∷ []) refl refl (tt, tt) (λ ns. refl)
    c.in-Err.ensures in
    let one = said_last _ _ c.openings.came c.openings.here.items (Refused kind) c.openings.invariant.came refl refl (tt, tt)
    (λ ns. refl) c.in-Err.ensures in
    record {
      moved = moved_then c.openings.invariant.came none;
      few = c.openings.invariant.few;
      all = inr (inr (Refused kind, one, tt));
      fault = refl;
      refused = record { kind = kind; one = one };
    }
