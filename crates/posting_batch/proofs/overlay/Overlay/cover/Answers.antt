use Rattle.std.proofs.Common.{◌∙◌, arith}
use Rattle.posting_batch.proofs.overlay.Overlay.cover.Goals as goal

pub returns-clause-slots : goal.returns-clause-slots
returns-clause-slots c =
    let first = c.place_branch.ensures.room in
    let second = c.place_branch-2.ensures.room in
    record {
      branches = (omega (arith, first.0, second.0), second.1 ∙ first.1);
      floors = (c.place.ensures.len, c.place.ensures.capacity);
      tellers = (c.place-2.ensures.len, c.place-2.ensures.capacity);
      accounts = (c.place-3.ensures.len, c.place-3.ensures.capacity);
      kept = (c.place-4.ensures.len, c.place-4.ensures.capacity);
    }
