use Rattle.std.proofs.Common.{◌<◌, ◌∙◌, sym, Some, length, arith}
use Rattle.posting_batch.specs.{declared.slots.RequestSlot.RequestSlot, Slots.is_for}
use Rattle.posting_batch.proofs.Walked.{walk_hit, walk_miss}
use Rattle.posting_batch.proofs.changes.keep_at.Goals as goal
use Rattle.posting_batch.proofs.changes.keep_at.Goals.{then-is_for, else-is_for}

pub loop-slot-preserved : goal.loop-slot-preserved
loop-slot-preserved c =
    let test = is_for c.args.teller c.args.number in
    let change = λ (s : RequestSlot). let t : RequestSlot =
    record { teller = s.teller; number = s.number; kept = Some c.args.kept; books = s.books } in t in
    let xs = c.args.slots.now in
    let ys = c.loop-slot.slots in
    let i = c.loop-slot.slot-index in
    let x = c.slot-item.result in
    let lt : i < length xs = omega arith in
    elim c.if-is_for.branch [
      | then-is_for w ↦ walk_hit test change xs ys c.if-is_for.slots i x lt c.loop-slot.invariant
          c.slot-item.is (sym c.is_for.ensures ∙ w.if-is_for.true) w.slots-is
      | else-is_for w ↦ walk_miss test change xs ys c.if-is_for.slots i x lt c.loop-slot.invariant
          c.slot-item.is (sym c.is_for.ensures ∙ w.if-is_for.false) w.slots-is
    ]
