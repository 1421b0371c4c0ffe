use Rattle.std.proofs.Common.{◌<◌, ◌∙◌, sym, ap, set, length, arith}
use Rattle.std.proofs.lemmas.List.Edits.{map_over_more}
use Rattle.posting_batch.proofs.emptying.empty_all.Goals as goal

pub loop-slot-preserved : goal.loop-slot-preserved
loop-slot-preserved g c =
    let xs = c.args.slots.now in
    let ys = c.loop-slot.slots in
    let i = c.loop-slot.slot-index in
    let x = c.slot-item.result in
    let lt : i < length xs = omega arith in
    let empty = g.T.Emptied.empty in
    ap (λ slot. set ys i slot) (c.emptied.ensures ∙ ap empty (sym c.slot-item.is))
    ∙ map_over_more g.T.Emptied.empty xs ys i x lt c.loop-slot.invariant c.slot-item.is
