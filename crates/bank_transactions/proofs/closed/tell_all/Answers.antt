use Rattle.std.proofs.Common.{◌<◌, ◌∙◌, sym, ap, set, length, arith}
use Rattle.std.proofs.lemmas.List.Edits.{map_over_more}
use Rattle.bank_transactions.proofs.closed.tell_all.Goals as goal

pub loop-slot-preserved : goal.loop-slot-preserved
loop-slot-preserved g c =
    let xs = c.args.slots.now in
    let ys = c.loop-slot.slots in
    let i = c.loop-slot.slot-index in
    let x = c.slot-item.result in
    let lt : i < length xs = omega arith in
    let tell = g.T.Tells.told c.args.teller.now in
    ap (λ slot. set ys i slot) (c.tell.ensures ∙ ap tell (sym c.slot-item.is))
    ∙ map_over_more tell xs ys i x lt c.loop-slot.invariant c.slot-item.is
