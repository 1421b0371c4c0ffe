use Rattle.std.proofs.Common.{◌≡◌, ◌<◌, ◌∙◌, false, sym, ap, set, get_or, eqb, length, arith}
use Rattle.std.proofs.lemmas.Bool.{eq-eqb, Decides.nat_tests}
use Rattle.posting_batch.proofs.Walked.{walk_hit, walk_miss}
use Rattle.posting_batch.proofs.changes.change_at.Goals as goal
use Rattle.posting_batch.proofs.changes.change_at.Goals.{then-number, else-number}

pub loop-row-preserved : goal.loop-row-preserved
loop-row-preserved g c =
    let key = g.R.BalanceRow.key in
    let n = c.args.number in
    let test = λ (s : g.row.R.Denot). eqb (key s) n in
    let change = g.R.BalanceRow.with_balance c.args.balance in
    let xs = c.args.rows.now in
    let ys = c.loop-row.rows in
    let i = c.loop-row.row-index in
    let x = c.row-item.result in
    let lt : i < length xs = omega arith in
    elim c.if-number.branch [
      | then-number w ↦ walk_hit test change xs ys c.if-number.rows i x lt c.loop-row.invariant
          c.row-item.is
          (eq-eqb (key (get_or ys i x)) n (sym c.number.ensures ∙ w.if-number.true))
          (w.rows-is ∙ ap (λ row. set ys i row) w.change.ensures)
      | else-number w ↦
          let miss : eqb (key (get_or ys i x)) n ≡ false =
          (let apart = w.if-number.false in let is = c.number.ensures in grind (arith, nat_tests)) in
          walk_miss test change xs ys c.if-number.rows i x lt c.loop-row.invariant c.row-item.is miss
          w.rows-is
    ]
