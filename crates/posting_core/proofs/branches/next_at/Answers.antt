use Rattle.std.proofs.Common.{◌≡◌, ◌+◌, ◌∷◌, ◌++◌, [], take, ◌∙◌, arith, refl}
use Rattle.std.proofs.lemmas.List.{take_more}
use Rattle.posting_core.proofs.branches.next_at.Goals as goal

pub loop-row-preserved : goal.loop-row-preserved
loop-row-preserved c =
    let i = c.loop-row.row-index in
    let rows = c.args.rows.now in
    let row = c.row-item.result in
    let more : take (i + 1) rows ≡ take i rows ++ row ∷ [] = take_more rows i row (omega arith)
    ∙ rw (← c.row-item.is) refl in
    rw more (c.nearer-next.ensures (take i rows) c.loop-row.invariant)
