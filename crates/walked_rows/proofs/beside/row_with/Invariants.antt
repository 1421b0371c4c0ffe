use Rattle.std.proofs.Common.{◌≡◌, pos, map, drop}
use Rattle.walked_rows.specs.Pairs.{row_under}
use Rattle.walked_rows.proofs.beside.row_with.Given as goal

abbrev pub invariant-loop-row : goal.invariant-loop-row
invariant-loop-row g l =
    row_under (map g.O.StoredRow.kind.entry l.fn.rows) (pos l.fn.key)
    ≡ row_under (map g.O.StoredRow.kind.entry (drop l.row-index l.fn.rows)) (pos l.fn.key)
