use Rattle.std.proofs.Common.{◌≡◌, ◌+◌, ◌-◌, ◌≤◌, ◌++◌, vec_len}
use Rattle.std.specs.Vec.{vec_capacity}
use Rattle.posting_core.specs.Appended.{rows_from}
use Rattle.posting_core.proofs.plain_bank.put_new.Given as goal

-- the rows so far, and the room that is left
abbrev pub invariant-loop-place : goal.invariant-loop-place
invariant-loop-place g l = record {
  rows : l.rows.items ≡ l.fn.rows.items ++ rows_from g.R.NewRow.row_of l.first l.place;
  room : vec_len l.rows + (l.count - l.place) ≤ vec_capacity l.rows;
}
