use Rattle.std.proofs.Common.{take}
use Rattle.report_contents.specs.Ranges.{HasSummed}
use Rattle.report_contents.proofs.all_statements.sums_of.Given as goal

-- those so far were added
abbrev pub invariant-loop-row : goal.invariant-loop-row
invariant-loop-row l = record {
  summed : HasSummed l.fn.range l.sums (take l.row-index l.rows);
}
