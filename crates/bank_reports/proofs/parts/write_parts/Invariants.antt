use Rattle.std.proofs.Common.{◌≤◌, ◌+◌, length}
use Rattle.posting_core.specs.EndCalls.{HasMore}
use Rattle.bank_reports.proofs.ByAccount.{PartsSoFar}
use Rattle.bank_reports.proofs.parts.write_parts.Given as goal

-- the statements of the first accounts were written
abbrev pub invariant-accounts : goal.invariant-accounts
invariant-accounts g l = record {
  parts : PartsSoFar l.fn.query l.fn.rows l.left (g.W.Sink.contents l.fn.writer) (g.W.Sink.contents l.writer);
  few : length l.left + l.counter ≤ length l.fn.rows;
  more : HasMore (g.W.Sink.calls l.fn.writer) (g.W.Sink.calls l.writer);
}
