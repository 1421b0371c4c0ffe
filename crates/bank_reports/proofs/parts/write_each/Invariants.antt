use Rattle.std.proofs.Common.{◌≡◌, take}
use Rattle.std.specs.Io.KnownBytes.{Appends}
use Rattle.posting_core.specs.EndCalls.{HasMore}
use Rattle.report_contents.specs.Lines.{text_of}
use Rattle.bank_reports.specs.Postings.{form_lines, sum_of}
use Rattle.bank_reports.proofs.parts.write_each.Given as goal

-- the lines so far were written, and this is the balance after them
abbrev pub invariant-loop-row : goal.invariant-loop-row
invariant-loop-row g l = record {
  balance : l.balance ≡ sum_of (take l.row-index l.rows);
  wrote : Appends (g.W.Sink.contents l.fn.writer) (g.W.Sink.contents l.writer)
      (text_of (form_lines l.fn.form (take l.row-index l.rows)));
  more : HasMore (g.W.Sink.calls l.fn.writer) (g.W.Sink.calls l.writer);
}
