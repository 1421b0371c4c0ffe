use Rattle.std.proofs.Common.{map, take}
use Rattle.std.specs.Io.KnownBytes.{Appends}
use Rattle.posting_core.specs.EndCalls.{HasMore}
use Rattle.report_contents.specs.{AuditText.branch_line, Lines.text_of}
use Rattle.report_contents.proofs.writing.put_branches.Given as goal

-- the lines so far were written
abbrev pub invariant-loop-line : goal.invariant-loop-line
invariant-loop-line g l = record {
  wrote : Appends (g.W.Sink.contents l.fn.writer) (g.W.Sink.contents l.writer)
      (text_of (map branch_line (take l.line-index l.lines)));
  more : HasMore (g.W.Sink.calls l.fn.writer) (g.W.Sink.calls l.writer);
}
