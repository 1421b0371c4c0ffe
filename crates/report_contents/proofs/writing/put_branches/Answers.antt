-- One line after another.
use Rattle.std.proofs.Common.{◌+◌, ◌∙◌, sym, take, drop, map, get_or, pos}
use Rattle.std.proofs.KnownBytes.{Appends-trans}
use Rattle.posting_core.proofs.Telling.{more_more}
use Rattle.report_contents.specs.{declared.audit.BranchLine.BranchLine, AuditText.branch_line, Lines.text_of}
use Rattle.report_contents.proofs.Written.{first_part, same_part, same_all, then_part, later_failed, on_err_any}
use Rattle.report_contents.proofs.Written.{lines_more, lines_split}
use Rattle.report_contents.proofs.writing.put_branches.Goals as goal

-- no line stands after the last
abbrev no_line : BranchLine
no_line = record { branch = 0; tellers = pos 0; balance = pos 0 }

pub returns-in_err-put-clause-err : goal.returns-in_err-put-clause-err
returns-in_err-put-clause-err g c =
    let old = g.W.Sink.contents c.args.writer.now in
    let mid = g.W.Sink.contents c.loop-line.writer in
    let new = g.W.Sink.contents c.put.new.writer in
    let i = c.loop-line.line-index in
    let lines = c.args.lines.now in
    let done = text_of (map branch_line (take i lines)) in
    let one = branch_line (get_or lines i no_line) in
    let part = same_part mid new (c.as_str.ensures.value ∙ c.branch_text.ensures)
    c.in_err-put.ensures.err in
    let so_far = then_part old mid new done one c.loop-line.invariant.wrote part in
    let up_to = same_part old new (sym (lines_more branch_line lines i no_line c.loop-line-test.true))
    so_far in
    on_err_any c.from_residual.result
    (same_part old new (lines_split branch_line lines (i + 1))
    (first_part old new (text_of (map branch_line (take (i + 1) lines)))
    (text_of (map branch_line (drop (i + 1) lines))) up_to))

pub returns-in_err-put-clause-failed : goal.returns-in_err-put-clause-failed
returns-in_err-put-clause-failed g c =
    on_err_any c.from_residual.result (later_failed c.loop-line.invariant.more c.in_err-put.ensures.failed)

pub loop-line-preserved : goal.loop-line-preserved
loop-line-preserved g c =
    let old = g.W.Sink.contents c.args.writer.now in
    let mid = g.W.Sink.contents c.loop-line.writer in
    let new = g.W.Sink.contents c.put.new.writer in
    let i = c.loop-line.line-index in
    let lines = c.args.lines.now in
    let done = text_of (map branch_line (take i lines)) in
    let one = branch_line (get_or lines i no_line) in
    let written = same_all mid new (c.as_str.ensures.value ∙ c.branch_text.ensures)
    c.in_ok-put.ensures.ok in
    record {
      wrote = same_all old new (sym (lines_more branch_line lines i no_line c.loop-line-test.true))
          (Appends-trans old mid new done one c.loop-line.invariant.wrote written);
      more = more_more c.loop-line.invariant.more c.in_ok-put.ensures.more;
    }
