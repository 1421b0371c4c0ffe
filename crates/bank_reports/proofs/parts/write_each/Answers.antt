-- One line after another.
use Rattle.std.proofs.Common.{rules, ◌≡◌, ◌<◌, ◌+◌, ◌++◌, [], ◌∷◌, Ok, Err, drop, length, take, sym, ap, subst, ◌∙◌}
use Rattle.std.specs.Prelude.{ℤ}
use Rattle.std.proofs.lemmas.List.{drop_more, take-append-drop, take_more}
use Rattle.posting_core.proofs.Telling.{more_more}
use Rattle.report_contents.specs.Lines.{text_of}
use Rattle.report_contents.proofs.Written.{later_failed, same_all}
use Rattle.bank_reports.specs.declared.fault.ReportFault.TheVariants.{Write}
use Rattle.bank_reports.specs.Postings.{WritesLine, form_lines, sum_of}
use Rattle.bank_reports.proofs.Further.{error_is}
use Rattle.bank_reports.proofs.LinesWritten.{lines_end, one_more_line}
use Rattle.bank_reports.proofs.parts.write_each.Goals as goal

pub returns-in_err-after : goal.returns-in_err-after
returns-in_err-after g c =
    let mid = g.W.Sink.contents c.loop-row.writer in
    let new = g.W.Sink.contents c.write_line.new.writer in
    let fault = c.in_err-after.field-0.0 in
    let same : c.from_residual.result ≡ Err fault = search rules in
    let says = c.in_err-after.ensures in
    let so_far = c.loop-row.invariant in
    let i = c.loop-row.row-index in
    let rows = c.args.rows.now in
    let form = c.args.form.now in
    let r = c.row-item.result in
    let low : i < length rows = search rules in
    let split = sym (take-append-drop i rows) ∙ ap (λ l. take i rows ++ l) (drop_more rows i r low ∙ ap (λ x. x ∷ drop (i + 1) rows) (sym c.row-item.is)) in
    let line = subst (λ (z : ℤ). WritesLine form r z mid new (Err fault)) so_far.balance says.written in
    record {
      written = rw same (lines_end form (take i rows) r (g.W.Sink.contents c.args.writer.now) mid new so_far.wrote
          (drop (i + 1) rows) rows split fault line);
      more = rw same tt;
      failed = λ write. later_failed so_far.more (says.failed (ap Err (error_is fault Write (sym same ∙ write))));
    }

pub loop-row-preserved : goal.loop-row-preserved
loop-row-preserved g c =
    let old = g.W.Sink.contents c.args.writer.now in
    let mid = g.W.Sink.contents c.loop-row.writer in
    let new = g.W.Sink.contents c.write_line.new.writer in
    let says = c.in_ok-after.ensures in
    let so_far = c.loop-row.invariant in
    let i = c.loop-row.row-index in
    let rows = c.args.rows.now in
    let form = c.args.form.now in
    let r = c.row-item.result in
    let low : i < length rows = search rules in
    let more : take (i + 1) rows ≡ take i rows ++ r ∷ [] =
    take_more rows i r low ∙ ap (λ x. take i rows ++ x ∷ []) (sym c.row-item.is) in
    let it = one_more_line form (take i rows) r old mid new so_far.wrote _
    (subst (λ (z : ℤ). WritesLine form r z mid new (Ok c.in_ok-after.after)) so_far.balance says.written) in
    record {
      balance = it.0 ∙ ap sum_of (sym more);
      wrote = same_all old new (ap (λ l. text_of (form_lines form l)) (sym more)) it.1;
      more = more_more so_far.more says.more;
    }
