-- What stands above, the lines, and what stands below.
use Rattle.std.proofs.Common.{◌≡◌, Err, refl, sym, ap, subst, ◌∙◌}
use Rattle.posting_core.proofs.Telling.{more_more}
use Rattle.report_contents.specs.StatementText.{last_of}
use Rattle.report_contents.specs.declared.form.Form.{Form}
use Rattle.report_contents.proofs.Written.{later_failed, same_all, same_part}
use Rattle.bank_reports.specs.declared.fault.ReportFault.TheVariants.{Write}
use Rattle.bank_reports.specs.Parts.{WritesLines}
use Rattle.bank_reports.proofs.Further.{error_is}
use Rattle.bank_reports.proofs.LinesWritten.{above_end, account_end, account_written, closing_end}
use Rattle.bank_reports.proofs.ReportEnds.{not_ok}
use Rattle.bank_reports.proofs.Refused.{err_is}
use Rattle.bank_reports.proofs.parts.write_account.Goals as goal

pub returns-in_err-write_above : goal.returns-in_err-write_above
returns-in_err-write_above g c =
    let same : c.from_residual.result ≡ Err Write = err_is _ c.from_residual.ensures.1 in
    let form = c.of_account-form.ensures in
    let says = c.in_err-write_above.ensures in
    record {
      written = rw same (above_end c.args.query.now c.args.account c.args.rows.now _ _ (rw form at says.written));
      more = rw same tt;
      failed = λ write. says.failed;
    }

pub returns-in_err-write_each : goal.returns-in_err-write_each
returns-in_err-write_each g c =
    let fault = c.in_err-write_each.field-0.0 in
    let same : c.from_residual-in_err-write_each.result ≡ Err fault =
    err_is _ c.from_residual-in_err-write_each.ensures.1 in
    let form = c.of_account-form.ensures in
    let first = c.in_ok-write_above.ensures in
    let says = c.in_err-write_each.ensures in
    record {
      written = rw same (account_end c.args.query.now c.args.account c.args.rows.now _ _
          (rw form at first.written) _ fault
          (subst (λ (f : Form). WritesLines f c.args.rows.now (g.W.Sink.contents c.write_above.new.writer)
          (g.W.Sink.contents c.write_each.new.writer) (Err fault)) form says.written));
      more = rw same tt;
      failed = λ write. later_failed first.more (says.failed (ap Err (error_is fault Write (sym same ∙ write))));
    }

pub returns-in_err-put : goal.returns-in_err-put
returns-in_err-put g c =
    let same : c.from_residual-in_err-put.result ≡ Err Write = err_is _ c.from_residual-in_err-put.ensures.1 in
    let form = c.of_account-form.ensures in
    let first = c.in_ok-write_above.ensures in
    let second = c.in_ok-write_each.ensures in
    record {
      written = rw same (closing_end c.args.query.now c.args.account c.args.rows.now _ _
          (rw form at first.written) _ (rw form at second.written) _
          (same_part _ _ (c.as_str.ensures.value ∙ c.closing.ensures ∙ ap last_of form)
          c.in_err-put.ensures.err));
      more = rw same tt;
      failed = λ write. later_failed (more_more first.more second.more) c.in_err-put.ensures.failed;
    }

pub returns : goal.returns
returns g c =
    let form = c.of_account-form.ensures in
    let first = c.in_ok-write_above.ensures in
    let second = c.in_ok-write_each.ensures in
    record {
      written = account_written c.args.query.now c.args.account c.args.rows.now _ _
          (rw form at first.written) _ (rw form at second.written) _
          (same_all _ _ (c.as_str.ensures.value ∙ c.closing.ensures ∙ ap last_of form)
          c.in_ok-put.ensures.ok);
      more = more_more (more_more first.more second.more) c.in_ok-put.ensures.more;
      failed = λ write. absurd (not_ok _ _ _ refl write);
    }
