-- What stands above the lines, the postings and the closing line.
use Rattle.std.proofs.Common.{◌≡◌, Err, Some, filter, refl, sym, ◌∙◌}
use Rattle.std.proofs.KnownBytes.{Appends-nil}
use Rattle.posting_core.specs.EndCalls.{IsFlush}
use Rattle.posting_core.proofs.Telling.{more_last, more_more}
use Rattle.walked_rows.specs.Stored.{is_stated_of}
use Rattle.report_contents.proofs.Written.{later_failed, same_all, same_part}
use Rattle.bank_reports.specs.declared.fault.ReportFault.TheVariants.{Write}
use Rattle.bank_reports.proofs.BankReads.{reads_nothing, reads_refused}
use Rattle.bank_reports.proofs.Further.{lines_in}
use Rattle.bank_reports.proofs.ReportEnds.{not_ok}
use Rattle.bank_reports.proofs.Sections.{above_err, all_written, closing_err, postings_err}
use Rattle.bank_reports.proofs.Refused.{err_is}
use Rattle.bank_reports.proofs.statement.write_lines.Goals as goal

pub returns-in_err-write_heading : goal.returns-in_err-write_heading
returns-in_err-write_heading g c =
    let same : c.from_residual.result ≡ Err Write = err_is _ c.from_residual.ensures.1 in
    let says = c.in_err-write_heading.ensures in
    record {
      answers = λ clean rows has.
          rw same (above_err c.args.account c.args.form.now (filter (is_stated_of (Some c.args.account)) rows) _ _
          says.written);
      reads = rw same (reads_refused Write tt (reads_nothing c.args.bank.now));
      flushed = rw same tt;
      failed = λ write. says.failed;
    }

pub visit_postings-requires : goal.visit_postings-requires
visit_postings-requires g c = record {
  none = record { form = refl; wrote = Appends-nil _; balance = c.none-lines.ensures.balance };
}

pub returns-in_err-visit_postings : goal.returns-in_err-visit_postings
returns-in_err-visit_postings g c =
    let fault = c.in_err-visit_postings.field-0.0 in
    let same : c.from_residual-in_err-visit_postings.result ≡ Err fault =
    err_is _ c.from_residual-in_err-visit_postings.ensures.1 in
    let above = c.in_ok-write_heading.ensures in
    let says = c.in_err-visit_postings.ensures in
    record {
      answers = λ clean rows has.
          rw same (postings_err c.args.account c.args.form.now (filter (is_stated_of (Some c.args.account)) rows) _ _
          above.written _ fault (lines_in c.none-lines.ensures.form (says.answers clean rows has)));
      reads = rw same says.reads;
      flushed = rw same tt;
      failed = λ write. later_failed above.more (says.failed (sym same ∙ write));
    }

pub returns-in_err-put_last : goal.returns-in_err-put_last
returns-in_err-put_last g c =
    let same : c.from_residual-in_err-put_last.result ≡ Err Write =
    err_is _ c.from_residual-in_err-put_last.ensures.1 in
    let above = c.in_ok-write_heading.ensures in
    let says = c.in_ok-visit_postings.ensures in
    record {
      answers = λ clean rows has.
          rw same (closing_err c.args.account c.args.form.now (filter (is_stated_of (Some c.args.account)) rows) _ _
          above.written _ (lines_in c.none-lines.ensures.form (says.answers clean rows has)) _
          (same_part _ _ (c.as_str.ensures.value ∙ c.closing.ensures) c.in_err-put_last.ensures.err));
      reads = rw same (reads_refused Write tt says.reads);
      flushed = rw same tt;
      failed = λ write. later_failed (more_more above.more says.more) c.in_err-put_last.ensures.failed;
    }

pub returns : goal.returns
returns g c =
    let above = c.in_ok-write_heading.ensures in
    let says = c.in_ok-visit_postings.ensures in
    record {
      answers = λ clean rows has.
          all_written c.args.account c.args.form.now (filter (is_stated_of (Some c.args.account)) rows) _ _
          above.written _ (lines_in c.none-lines.ensures.form (says.answers clean rows has)) _
          (same_all _ _ (c.as_str.ensures.value ∙ c.closing.ensures) c.in_ok-put_last.ensures.ok);
      reads = says.reads;
      flushed = more_last IsFlush (more_more above.more says.more) c.in_ok-put_last.ensures.flushed;
      failed = λ write. absurd (not_ok _ _ _ refl write);
    }
