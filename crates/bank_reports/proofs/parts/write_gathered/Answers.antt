-- All statements of what was gathered.
use Rattle.std.proofs.Common.{◌≡◌, Err, refl, sym, ap, subst, ◌∙◌}
use Rattle.posting_core.specs.EndCalls.{IsFlush}
use Rattle.posting_core.proofs.Telling.{more_last, more_more}
use Rattle.report_contents.proofs.Written.{later_failed, same_all, same_part}
use Rattle.bank_reports.specs.declared.fault.ReportFault.TheVariants.{Bank, Write}
use Rattle.bank_reports.specs.Parts.{WritesParts}
use Rattle.bank_reports.proofs.Further.{error_is}
use Rattle.bank_reports.proofs.ReportEnds.{not_ok, not_write}
use Rattle.bank_reports.proofs.TopWritten.{flush_end, flushed, parts_end, parts_written, top_end}
use Rattle.bank_reports.proofs.Refused.{err_is}
use Rattle.bank_reports.proofs.parts.write_gathered.Goals as goal

pub returns-in_err-rows : goal.returns-in_err-rows
returns-in_err-rows g c =
    let fault = c.in_err-rows.field-0.0 in
    let memory = c.in_err-rows.ensures.refused in
    let same : c.from_residual.result ≡ Err (Bank fault) = err_is _ c.from_residual.ensures.1 in
    record {
      written = rw (same, memory) refl;
      flushed = rw same tt;
      failed = λ write. absurd (not_write _ fault same write);
    }

pub returns-in_err-put : goal.returns-in_err-put
returns-in_err-put g c =
    let same : c.from_residual-in_err-put.result ≡ Err Write = err_is _ c.from_residual-in_err-put.ensures.1 in
    let by = c.in_ok-rows.ensures.sorted in
    record {
      written = rw same (top_end c.args.query c.args.gathered.rows.items c.in_ok-rows.rows.items by _ _
          (same_part _ _ (c.as_str.ensures.value ∙ c.top.ensures) c.in_err-put.ensures.err));
      flushed = rw same tt;
      failed = λ write. c.in_err-put.ensures.failed;
    }

pub returns-in_err-write_parts : goal.returns-in_err-write_parts
returns-in_err-write_parts g c =
    let fault = c.in_err-write_parts.field-0.0 in
    let same : c.from_residual-in_err-write_parts.result ≡ Err fault =
    err_is _ c.from_residual-in_err-write_parts.ensures.1 in
    let by = c.in_ok-rows.ensures.sorted in
    let says = c.in_err-write_parts.ensures in
    let all : c.as_slice.result.now ≡ c.in_ok-rows.rows.items = c.as_slice.ensures.value in
    record {
      written = rw same (parts_end c.args.query c.args.gathered.rows.items c.in_ok-rows.rows.items by _ _
          (same_all _ _ (c.as_str.ensures.value ∙ c.top.ensures) c.in_ok-put.ensures.ok) _ fault (subst (λ l. WritesParts c.args.query l (g.W.Sink.contents c.put.new.writer)
          (g.W.Sink.contents c.write_parts.new.writer) (Err fault)) all says.written));
      flushed = rw same tt;
      failed = λ write. later_failed c.in_ok-put.ensures.more (says.failed (ap Err (error_is fault Write (sym same ∙ write))));
    }

pub returns-in_err-put_last : goal.returns-in_err-put_last
returns-in_err-put_last g c =
    let same : c.from_residual-in_err-put_last.result ≡ Err Write =
    err_is _ c.from_residual-in_err-put_last.ensures.1 in
    let by = c.in_ok-rows.ensures.sorted in
    let says = c.in_ok-write_parts.ensures in
    let all : c.as_slice.result.now ≡ c.in_ok-rows.rows.items = c.as_slice.ensures.value in
    record {
      written = rw same (flush_end c.args.query c.args.gathered.rows.items _ _ _
          (parts_written c.args.query c.args.gathered.rows.items c.in_ok-rows.rows.items by _ _
          (same_all _ _ (c.as_str.ensures.value ∙ c.top.ensures) c.in_ok-put.ensures.ok) _ (rw all at says.written))
          c.in_err-put_last.ensures.err);
      flushed = rw same tt;
      failed = λ write.
          later_failed (more_more c.in_ok-put.ensures.more says.more) c.in_err-put_last.ensures.failed;
    }

pub returns : goal.returns
returns g c =
    let by = c.in_ok-rows.ensures.sorted in
    let says = c.in_ok-write_parts.ensures in
    let all : c.as_slice.result.now ≡ c.in_ok-rows.rows.items = c.as_slice.ensures.value in
    record {
      written = flushed c.args.query c.args.gathered.rows.items _ _ _
          (parts_written c.args.query c.args.gathered.rows.items c.in_ok-rows.rows.items by _ _
          (same_all _ _ (c.as_str.ensures.value ∙ c.top.ensures) c.in_ok-put.ensures.ok) _ (rw all at says.written))
          c.in_ok-put_last.ensures.ok;
      flushed = more_last IsFlush (more_more c.in_ok-put.ensures.more says.more) c.in_ok-put_last.ensures.flushed;
      failed = λ write. absurd (not_ok _ _ _ refl write);
    }
