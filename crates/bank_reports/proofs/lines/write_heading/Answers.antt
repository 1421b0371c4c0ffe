-- One line after the other.
use Rattle.std.proofs.Common.{◌≡◌, Err, ◌∙◌}
use Rattle.std.proofs.KnownBytes.{Appends-trans}
use Rattle.posting_core.proofs.Telling.{more_more}
use Rattle.report_contents.specs.StatementText.{heading_of, names_of}
use Rattle.report_contents.proofs.Written.{first_part, later_failed, same_all, same_part, then_part}
use Rattle.bank_reports.proofs.Refused.{err_is}
use Rattle.bank_reports.proofs.lines.write_heading.Goals as goal

pub returns-in_err-put : goal.returns-in_err-put
returns-in_err-put g c =
    let same : c.from_residual.result ≡ Err c.in_err-put.field-0.0 = err_is _ c.from_residual.ensures.1 in
    record {
      written = rw same (first_part _ _ (heading_of c.args.form.now c.args.account) (names_of c.args.form.now)
          (same_part _ _ (c.as_str.ensures.value ∙ c.heading.ensures) c.in_err-put.ensures.err));
      more = rw same tt;
      failed = rw same c.in_err-put.ensures.failed;
    }

pub returns-in_err-put-2 : goal.returns-in_err-put-2
returns-in_err-put-2 g c =
    let same : c.from_residual-in_err-put-2.result ≡ Err c.in_err-put-2.field-0.0 =
    err_is _ c.from_residual-in_err-put-2.ensures.1 in
    record {
      written = rw same (then_part _ _ _ (heading_of c.args.form.now c.args.account) (names_of c.args.form.now)
          (same_all _ _ (c.as_str.ensures.value ∙ c.heading.ensures) c.in_ok-put.ensures.ok)
          (same_part _ _ (c.as_str-2.ensures.value ∙ c.names.ensures) c.in_err-put-2.ensures.err));
      more = rw same tt;
      failed = rw same (later_failed c.in_ok-put.ensures.more c.in_err-put-2.ensures.failed);
    }

pub returns : goal.returns
returns g c = record {
  written = Appends-trans _ _ _ (heading_of c.args.form.now c.args.account) (names_of c.args.form.now)
      (same_all _ _ (c.as_str.ensures.value ∙ c.heading.ensures) c.in_ok-put.ensures.ok)
      (same_all _ _ (c.as_str-2.ensures.value ∙ c.names.ensures) c.in_ok-put-2.ensures.ok);
  more = more_more c.in_ok-put.ensures.more c.in_ok-put-2.ensures.more;
  failed = tt;
}
