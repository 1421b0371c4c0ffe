-- The line was written, a prefix of it was, or the balance after it is out of its limits.
use Rattle.std.proofs.Common.{rules, ◌≡◌, Err, refl, ap, ◌∙◌, w64, to_z, of_z}
use Rattle.std.proofs.lemmas.Int.{to_z-of_z}
use Rattle.report_contents.specs.StatementText.{line_of}
use Rattle.report_contents.proofs.Written.{same_all, same_part}
use Rattle.bank_reports.specs.declared.fault.ReportFault.TheVariants.{Write}
use Rattle.bank_reports.proofs.ReportEnds.{not_ok}
use Rattle.bank_reports.proofs.lines.write_line.Goals as goal

pub returns-in_err-put : goal.returns-in_err-put
returns-in_err-put g c =
    let same : c.from_residual.result ≡ Err Write = search rules in
    let delta : to_z w64 (of_z w64 c.args.row.now.posting.delta) ≡ c.args.row.now.posting.delta =
    search (rules, to_z-of_z) in
    let after = rw delta at c.in-Some.ensures.within in
    record {
      written = rw same (same_part _ _
          (c.as_str.ensures.value ∙ c.line.ensures ∙ ap (line_of c.args.form.now c.args.row.now) after)
          c.in_err-put.ensures.err);
      more = rw same tt;
      failed = λ write. c.in_err-put.ensures.failed;
    }

pub returns : goal.returns
returns g c =
    let delta : to_z w64 (of_z w64 c.args.row.now.posting.delta) ≡ c.args.row.now.posting.delta =
    search (rules, to_z-of_z) in
    record {
      written = (
        rw delta at c.in-Some.ensures.within,
        same_all _ _
            (c.as_str.ensures.value ∙ c.line.ensures) c.in_ok-put.ensures.ok,
      );
      more = c.in_ok-put.ensures.more;
      failed = λ write. absurd (not_ok _ _ _ refl write);
    }
