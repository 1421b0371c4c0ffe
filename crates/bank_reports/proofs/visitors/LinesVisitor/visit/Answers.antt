-- One more line is written.
use Rattle.std.proofs.Common.{rules, ◌≡◌, Err, refl, sym, ap, ◌∙◌}
use Rattle.bank_reports.specs.declared.fault.ReportFault.TheVariants.{Write}
use Rattle.bank_reports.proofs.Further.{error_is, line_refusal, line_refused, one_line}
use Rattle.bank_reports.proofs.ReportEnds.{not_ok}
use Rattle.bank_reports.proofs.visitors.LinesVisitor.visit.Goals as goal

pub returns-in_err-after : goal.returns-in_err-after
returns-in_err-after g c =
    let fault = c.in_err-after.field-0.0 in
    let same : c.from_residual.result ≡ Err fault = search rules in
    let says = c.in_err-after.ensures in
    record {
      visited = λ first bytes given it. rw same (line_refused c.args.row.now it fault says.written);
      faults = rw same (line_refusal c.args.self.now.form c.args.row.now c.args.self.now.balance _ _ fault
          says.written);
      more = rw same tt;
      failed = λ write. says.failed (ap Err (error_is fault Write (sym same ∙ write)));
    }

pub returns : goal.returns
returns g c =
    let says = c.in_ok-after.ensures in
    record {
      visited = λ first bytes given it. one_line c.args.row.now it _ refl says.written;
      faults = tt;
      more = says.more;
      failed = λ write. absurd (not_ok _ _ _ refl write);
    }
