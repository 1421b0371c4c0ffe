-- What ends the visits, and what one more leaves.
use Rattle.std.proofs.Common.{rules, ◌≡◌, Err, refl, sym, ap, inl, inr, ◌∙◌, arith}
use Rattle.posting_rules.specs.declared.fault.Fault.TheVariants.{Damaged}
use Rattle.posting_rules.specs.declared.fault.Rule.TheVariants.{Value}
use Rattle.posting_core.proofs.Telling.{more_more, more_none}
use Rattle.report_contents.proofs.Written.{later_failed}
use Rattle.bank_store.specs.Walking.{postings_to_come}
use Rattle.bank_store.specs.believed.Seen.{file_of}
use Rattle.bank_store.proofs.ReadsLeave.{clean_before}
use Rattle.bank_reports.specs.declared.fault.ReportFault.TheVariants.{Bank, Write}
use Rattle.bank_reports.proofs.BankReads.{has_before, reads_failed, reads_nothing, reads_refused, reads_still}
use Rattle.bank_reports.proofs.BankReads.{reads_then}
use Rattle.bank_reports.proofs.Further.{error_is}
use Rattle.bank_reports.proofs.ReportEnds.{not_ok, not_write}
use Rattle.bank_reports.proofs.Visited.{end_reading, end_refused, none_visited, one_visited, step_why}
use Rattle.bank_reports.proofs.postings.visit_rows.Goals as goal

pub rows-init : goal.rows-init
rows-init g c = record {
  reference = refl;
  fresh = c.requires.fresh;
  reads = reads_nothing c.args.walk.now.bank.now;
  more = more_none _;
  visited = none_visited _ c.requires.none;
}

pub returns-in_err-row : goal.returns-in_err-row
returns-in_err-row g c =
    let it = c.rows.invariant in
    let mid = c.rows.walk.bank.now in
    let new = c.next.new.self.bank.now in
    let step = c.next.ensures.bank in
    let fault = c.in_err-row.field-0.0 in
    let same : c.from_residual.result ≡ Err (Bank fault) = search rules in
    record {
      same_reference = step.same_reference ∙ it.reference;
      answers = λ clean rows has.
          rw same (end_reading it.visited (clean_before (file_of mid) (file_of new) step.survives clean) has
          (step_why it.visited.given _ _ fault (c.in_err-row.ensures.answers clean rows (has_before it.reads new step.survives clean rows has))));
      ends = rw same (it.visited.given, inl it.visited.visited);
      more = rw same tt;
      failed = λ write. absurd (not_write _ fault same write);
      reads = rw same (reads_then it.reads
          (reads_failed mid new step.up step.survives fault
          (λ is. c.in_err-row.ensures.frugal (ap Err is))
          (λ is. it.fresh (c.next.ensures.stage.down.1 (rw (c.in_err-row.was, is) refl)).0) step.undone
          (λ is clean rows has. c.in_err-row.ensures.store clean rows has (ap Err is)) (λ rule is clean rows has. tt)));
    }

pub returns-in_default : goal.returns-in_default
returns-in_default g c =
    let it = c.rows.invariant in
    let mid = c.rows.walk.bank.now in
    let new = c.next.new.self.bank.now in
    let step = c.next.ensures.bank in
    record {
      same_reference = step.same_reference ∙ it.reference;
      answers = λ clean rows has.
          end_reading it.visited (clean_before (file_of mid) (file_of new) step.survives clean) has
          (rw c.in_default.is at (c.in_ok-row.ensures.answers clean rows (has_before it.reads new step.survives clean rows has))).0;
      ends = (it.visited.given, it.visited.visited);
      more = it.more;
      failed = λ no. absurd (not_ok _ _ _ refl no);
      reads = reads_then it.reads (reads_still mid new step.up step.survives
          c.in_ok-row.ensures.bank.same);
    }

pub visit-requires : goal.visit-requires
visit-requires g c =
    let it = c.rows.invariant.visited in (
      c.args.visitor.now,
      g.W.Sink.contents c.args.writer.now,
      it.given,
      it.visited,
      omega (arith, it.many, c.rows-test.true),
    )

pub returns-in_err-visit : goal.returns-in_err-visit
returns-in_err-visit g c =
    let it = c.rows.invariant in
    let mid = c.rows.walk.bank.now in
    let new = c.next.new.self.bank.now in
    let step = c.next.ensures.bank in
    let fault = c.in_err-visit.field-0.0 in
    let same : c.from_residual-in_err-visit.result ≡ Err fault = search rules in
    let says = c.in_err-visit.ensures in
    let refused = says.visited c.args.visitor.now (g.W.Sink.contents c.args.writer.now) it.visited.given
    it.visited.visited in
    record {
      same_reference = step.same_reference ∙ it.reference;
      answers = λ clean rows has.
          rw same (end_refused it.visited (clean_before (file_of mid) (file_of new) step.survives clean) has c.in-Some.row
          (rw c.in-Some.is at (c.in_ok-row.ensures.answers clean rows (has_before it.reads new step.survives clean rows has))) refused);
      ends = rw same (it.visited.given, inr (c.in-Some.row, refused));
      more = rw same tt;
      failed = λ is. later_failed it.more (says.failed (ap Err (error_is fault Write (sym same ∙ is))));
      reads = rw same (reads_refused fault says.faults (reads_then it.reads
          (reads_still mid new step.up step.survives
          c.in_ok-row.ensures.bank.same)));
    }

pub rows-preserved : goal.rows-preserved
rows-preserved g c =
    let it = c.rows.invariant in
    let mid = c.rows.walk.bank.now in
    let new = c.next.new.self.bank.now in
    let step = c.next.ensures.bank in
    record {
      reference = step.same_reference ∙ it.reference;
      fresh = c.in_ok-row.ensures.stage.going;
      reads = reads_then it.reads (reads_still mid new step.up step.survives
          c.in_ok-row.ensures.bank.same);
      more = more_more it.more c.in_ok-visit.ensures.more;
      visited = one_visited it.visited (λ rows. postings_to_come rows c.next.new.self) c.in-Some.row (clean_before (file_of mid) (file_of new) step.survives)
          (λ clean rows has.
          rw c.in-Some.is at (c.in_ok-row.ensures.answers clean rows (has_before it.reads new step.survives clean rows has)))
          (c.in_ok-visit.ensures.visited c.args.visitor.now (g.W.Sink.contents c.args.writer.now) it.visited.given
          it.visited.visited);
    }

pub returns : goal.returns
returns g c =
    let it = c.rows.invariant in
    record {
      same_reference = it.reference;
      answers = λ clean rows has.
          end_reading it.visited clean has (inr (refl, omega (arith, it.visited.many, c.rows-test.false)));
      ends = (it.visited.given, inl it.visited.visited);
      more = tt;
      failed = λ write. absurd (not_write _ (Damaged Value) refl write);
      reads = reads_refused (Bank (Damaged Value)) tt it.reads;
    }
