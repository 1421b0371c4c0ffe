-- All is added, and then the range of it is written.
use Rattle.std.proofs.Common.{rules, ◌≡◌, ℕ, [], List, Option, Err, Some, filter, refl, sym, subst, inl, inr, ◌∙◌}
use Rattle.std.proofs.lemmas.Result.{on_ok_weaker}
use Rattle.sqlite.specs.{State.HasCleanDisk, Held.state}
use Rattle.posting_core.specs.EndCalls.{IsFlush}
use Rattle.posting_core.proofs.Telling.{more_last}
use Rattle.walked_rows.specs.Stored.{is_stated_of}
use Rattle.report_contents.specs.declared.{form.Form.Form, range.Range.Range}
use Rattle.report_contents.specs.Ranges.{HasSummed}
use Rattle.report_contents.specs.StatementText.{part_of}
use Rattle.report_contents.proofs.Written.{later_failed}
use Rattle.bank_reports.specs.Postings.{WritesStatement}
use Rattle.bank_reports.proofs.Further.{sums_read, why_read}
use Rattle.bank_reports.proofs.BankReads.{has_before, reads_then}
use Rattle.bank_store.proofs.ReadsLeave.{clean_before}
use Rattle.bank_reports.proofs.statement.write_part.Goals as goal

pub visit_postings-requires : goal.visit_postings-requires
visit_postings-requires g c = record {
  none = record {
    summed = subst (λ (r : Range). HasSummed r c.none-sums.result []) (sym c.none-sums.ensures.range) c.none-sums.ensures;
    silent = refl;
  };
}

pub returns-in_err-visit_postings : goal.returns-in_err-visit_postings
returns-in_err-visit_postings g c =
    let fault = c.in_err-visit_postings.field-0.0 in
    let same : c.from_residual.result ≡ Err fault = search rules in
    let says = c.in_err-visit_postings.ensures in
    record {
      answers = λ clean rows has.
          let it = says.answers clean rows has in
          let read = sums_read it in
          rw same record {
            summed = it.given;
            rest = it.rest;
            are = it.are;
            ends = inr (fault, refl, why_read it.given it.rest (Err fault) read.why, read.visited.silent);
          };
      flushed = rw same tt;
      failed = λ write. says.failed (sym same ∙ write);
      reads = rw same says.reads;
    }

pub returns : goal.returns
returns g c =
    let mid = state g.S.Store c.visit_postings.new.bank.conn in
    let new = state g.S.Store c.write_lines.new.bank.conn in
    let first = c.in_ok-visit_postings.ensures in
    let second = c.write_lines.ensures in
    let before = λ (clean : HasCleanDisk new). clean_before mid new second.reads.survives clean in
    record {
      answers = λ clean rows has.
          let it = first.answers (before clean) rows has in
          let read = sums_read it in
          let there = has_before first.reads c.write_lines.new.bank second.reads.survives clean rows has in
          let summed = subst (λ (r : Range). HasSummed r c.visit_postings.new.visitor it.given)
          c.none-sums.ensures.range read.visited.summed in
          let all = filter (is_stated_of (Some c.args.account)) rows in
          record {
            summed = it.given;
            rest = it.rest;
            are = it.are;
            ends = inl (
              read.why,
              subst (λ (o : Option (List ℕ)). WritesStatement c.args.account
                  (part_of c.args.selection c.args.range it.given) all o
                  (g.W.Sink.contents c.write_lines.new.writer) c.write_lines.result) read.visited.silent
                  (subst (λ (form : Form). WritesStatement c.args.account form all
                  (g.W.Sink.contents c.visit_postings.new.writer) (g.W.Sink.contents c.write_lines.new.writer)
                  c.write_lines.result)
                  (c.of_sums-part.ensures c.args.range it.given summed) (second.answers clean rows there)),
            );
          };
      flushed = on_ok_weaker c.write_lines.result (λ e. more_last IsFlush first.more e) second.flushed;
      failed = λ write. later_failed first.more (second.failed write);
      reads = reads_then first.reads second.reads;
    }
