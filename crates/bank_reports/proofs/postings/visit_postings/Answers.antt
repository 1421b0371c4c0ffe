-- The postings that the walk gave were visited.
use Rattle.std.proofs.Common.{rules, ◌≡◌, List, [], Err, refl, sym, subst, inl}
use Rattle.sqlite.specs.{State.HasCleanDisk, Held.state}
use Rattle.walked_rows.specs.{Pairs.Pair, Stored.is_stated_of}
use Rattle.bank_store.specs.believed.Seen.{database_of}
use Rattle.bank_store.specs.Walking.{given_of}
use Rattle.bank_reports.specs.Leaving.{HasStated}
use Rattle.bank_reports.specs.declared.fault.ReportFault.TheVariants.{Bank}
use Rattle.bank_reports.specs.Visitors.{VisitsPostings}
use Rattle.bank_reports.proofs.BankReads.{reads_down, reads_lent}
use Rattle.bank_reports.proofs.ReportEnds.{not_write}
use Rattle.bank_reports.proofs.Refused.{err_is}
use Rattle.bank_reports.proofs.postings.visit_postings.Goals as goal

pub returns-in_err-walk : goal.returns-in_err-walk
returns-in_err-walk g c =
    let fault = c.in_err-walk.field-0.0 in
    let was = c.in_err-walk.ensures.begins.fault in
    let same : c.from_residual.result ≡ Err (Bank fault) = err_is _ c.from_residual.ensures.1 in
    record {
      answers = λ clean rows has.
          rw (same, was.0) record {
            given = [];
            rest = given_of is_stated_of c.args.of rows;
            are = refl;
            ends = inl (record { visited = c.requires.none; why = tt });
          };
      ends = rw same ([], inl c.requires.none);
      more = rw same tt;
      failed = λ write. absurd (not_write _ fault same write);
      reads = rw (same, was.0) (reads_lent refl (reads_down c.args.bank.now was.1) (search rules));
    }

pub returns : goal.returns
returns g c =
    let begins = c.in_ok-walk.ensures.begins in
    let says = c.visit_rows.ensures in
    let last = c.visit_rows.new.walk.bank.now in
    let there = λ (rows : List Pair) (has : HasStated (database_of g.S.Store c.args.bank.now) rows).
    subst (λ bank. HasStated (database_of g.S.Store bank) rows) (sym begins.same) has in
    record {
      answers = λ clean rows has.
          let late : HasCleanDisk (state g.S.Store last.conn) = search rules in
          subst (λ (all : List Pair). VisitsPostings g.V.Visitor.Visited g.V.Visitor.Refused c.args.visitor.now
          c.visit_rows.new.visitor all (g.W.Sink.contents c.args.writer.now) (g.W.Sink.contents c.visit_rows.new.writer)
          c.visit_rows.result) (begins.all rows has) (says.answers late rows (there rows has));
      ends = says.ends;
      more = says.more;
      failed = says.failed;
      reads = reads_lent begins.same says.reads (search rules);
    }
