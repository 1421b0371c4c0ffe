-- One pass after another.
use Rattle.std.proofs.Common.{◌≡◌, Err}
use Rattle.walked_rows.specs.Pairs.{paired}
use Rattle.report_contents.specs.Beside.{no_rows}
use Rattle.bank_store.proofs.ReadsLeave.{clean_before}
use Rattle.bank_store.specs.believed.Seen.{file_of}
use Rattle.bank_reports.specs.Adding.{with_accounts, with_branches, with_requests, with_tellers}
use Rattle.bank_reports.proofs.BankReads.{reads_then}
use Rattle.bank_reports.proofs.FileReads.{accounts_read, asked_in, asked_read, branches_read, file_kept, posted_in}
use Rattle.bank_reports.proofs.FileReads.{posted_read, tellers_read}
use Rattle.bank_reports.proofs.Read.{read, read_is, read_sums}
use Rattle.bank_reports.proofs.Refused.{err_is}
use Rattle.bank_reports.proofs.additions.add_all.Goals as goal

-- ---- the rows so far

pub add_each-requires : goal.add_each-requires
add_each-requires g c = (no_rows, c.requires)

pub add_each-requires-2 : goal.add_each-requires-2
add_each-requires-2 g c =
    let ts = c.in_ok-add_each.ensures.added in
    (with_tellers no_rows ts.0, ts.1 no_rows c.requires)

pub add_each-requires-3 : goal.add_each-requires-3
add_each-requires-3 g c =
    let ts = c.in_ok-add_each.ensures.added in
    let bs = c.in_ok-add_each-2.ensures.added in
    let one = with_tellers no_rows ts.0 in
    (with_branches one bs.0, bs.1 one (ts.1 no_rows c.requires))

pub add_each-requires-4 : goal.add_each-requires-4
add_each-requires-4 g c =
    let ts = c.in_ok-add_each.ensures.added in
    let bs = c.in_ok-add_each-2.ensures.added in
    let acs = c.in_ok-add_each-3.ensures.added in
    let one = with_tellers no_rows ts.0 in
    let two = with_branches one bs.0 in
    (with_accounts two acs.0, acs.1 two (bs.1 one (ts.1 no_rows c.requires)))

pub add_each-requires-5 : goal.add_each-requires-5
add_each-requires-5 g c =
    let ts = c.in_ok-add_each.ensures.added in
    let bs = c.in_ok-add_each-2.ensures.added in
    let acs = c.in_ok-add_each-3.ensures.added in
    let rs = c.in_ok-add_each-4.ensures.added in
    let one = with_tellers no_rows ts.0 in
    let two = with_branches one bs.0 in
    let three = with_accounts two acs.0 in
    (with_requests three rs.0, rs.1 three (acs.1 two (bs.1 one (ts.1 no_rows c.requires))))

-- ---- a pass that failed

pub returns-in_err-add_each : goal.returns-in_err-add_each
returns-in_err-add_each g c =
    let same : c.from_residual.result ≡ Err c.in_err-add_each.field-0.0 = err_is _ c.from_residual.ensures.1 in
    record { added = λ clean f has. rw same tt; reads = rw same (tellers_read c.in_err-add_each.ensures.reads) }

pub returns-in_err-add_each-2 : goal.returns-in_err-add_each-2
returns-in_err-add_each-2 g c =
    let same : c.from_residual-in_err-add_each-2.result ≡ Err c.in_err-add_each-2.field-0.0 =
    err_is _ c.from_residual-in_err-add_each-2.ensures.1 in
    record {
      added = λ clean f has. rw same tt;
      reads = rw same (reads_then (tellers_read c.in_ok-add_each.ensures.reads)
          (branches_read c.in_err-add_each-2.ensures.reads));
    }

pub returns-in_err-add_each-3 : goal.returns-in_err-add_each-3
returns-in_err-add_each-3 g c =
    let same : c.from_residual-in_err-add_each-3.result ≡ Err c.in_err-add_each-3.field-0.0 =
    err_is _ c.from_residual-in_err-add_each-3.ensures.1 in
    record {
      added = λ clean f has. rw same tt;
      reads = rw same (reads_then (tellers_read c.in_ok-add_each.ensures.reads)
          (reads_then (branches_read c.in_ok-add_each-2.ensures.reads)
          (accounts_read c.in_err-add_each-3.ensures.reads)));
    }

pub returns-in_err-add_each-4 : goal.returns-in_err-add_each-4
returns-in_err-add_each-4 g c =
    let same : c.from_residual-in_err-add_each-4.result ≡ Err c.in_err-add_each-4.field-0.0 =
    err_is _ c.from_residual-in_err-add_each-4.ensures.1 in
    record {
      added = λ clean f has. rw same tt;
      reads = rw same (reads_then (tellers_read c.in_ok-add_each.ensures.reads)
          (reads_then (branches_read c.in_ok-add_each-2.ensures.reads)
          (reads_then (accounts_read c.in_ok-add_each-3.ensures.reads)
          (asked_read c.in_err-add_each-4.ensures.reads))));
    }

pub returns-in_err-add_each-5 : goal.returns-in_err-add_each-5
returns-in_err-add_each-5 g c =
    let same : c.from_residual-in_err-add_each-5.result ≡ Err c.in_err-add_each-5.field-0.0 =
    err_is _ c.from_residual-in_err-add_each-5.ensures.1 in
    record {
      added = λ clean f has. rw same tt;
      reads = rw same (reads_then (tellers_read c.in_ok-add_each.ensures.reads)
          (reads_then (branches_read c.in_ok-add_each-2.ensures.reads)
          (reads_then (accounts_read c.in_ok-add_each-3.ensures.reads)
          (reads_then (asked_read c.in_ok-add_each-4.ensures.reads)
          (posted_read c.in_err-add_each-5.ensures.reads)))));
    }

-- ---- all of them

pub returns : goal.returns
returns g c =
    let a1 = c.in_ok-add_each.ensures in
    let a2 = c.in_ok-add_each-2.ensures in
    let a3 = c.in_ok-add_each-3.ensures in
    let a4 = c.in_ok-add_each-4.ensures in
    let a5 = c.in_ok-add_each-5.ensures in
    let r2 = reads_then (tellers_read a1.reads) (branches_read a2.reads) in
    let r3 = reads_then r2 (accounts_read a3.reads) in
    let r4 = reads_then r3 (asked_read a4.reads) in
    record {
      added = λ clean f has.
          let k4 = clean_before (file_of c.add_each-4.new.bank) (file_of c.add_each-5.new.bank) a5.reads.survives clean in
          let k3 = clean_before (file_of c.add_each-3.new.bank) (file_of c.add_each-4.new.bank) a4.reads.survives k4 in
          let k2 = clean_before (file_of c.add_each-2.new.bank) (file_of c.add_each-3.new.bank) a3.reads.survives k3 in
          let k1 = clean_before (file_of c.add_each.new.bank) (file_of c.add_each-2.new.bank) a2.reads.survives k2 in
          let ts = a1.added.2 k1 f.tellers has.tellers in
          let bs = a2.added.2 k2 f.branches (file_kept (tellers_read a1.reads) k1 f has).branches in
          let acs = a3.added.2 k3 f.accounts (file_kept r2 k2 f has).accounts in
          let rs = a4.added.2 k4 (paired f.history f.requests) (asked_in (file_kept r3 k3 f has)) in
          let hs = a5.added.2 clean (paired f.requests f.history) (posted_in (file_kept r4 k4 f has)) in
          let one = with_tellers no_rows a1.added.0 in
          let two = with_branches one a2.added.0 in
          let three = with_accounts two a3.added.0 in
          let four = with_requests three a4.added.0 in (
            read a1.added.0 a2.added.0 a3.added.0 a4.added.0 a5.added.0,
            read_is a1.added.0 a2.added.0 a3.added.0 a4.added.0 a5.added.0 f ts bs acs rs hs,
            read_sums a1.added.0 a2.added.0 a3.added.0 a4.added.0 a5.added.0 f ts bs acs rs hs c.add_each-5.new.sums
                (a5.added.1 four (a4.added.1 three (a3.added.1 two (a2.added.1 one (a1.added.1 no_rows c.requires))))),
          );
      reads = reads_then r4 (posted_read a5.reads);
    }
