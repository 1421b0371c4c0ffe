-- The plan was written, or a prefix of it.
use Rattle.std.proofs.Common.{◌≡◌, Result, Err, inl, inr, map, refl, sym, subst}
use Rattle.posting_rules.specs.declared.fault.Fault.{Fault}
use Rattle.posting_core.proofs.Telling.{more_more}
use Rattle.store_rows.specs.believed.BankTables.{branch as branch_table}
use Rattle.walked_rows.specs.{Rows.HasStoredRows, Stored.branch_entry, StoredBeside.floor_entry}
use Rattle.report_contents.proofs.Written.{first_part, later_failed, nothing_written}
use Rattle.bank_replays.specs.{Visiting.refused_of, Writing.plan_lines, Writing.plan_names}
use Rattle.bank_replays.specs.declared.fault.ReplayFault.{ReplayFault, TheVariants.Bank, TheVariants.Write}
use Rattle.bank_replays.proofs.Planned.{plan_all, plan_end, plan_part}
use Rattle.bank_replays.proofs.{Read.read_any, Read.read_fails, Read.read_then}
use Rattle.bank_replays.proofs.{Read.clean_before, Visits.too_many, Whys.err_is, Whys.why_err, Whys.why_memory, Whys.why_none, Whys.why_then}
use Rattle.bank_replays.proofs.Wrote.{bank_err, writer_err, writer_ok}
use Rattle.bank_replays.proofs.Exits.{fails_by}
use Rattle.bank_replays.proofs.plan.write_branches.Goals as goal

-- the fault of the floors is that of the bank
as_err : {X Y : Type 0} (fault other : Fault) → (let r : Result X ReplayFault = Err (Bank fault) in r) ≡ Err (Bank other)
    → (let r : Result Y Fault = Err fault in r) ≡ Err other
as_err fault other is = cc

pub returns-in_err-lines-clause-writer : goal.returns-in_err-lines-clause-writer
returns-in_err-lines-clause-writer g c =
    let fault = c.in_err-lines.field-0.0 in
    let same : c.from_residual.result ≡ Err (Bank fault) = fails_by c.from_residual.ensures.1 in
    rw same (bank_err fault)

pub returns-in_err-lines-clause-rows : goal.returns-in_err-lines-clause-rows
returns-in_err-lines-clause-rows g c clean floors branches has_floors has =
    let same : c.from_residual.result ≡ Err (Bank c.in_err-lines.field-0.0) = fails_by c.from_residual.ensures.1 in
    let why = c.in_err-lines.ensures.frugal clean floors has_floors in
    rw same (record { text = nothing_written _ _; frugal = λ is. inl (why (as_err _ _ is)) })

pub returns-in_err-put-clause-writer : goal.returns-in_err-put-clause-writer
returns-in_err-put-clause-writer g c =
    let same : c.from_residual-in_err-put.result ≡ Err Write = fails_by c.from_residual-in_err-put.ensures.1 in
    rw same (writer_err Write (λ is. c.in_err-put.ensures.failed))

pub returns-in_err-put-clause-rows : goal.returns-in_err-put-clause-rows
returns-in_err-put-clause-rows g c clean floors branches has_floors has =
    let same : c.from_residual-in_err-put.result ≡ Err Write = fails_by c.from_residual-in_err-put.ensures.1 in
    rw same (record {
      text = first_part _ _ plan_names (plan_lines floors branches) c.in_err-put.ensures.err;
      frugal = λ is. absurd cc;
    })

pub returns-in_err-visit_all-clause-rows : goal.returns-in_err-visit_all-clause-rows
returns-in_err-visit_all-clause-rows g c clean floors branches has_floors has =
    let fault = c.in_err-visit_all.field-0.0 in
    let same : c.from_residual-in_err-visit_all.result ≡ Err fault =
    fails_by c.from_residual-in_err-visit_all.ensures.1 in
    let one = c.in_ok-lines.ensures in
    let two = c.in_err-visit_all.ensures in
    let before = clean_before two.bank clean in
    let there = subst (λ db. HasStoredRows db branch_table branches) (sym (one.bank.still before).0) has in
    let more = two.visits.4 clean branches there in
    rw same (record {
      text = plan_part _ _ (map floor_entry c.in_ok-lines.lines.floors.items) floors (map branch_entry two.visits.0)
          branches (one.rows before floors has_floors) c.in_ok-put.ensures.ok _ (refused_of branch_entry two.visits.1)
          more.0 more.1 two.visits.2.0.0;
      frugal = λ is. inr (too_many branch_entry two.visits.0 _ branches more.1 (two.visits.2.1 (err_is _ _ is)));
    })

pub returns-in_err-visit_all-clause-writer : goal.returns-in_err-visit_all-clause-writer
returns-in_err-visit_all-clause-writer g c =
    let fault = c.in_err-visit_all.field-0.0 in
    let same : c.from_residual-in_err-visit_all.result ≡ Err fault =
    fails_by c.from_residual-in_err-visit_all.ensures.1 in
    rw same (writer_err fault
    (λ is. later_failed c.in_ok-put.ensures.more (c.in_err-visit_all.ensures.visits.2.0.1 is)))

pub returns-in_err-put_last-clause-rows : goal.returns-in_err-put_last-clause-rows
returns-in_err-put_last-clause-rows g c clean floors branches has_floors has =
    let same : c.from_residual-in_err-put_last.result ≡ Err Write =
    fails_by c.from_residual-in_err-put_last.ensures.1 in
    let one = c.in_ok-lines.ensures in
    let two = c.in_ok-visit_all.ensures in
    let before = clean_before two.bank clean in
    let there = subst (λ db. HasStoredRows db branch_table branches) (sym (one.bank.still before).0) has in
    rw same (record {
      text = plan_end _ _ (map floor_entry c.in_ok-lines.lines.floors.items) floors (map branch_entry two.visits.0)
          branches (one.rows before floors has_floors) c.in_ok-put.ensures.ok _ _ (two.visits.2 clean branches there)
          two.visits.1.0 c.in_err-put_last.ensures.err;
      frugal = λ is. absurd cc;
    })

pub returns-in_err-put_last-clause-writer : goal.returns-in_err-put_last-clause-writer
returns-in_err-put_last-clause-writer g c =
    let same : c.from_residual-in_err-put_last.result ≡ Err Write =
    fails_by c.from_residual-in_err-put_last.ensures.1 in
    rw same (writer_err Write (λ is.
    later_failed (more_more c.in_ok-put.ensures.more c.in_ok-visit_all.ensures.visits.1.1)
    c.in_err-put_last.ensures.failed))

pub returns-clause-rows : goal.returns-clause-rows
returns-clause-rows g c clean floors branches has_floors has =
    let one = c.in_ok-lines.ensures in
    let two = c.in_ok-visit_all.ensures in
    let before = clean_before two.bank clean in
    let there = subst (λ db. HasStoredRows db branch_table branches) (sym (one.bank.still before).0) has in
    record {
      text = plan_all _ _ (map floor_entry c.in_ok-lines.lines.floors.items) floors (map branch_entry two.visits.0)
          branches (one.rows before floors has_floors) c.in_ok-put.ensures.ok _ _ (two.visits.2 clean branches there)
          two.visits.1.0 c.in_ok-put_last.ensures.ok;
      frugal = λ is. absurd cc;
    }

pub returns-clause-writer : goal.returns-clause-writer
returns-clause-writer g c =
    writer_ok (more_more c.in_ok-put.ensures.more c.in_ok-visit_all.ensures.visits.1.1) c.in_ok-put_last.ensures.flushed

-- ---- why not all were written

pub returns-in_err-lines-clause-why : goal.returns-in_err-lines-clause-why
returns-in_err-lines-clause-why g c =
    let fault = c.in_err-lines.field-0.0 in
    let same : c.from_residual.result ≡ Err (Bank fault) = fails_by c.from_residual.ensures.1 in
    rw same (why_err fault (Bank fault) refl c.in_err-lines.ensures.why)

pub returns-in_err-put-clause-why : goal.returns-in_err-put-clause-why
returns-in_err-put-clause-why g c =
    let same : c.from_residual-in_err-put.result ≡ Err Write = fails_by c.from_residual-in_err-put.ensures.1 in
    rw same (why_memory Write refl)

pub returns-in_err-visit_all-clause-why : goal.returns-in_err-visit_all-clause-why
returns-in_err-visit_all-clause-why g c =
    let fault = c.in_err-visit_all.field-0.0 in
    let same : c.from_residual-in_err-visit_all.result ≡ Err fault =
    fails_by c.from_residual-in_err-visit_all.ensures.1 in
    rw same (why_then c.in_ok-lines.ensures.bank c.in_err-visit_all.ensures.bank c.in_err-visit_all.ensures.why)

pub returns-in_err-put_last-clause-why : goal.returns-in_err-put_last-clause-why
returns-in_err-put_last-clause-why g c =
    let same : c.from_residual-in_err-put_last.result ≡ Err Write =
    fails_by c.from_residual-in_err-put_last.ensures.1 in
    rw same (why_memory Write refl)

pub returns-clause-why : goal.returns-clause-why
returns-clause-why g c = why_none tt

-- ---- what is left of the bank

pub returns-in_err-lines-clause-bank : goal.returns-in_err-lines-clause-bank
returns-in_err-lines-clause-bank g c =
    let fault = c.in_err-lines.field-0.0 in
    let same : c.from_residual.result ≡ Err (Bank fault) = fails_by c.from_residual.ensures.1 in
    rw same (read_fails (Bank fault) c.in_err-lines.ensures.bank)

pub returns-in_err-put-clause-bank : goal.returns-in_err-put-clause-bank
returns-in_err-put-clause-bank g c = read_any c.in_ok-lines.ensures.bank _

pub returns-in_err-visit_all-clause-bank : goal.returns-in_err-visit_all-clause-bank
returns-in_err-visit_all-clause-bank g c =
    let fault = c.in_err-visit_all.field-0.0 in
    let same : c.from_residual-in_err-visit_all.result ≡ Err fault =
    fails_by c.from_residual-in_err-visit_all.ensures.1 in
    rw same (read_then c.in_ok-lines.ensures.bank c.in_err-visit_all.ensures.bank)

pub returns-in_err-put_last-clause-bank : goal.returns-in_err-put_last-clause-bank
returns-in_err-put_last-clause-bank g c =
    read_any (read_then c.in_ok-lines.ensures.bank c.in_ok-visit_all.ensures.bank) _

pub returns-clause-bank : goal.returns-clause-bank
returns-clause-bank g c = read_any (read_then c.in_ok-lines.ensures.bank c.in_ok-visit_all.ensures.bank) _
