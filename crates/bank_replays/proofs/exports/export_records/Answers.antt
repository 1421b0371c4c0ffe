-- The records of all rows were written, or those of the first.
use Rattle.std.proofs.Common.{◌≡◌, Err, map, refl}
use Rattle.walked_rows.specs.KeptRows.{kept_item}
use Rattle.report_contents.proofs.Written.{later_failed}
use Rattle.bank_replays.specs.{Visiting.refused_of, declared.fault.ReplayFault.TheVariants.Write}
use Rattle.bank_replays.proofs.WrittenRows.{rows_failed, writes_all, writes_end, writes_part}
use Rattle.bank_replays.proofs.{Read.read_any, Whys.why_memory, Whys.why_none}
use Rattle.bank_replays.proofs.Wrote.{writer_err, writer_ok}
use Rattle.bank_replays.proofs.Exits.{fails_by}
use Rattle.bank_replays.proofs.exports.export_records.Goals as goal

pub returns-in_err-visit_all-clause-rows : goal.returns-in_err-visit_all-clause-rows
returns-in_err-visit_all-clause-rows g c clean all has =
    let fault = c.in_err-visit_all.field-0.0 in
    let same : c.from_residual.result ≡ Err fault = fails_by c.from_residual.ensures.1 in
    let it = c.in_err-visit_all.ensures.visits in
    let more = it.4 clean all has in
    rw same (writes_part c.args.after all _ _ (map kept_item it.0) (refused_of kept_item it.1) more.0 more.1 fault it.2
    more.2)

pub returns-in_err-visit_all-clause-writer : goal.returns-in_err-visit_all-clause-writer
returns-in_err-visit_all-clause-writer g c =
    let fault = c.in_err-visit_all.field-0.0 in
    let same : c.from_residual.result ≡ Err fault = fails_by c.from_residual.ensures.1 in
    rw same (writer_err fault (rows_failed fault c.in_err-visit_all.ensures.visits.2))

pub returns-in_err-put_last-clause-rows : goal.returns-in_err-put_last-clause-rows
returns-in_err-put_last-clause-rows g c clean all has =
    let same : c.from_residual-in_err-put_last.result ≡ Err Write =
    fails_by c.from_residual-in_err-put_last.ensures.1 in
    let it = c.in_ok-visit_all.ensures.visits in
    rw same (writes_end c.args.after all (map kept_item it.0) (it.2 clean all has) it.1 c.in_err-put_last.ensures.err)

pub returns-in_err-put_last-clause-writer : goal.returns-in_err-put_last-clause-writer
returns-in_err-put_last-clause-writer g c =
    let same : c.from_residual-in_err-put_last.result ≡ Err Write =
    fails_by c.from_residual-in_err-put_last.ensures.1 in
    rw same (writer_err Write
    (λ is. later_failed c.in_ok-visit_all.ensures.visits.1.wrote.1 c.in_err-put_last.ensures.failed))

pub returns-clause-rows : goal.returns-clause-rows
returns-clause-rows g c clean all has =
    let it = c.in_ok-visit_all.ensures.visits in
    writes_all c.args.after all (map kept_item it.0) (it.2 clean all has) it.1 c.in_ok-put_last.ensures.ok

pub returns-clause-writer : goal.returns-clause-writer
returns-clause-writer g c = writer_ok c.in_ok-visit_all.ensures.visits.1.wrote.1 c.in_ok-put_last.ensures.flushed

-- ---- what is left of the bank, and why not all were written

pub returns-in_err-visit_all-clause-bank : goal.returns-in_err-visit_all-clause-bank
returns-in_err-visit_all-clause-bank g c =
    let same : c.from_residual.result ≡ Err c.in_err-visit_all.field-0.0 = fails_by c.from_residual.ensures.1 in
    rw same c.in_err-visit_all.ensures.bank

pub returns-in_err-visit_all-clause-why : goal.returns-in_err-visit_all-clause-why
returns-in_err-visit_all-clause-why g c =
    let same : c.from_residual.result ≡ Err c.in_err-visit_all.field-0.0 = fails_by c.from_residual.ensures.1 in
    rw same c.in_err-visit_all.ensures.why

pub returns-in_err-put_last-clause-bank : goal.returns-in_err-put_last-clause-bank
returns-in_err-put_last-clause-bank g c = read_any c.in_ok-visit_all.ensures.bank _

pub returns-in_err-put_last-clause-why : goal.returns-in_err-put_last-clause-why
returns-in_err-put_last-clause-why g c =
    let same : c.from_residual-in_err-put_last.result ≡ Err Write =
    fails_by c.from_residual-in_err-put_last.ensures.1 in
    rw same (why_memory Write refl)

pub returns-clause-bank : goal.returns-clause-bank
returns-clause-bank g c = read_any c.in_ok-visit_all.ensures.bank _

pub returns-clause-why : goal.returns-clause-why
returns-clause-why g c = why_none tt
