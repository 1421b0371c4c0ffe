-- The entries of all rows were written, or a prefix of them.
use Rattle.std.proofs.Common.{◌≡◌, ◌^◌, ◌-◌, ◌++◌, Err, List, map, length, drop, refl, sym, ap, ◌∙◌, arith}
use Rattle.std.proofs.lemmas.List.{length-map, take-append-drop}
use Rattle.posting_rules.specs.declared.fault.Fault.TheVariants.{Memory}
use Rattle.walked_rows.specs.KeptRows.{KeptItem, kept_item}
use Rattle.report_contents.proofs.Written.{later_failed}
use Rattle.bank_replays.specs.{Visiting.refused_of}
use Rattle.bank_replays.specs.declared.fault.ReplayFault.TheVariants.{Bank, Write}
use Rattle.bank_replays.proofs.Visits.{whole}
use Rattle.bank_replays.proofs.WrittenRows.{rows_failed, writes_all, writes_end, writes_part}
use Rattle.bank_replays.proofs.{Read.read_any, Read.read_fails, Whys.why_err, Whys.why_memory, Whys.why_none}
use Rattle.bank_replays.proofs.Wrote.{bank_err, writer_err, writer_ok}
use Rattle.bank_replays.proofs.Exits.{fails_by}
use Rattle.bank_replays.proofs.logs.write_entries.Goals as goal

pub returns-in_err-count-clause-rows : goal.returns-in_err-count-clause-rows
returns-in_err-count-clause-rows g c clean all has =
    let fault = c.in_err-count.field-0.0 in
    let same : c.from_residual.result ≡ Err fault = fails_by c.from_residual.ensures.1 in
    let it = c.in_err-count.ensures.visits in
    let more = it.4 clean all has in
    let given = map kept_item it.0 in
    let next = refused_of kept_item it.1 in
    rw same (record {
      rows = writes_part c.args.after all _ _ given next more.0 more.1 fault it.2 more.2;
      kept = tt;
    })

pub returns-in_err-count-clause-writer : goal.returns-in_err-count-clause-writer
returns-in_err-count-clause-writer g c =
    let fault = c.in_err-count.field-0.0 in
    let same : c.from_residual.result ≡ Err fault = fails_by c.from_residual.ensures.1 in
    rw same (writer_err fault (rows_failed fault c.in_err-count.ensures.visits.2))

pub returns-then-count-clause-rows : goal.returns-then-count-clause-rows
returns-then-count-clause-rows g c clean all has =
    let it = c.in_ok-count.ensures.visits in
    let most = 2 ^ 64 - 1 in
    let are = ap (λ (l : List KeptItem). l ++ drop most all) (it.3 clean all has) ∙ take-append-drop most all in
    record {
      rows = record {
        given = map kept_item it.0;
        rest = drop most all;
        are = are;
        each = it.1.each;
        wrote = it.1.wrote.0;
        why = omega (arith, length-map it.0 kept_item, it.2, c.if-count.true);
      };
      kept = tt;
    }

pub returns-then-count-clause-writer : goal.returns-then-count-clause-writer
returns-then-count-clause-writer g c = bank_err Memory

pub returns-in_err-put_last-clause-rows : goal.returns-in_err-put_last-clause-rows
returns-in_err-put_last-clause-rows g c clean all has =
    let same : c.from_residual-in_err-put_last.result ≡ Err Write =
    fails_by c.from_residual-in_err-put_last.ensures.1 in
    let it = c.in_ok-count.ensures.visits in
    let are = whole (2 ^ 64 - 1) (map kept_item it.0) all (it.3 clean all has)
    (λ is. c.if-count.false (sym (length-map it.0 kept_item ∙ it.2) ∙ is)) in
    rw same (record {
      rows = writes_end c.args.after all (map kept_item it.0) are it.1 c.in_err-put_last.ensures.err;
      kept = tt;
    })

pub returns-in_err-put_last-clause-writer : goal.returns-in_err-put_last-clause-writer
returns-in_err-put_last-clause-writer g c =
    let same : c.from_residual-in_err-put_last.result ≡ Err Write =
    fails_by c.from_residual-in_err-put_last.ensures.1 in
    rw same (writer_err Write (λ is. later_failed c.in_ok-count.ensures.visits.1.wrote.1 c.in_err-put_last.ensures.failed))

pub returns-clause-rows : goal.returns-clause-rows
returns-clause-rows g c clean all has =
    let it = c.in_ok-count.ensures.visits in
    let are = whole (2 ^ 64 - 1) (map kept_item it.0) all (it.3 clean all has)
    (λ is. c.if-count.false (sym (length-map it.0 kept_item ∙ it.2) ∙ is)) in
    record {
      rows = writes_all c.args.after all (map kept_item it.0) are it.1 c.in_ok-put_last.ensures.ok;
      kept = sym it.2 ∙ sym (length-map it.0 kept_item) ∙ ap (λ (l : List KeptItem). length l) are;
    }

pub returns-clause-writer : goal.returns-clause-writer
returns-clause-writer g c = writer_ok c.in_ok-count.ensures.visits.1.wrote.1 c.in_ok-put_last.ensures.flushed

-- ---- what is left of the bank, and why not all were written

pub returns-in_err-count-clause-bank : goal.returns-in_err-count-clause-bank
returns-in_err-count-clause-bank g c =
    let same : c.from_residual.result ≡ Err c.in_err-count.field-0.0 = fails_by c.from_residual.ensures.1 in
    rw same (read_fails c.in_err-count.field-0.0 c.in_err-count.ensures.bank)

pub returns-in_err-count-clause-why : goal.returns-in_err-count-clause-why
returns-in_err-count-clause-why g c =
    let fault = c.in_err-count.field-0.0 in
    let same : c.from_residual.result ≡ Err fault = fails_by c.from_residual.ensures.1 in
    rw same (why_err fault fault refl c.in_err-count.ensures.why)

pub returns-then-count-clause-bank : goal.returns-then-count-clause-bank
returns-then-count-clause-bank g c = read_any c.in_ok-count.ensures.bank _

pub returns-then-count-clause-why : goal.returns-then-count-clause-why
returns-then-count-clause-why g c = why_memory (Bank Memory) refl

pub returns-in_err-put_last-clause-bank : goal.returns-in_err-put_last-clause-bank
returns-in_err-put_last-clause-bank g c = read_any c.in_ok-count.ensures.bank _

pub returns-in_err-put_last-clause-why : goal.returns-in_err-put_last-clause-why
returns-in_err-put_last-clause-why g c =
    let same : c.from_residual-in_err-put_last.result ≡ Err Write =
    fails_by c.from_residual-in_err-put_last.ensures.1 in
    rw same (why_memory Write refl)

pub returns-clause-bank : goal.returns-clause-bank
returns-clause-bank g c = read_any c.in_ok-count.ensures.bank _

pub returns-clause-why : goal.returns-clause-why
returns-clause-why g c = why_none _
