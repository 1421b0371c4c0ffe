-- What the row tells, as long as the store still answers; and why it is told to have failed.
use Rattle.std.proofs.Common.{refl, sym, ◌∙◌, inl}
use Rattle.sqlite.specs.Held.{state}
use Rattle.store_rows.specs.Probes.{probe_of}
use Rattle.posting_rules.specs.declared.open_fault.BankTable.TheVariants.{Meta}
use Rattle.bank_store.proofs.Causes.{fails_then, still_answers, still_clean}
use Rattle.bank_store.proofs.{Probed.as_before, Probed.probed, Settled.back, Settled.read_only}
use Rattle.bank_store.proofs.adoption.settled_meta.Goals as goal

pub returns-in-Ok : goal.returns-in-Ok
returns-in-Ok g c =
    let old = c.args.conn.now in
    let mid = c.stored_meta-meta.new.conn in
    let new = c.probe_table.new.conn in
    let s = state g.S.Store in
    let read = c.stored_meta-meta.ensures in
    let asked = c.probe_table.ensures.survives in
    record {
      reads = record {
        answers = λ clean. read.reads.answers (still_clean asked clean);
        fault = read.reads.fault;
        other = λ clean. read.reads.other (still_clean asked clean);
      };
      same =
          λ clean.
          let still = (probed (s mid) (s new) (probe_of Meta) c.in-Ok.field-0 (c.in-Ok.ensures.answers clean)
          (c.in-Ok.ensures.text clean)).1 in
          read_only (s old) (s new) c.stored_meta-meta.result
          (as_before (s old) (s mid) (s new) (read.undone (still_clean asked clean) still.was_open) still);
      looks =
          still_answers g.S.Store old mid new (λ _. ⊥) c.stored_meta-meta.result read.looks (probe_of Meta)
          c.probe_table.result c.probe_table.ensures;
    }

pub returns-in-Err : goal.returns-in-Err
returns-in-Err g c =
    let old = c.args.conn.now in
    let mid = c.stored_meta-meta.new.conn in
    let new = c.probe_table.new.conn in
    let s = state g.S.Store in
    let read = c.stored_meta-meta.ensures in
    let asked = c.probe_table.ensures.survives in
    record {
      reads = record { answers = λ clean rows has. tt; fault = inl refl; other = λ clean. tt };
      same =
          λ clean.
          back (s old) (s mid) (s new) c.in-Err.field-0 c.note_settled.ensures
          (read.undone (still_clean asked clean)) (c.probe_table.ensures.mode read.looks.mode ∙ sym c.requires)
          (c.in-Err.ensures.answers clean);
      looks =
          fails_then g.S.Store old mid new (λ _. ⊥) c.stored_meta-meta.result read.looks (probe_of Meta)
          c.in-Err.field-0 c.in-Err.ensures;
    }
