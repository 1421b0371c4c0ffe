-- Where the tables can't be changed, the store still answers and everything is as it was, or it is told to have
-- failed.
use Rattle.std.proofs.Common.{Err, sym, ◌∙◌}
use Rattle.sqlite.specs.Held.{state}
use Rattle.store_rows.specs.Probes.{probe_of}
use Rattle.posting_rules.specs.declared.open_fault.BankTable.TheVariants.{Meta}
use Rattle.bank_store.specs.Migration.{HasMoved}
use Rattle.bank_store.proofs.Causes.{fails_then, still_answers, still_clean}
use Rattle.bank_store.proofs.{Probed.as_before, Probed.probed, Settled.back, Settled.read_only}
use Rattle.bank_store.proofs.migration.move_settled.Goals as goal

pub returns-in_default : goal.returns-in_default
returns-in_default g c = record { moves = c.in_default.ensures; same = λ clean. tt }

pub returns-in_default-probe_table-clause-moves : goal.returns-in_default-probe_table-clause-moves
returns-in_default-probe_table-clause-moves g c =
    let old = c.args.conn.now in
    let mid = c.move_bank.new.conn in
    let new = c.probe_table.new.conn in
    let s = state g.S.Store in
    let tried = c.in-Err.ensures in
    let asked = c.probe_table.ensures in
    record {
      moved = λ clean. tt;
      undone =
          λ clean.
          back (s old) (s mid) (s new) c.in_default-probe_table.field-0 c.note_settled.ensures
          (tried.undone (still_clean asked.survives clean)) (asked.mode tried.call.mode ∙ sym c.requires.mode)
          (c.in_default-probe_table.ensures.answers clean);
      why = λ clean. tt;
      call =
          fails_then g.S.Store old mid new (HasMoved c.args.from (s old).now) (Err c.in-Err.fault) tried.call
          (probe_of Meta) c.in_default-probe_table.field-0 c.in_default-probe_table.ensures;
    }

pub returns-in_default-probe_table-clause-same : goal.returns-in_default-probe_table-clause-same
returns-in_default-probe_table-clause-same g c =
    (returns-in_default-probe_table-clause-moves g c).undone

pub returns-clause-moves : goal.returns-clause-moves
returns-clause-moves g c =
    let old = c.args.conn.now in
    let mid = c.move_bank.new.conn in
    let new = c.probe_table.new.conn in
    let s = state g.S.Store in
    let tried = c.in-Err.ensures in
    let asked = c.probe_table.ensures.survives in
    record {
      moved = λ clean. tt;
      undone =
          λ clean is_open.
          let still = (probed (s mid) (s new) (probe_of Meta) c.in-Ok.field-0 (c.in-Ok.ensures.answers clean)
          (c.in-Ok.ensures.text clean)).1 in
          as_before (s old) (s mid) (s new) (tried.undone (still_clean asked clean) still.was_open) still;
      why = λ clean. tried.why (still_clean asked clean);
      call =
          still_answers g.S.Store old mid new (HasMoved c.args.from (s old).now) (Err c.in-Err.fault) tried.call
          (probe_of Meta) c.probe_table.result c.probe_table.ensures;
    }

pub returns-clause-same : goal.returns-clause-same
returns-clause-same g c clean =
    let s = state g.S.Store in
    let still = (probed (s c.move_bank.new.conn) (s c.probe_table.new.conn) (probe_of Meta) c.in-Ok.field-0
    (c.in-Ok.ensures.answers clean) (c.in-Ok.ensures.text clean)).1 in
    read_only (s c.args.conn.now) (s c.probe_table.new.conn) {X = Unit {0}} (Err c.in-Err.fault)
    ((returns-clause-moves g c).undone clean still.is_open)
