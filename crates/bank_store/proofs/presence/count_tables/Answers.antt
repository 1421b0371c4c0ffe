-- One table after another.
use Rattle.std.proofs.Common.{◌≡◌, length, map, take, arith, sym, subst}
use Rattle.std.proofs.Math.Seq.{take-length}
use Rattle.sqlite.specs.Held.{state}
use Rattle.bank_store.specs.Connections.{IsAsBefore}
use Rattle.store_rows.specs.Probes.{probe_of}
use Rattle.bank_store.specs.TablePresence.{joined, presence_of, IsPresent}
use Rattle.bank_store.proofs.Causes.{fails_then, probe_failed, still_clean}
use Rattle.bank_store.proofs.{Probed.next_probe, Probed.one_more, Probed.probed, StepsKeep.quiet_then}
use Rattle.bank_store.proofs.presence.count_tables.Goals as goal

pub loop-table-init : goal.loop-table-init
loop-table-init g c =
    let here = c.in-Ok.ensures in
    record {
      answers = λ clean. rw c.of-there.ensures
          (probed (state g.S.Store c.args.conn.now) (state g.S.Store c.probe_table.new.conn) (probe_of c.args.first)
          c.in-Ok.is_there
          (here.answers clean) (here.text clean));
      looks = record { cause = tt; mode = here.mode c.requires; survives = here.survives };
    }

pub loop-table-preserved : goal.loop-table-preserved
loop-table-preserved g c =
    let old = c.args.conn.now in
    let new = c.probe_table-in-loop-table.new.conn in
    let others = c.args.others.now in
    let at = c.loop-table.table-index in
    let there = c.loop-table.there in
    let is = c.in-Ok-probe_table.is_there in
    let here = c.in-Ok-probe_table.ensures in
    record {
      answers = λ clean. rw (c.and-there.ensures, c.of.ensures)
          (subst (λ ps. IsPresent (state g.S.Store old).now ps (joined there (presence_of is))
          × IsAsBefore (state g.S.Store old) (state g.S.Store new))
          (sym (next_probe c.args.first others at _ c.loop-table-test.true))
          (one_more g.S.Store old c.loop-table.conn new (probe_of c.args.first)
          (map probe_of (take at others)) _ there is
          (c.loop-table.invariant.answers (still_clean here.survives clean)) here clean));
      looks = record {
        cause = tt;
        mode = here.mode c.loop-table.invariant.looks.mode;
        survives = quiet_then (state g.S.Store old) (state g.S.Store c.loop-table.conn) (state g.S.Store new)
            c.loop-table.invariant.looks.survives here.survives;
      };
    }

pub returns-clause-answers : goal.returns-clause-answers
returns-clause-answers g c clean =
    let others = c.args.others.now in
    let all : c.loop-table.table-index ≡ length others =
    omega (arith, c.loop-table-test.false, c.loop-table.auto.table-index-end) in
    let so_far = rw all at (c.loop-table.invariant.answers clean) in
    rw (take-length others) at so_far

pub returns-in_default-clause-looks : goal.returns-in_default-clause-looks
returns-in_default-clause-looks g c = record {
  cause =
      probe_failed g.S.Store c.args.conn.now c.probe_table.new.conn (probe_of c.args.first) c.in_default.field-0
      c.in_default.ensures;
  mode = c.in_default.ensures.mode c.requires;
  survives = c.in_default.ensures.survives;
}

pub returns-in_default-probe_table-clause-looks : goal.returns-in_default-probe_table-clause-looks
returns-in_default-probe_table-clause-looks g c =
    fails_then g.S.Store c.args.conn.now c.loop-table.conn c.probe_table-in-loop-table.new.conn (λ _. ⊥) _
    c.loop-table.invariant.looks _ c.in_default-probe_table.field-0 c.in_default-probe_table.ensures
