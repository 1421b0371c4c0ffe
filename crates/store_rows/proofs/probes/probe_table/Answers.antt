-- What acceptance and refusal say.
use Rattle.sqlite.specs.{State.HasCleanDisk, Held.state}
use Rattle.sql_meanings.proofs.Probing.{tells_probe}
use Rattle.sql_meanings.specs.StatementAnswers.{TellsUnderstood}
use Rattle.store_rows.specs.Probes.{probe_of}
use Rattle.store_rows.proofs.Probing.{probes, stands_alone}
use Rattle.store_rows.proofs.probes.probe_table.Goals as goal

pub returns : goal.returns
returns g c =
    let old = state g.S.Store c.args.conn.now in
    let new = state g.S.Store c.is_understood.new.conn in
    let table = c.args.table in
    let probe = probe_of table in
    let text : HasCleanDisk new → TellsUnderstood old new probe.0 c.is_understood.result =
    λ clean. rw c.probe_text.ensures at
    (c.is_understood.ensures.answers clean (rw c.probe_text.ensures ((probes table).shows _))) in
    record {
      answers =
          λ clean. tells_probe probe.1 probe.0 (probes table) (stands_alone table) old new
          c.is_understood.result (text clean);
      text = text;
      mode = c.is_understood.ensures.mode;
      survives = c.is_understood.ensures.survives;
    }
