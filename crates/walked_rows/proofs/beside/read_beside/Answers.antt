-- What is read beside other rows is gathered of what was found. Each clause is named: a search for them takes
-- long.
use Rattle.std.proofs.Common.{None, ap, map, take, ◌∙◌, w64}
use Rattle.std.proofs.lemmas.{Int.to_z-of_z, Result.IfErr-weaker}
use Rattle.sqlite.specs.Held.{state}
use Rattle.sql_meanings.specs.StatementAnswers.{IsStoreError}
use Rattle.store_rows.specs.believed.SeveralRows.{given}
use Rattle.walked_rows.specs.{StepOutcomes.BreaksBy, Rows.rows_from, declared.ahead.TheConstants.AHEAD}
use Rattle.walked_rows.proofs.{Causes.cause_here, Causes.no_cause, Leaving.fails_too, Leaving.reads_any}
use Rattle.walked_rows.proofs.{Sought.all_pass, Sought.match_err, Under.never_under}
use Rattle.walked_rows.proofs.beside.read_beside.Goals as goal

pub returns-in-Ok : goal.returns-in-Ok
returns-in-Ok g c =
    let from = c.args.from in
    let same = to_z-of_z w64 from c.ranges.from in
    let old = state g.S.Store c.args.conn.now in
    let new = state g.S.Store c.seek.new.conn in
    let sought = c.in-Ok.ensures in
    let gathered = c.gather_beside.ensures in
    record {
      answers = λ clean all has.
          let whole = all_pass (g.O.StoredRow.kind.is_given None) g.O.StoredRow.kind.all_given all in
          let found = (rw same at (sought.answers clean all has))
          ∙ ap (λ es. map given (take AHEAD (rows_from from es))) whole in
          match_err _ _ _ c.gather_beside.result
          (never_under (IsStoreError old new) (BreaksBy g.O.StoredRow.kind.reading) from all)
          ((rw same at (gathered.answers all has.holds.rows.rise has.holds.rows.wide))
          (c.deref.ensures.value ∙ found));
      beyond = rw same at gathered.beyond;
      reads = reads_any sought.reads c.gather_beside.result;
      cause = λ clean. IfErr-weaker c.gather_beside.result _ _
          (no_cause g.S.Store c.args.conn.now c.seek.new.conn) gathered.cause;
    }

pub returns-in-Err : goal.returns-in-Err
returns-in-Err g c =
    let sought = c.in-Err.ensures in
    record {
      answers = sought.answers;
      beyond = tt;
      reads = fails_too sought.reads;
      cause = λ clean. cause_here g.S.Store c.args.conn.now c.seek.new.conn c.in-Err.e (sought.failed clean);
    }
