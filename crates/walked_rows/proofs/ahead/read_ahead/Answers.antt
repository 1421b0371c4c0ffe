-- What is read ahead is gathered of what was found. Each clause is named: a search for them takes long.
use Rattle.std.proofs.Common.{filter, ◌∙◌, w64}
use Rattle.std.proofs.lemmas.{Int.to_z-of_z, Result.IfErr-weaker}
use Rattle.sqlite.specs.Held.{state}
use Rattle.sql_meanings.specs.{StatementAnswers.IsStoreError, believed.Tables.width_of}
use Rattle.sql_meanings.proofs.OrderedAnswers.{rise_filter}
use Rattle.walked_rows.specs.{StepOutcomes.BreaksBy, Rows.rows_from}
use Rattle.walked_rows.proofs.{Causes.cause_here, Causes.no_cause, Leaving.fails_too, Leaving.reads_any}
use Rattle.walked_rows.proofs.Sought.{match_err, never_first, wide_filter}
use Rattle.walked_rows.proofs.ahead.read_ahead.Goals as goal

pub returns-in-Ok : goal.returns-in-Ok
returns-in-Ok g c =
    let whole = to_z-of_z w64 c.args.from c.ranges.from in
    let old = state g.S.Store c.args.conn.now in
    let new = state g.S.Store c.seek.new.conn in
    let sought = c.in-Ok.ensures in
    let gathered = c.gather.ensures in
    record {
      answers = λ clean rows has.
          let is_given = g.R.StoredRow.kind.is_given c.args.of in
          let given = filter is_given rows in
          match_err _ _ _ c.gather.result
          (never_first (IsStoreError old new) (BreaksBy g.R.StoredRow.kind.reading) (rows_from c.args.from given))
          ((rw whole at (gathered.answers given (rise_filter is_given rows has.holds.rows.rise)
          (wide_filter (width_of g.R.StoredRow.kind.table) is_given rows has.holds.rows.wide)))
          (c.deref.ensures.value ∙ (rw whole at (sought.answers clean rows has))));
      ended = gathered.ended;
      rises = rw whole at gathered.rises;
      reads = reads_any sought.reads c.gather.result;
      cause = λ clean. IfErr-weaker c.gather.result _ _
          (no_cause g.S.Store c.args.conn.now c.seek.new.conn) gathered.cause;
    }

pub returns-in-Err : goal.returns-in-Err
returns-in-Err g c =
    let sought = c.in-Err.ensures in
    record {
      answers = sought.answers;
      ended = tt;
      rises = tt;
      reads = fails_too sought.reads;
      cause = λ clean. cause_here g.S.Store c.args.conn.now c.seek.new.conn c.in-Err.e (sought.failed clean);
    }
