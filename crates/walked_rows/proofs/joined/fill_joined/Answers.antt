-- The room is filled. Each clause is named: a search for them takes long.
use Rattle.std.proofs.Common.{filter, inl, sym, subst, rules, w64}
use Rattle.std.proofs.lemmas.{Int.to_z-of_z, Result.IfErr-weaker, Result.MatchResult-weaker}
use Rattle.sqlite.specs.Held.{state}
use Rattle.sql_meanings.specs.StatementAnswers.{IsStoreError}
use Rattle.sql_meanings.proofs.OrderedAnswers.{rise_filter}
use Rattle.store_rows.specs.View.{HoldsRows}
use Rattle.walked_rows.specs.{StepOutcomes.BreaksBy, Pairs.pair_of}
use Rattle.walked_rows.proofs.Filling.{breaks_given, breaks_own, filled}
use Rattle.walked_rows.proofs.Causes.{cause_on}
use Rattle.walked_rows.proofs.Leaving.{clean_between, reads_then, store_on}
use Rattle.walked_rows.proofs.joined.fill_joined.Goals as goal

pub join_first-requires : goal.join_first-requires
join_first-requires g c =
    let rises = rw (to_z-of_z w64 c.args.from c.ranges.from) at c.in-Ok.ensures.rises in
    rw c.as_slice.ensures.value
    (search rules, (search rules, (search rules, (c.in-Ok.ensures.ended, (c.args.from, rises)))))

pub returns-in-Ok : goal.returns-in-Ok
returns-in-Ok g c =
    let from = c.args.from in
    let whole = to_z-of_z w64 from c.ranges.from in
    let mid = c.read_ahead.new.conn in
    let new = c.join_first.new.conn in
    let read = c.in-Ok.ensures in
    let joined = c.join_first.ensures in
    let between = clean_between g.S.Store mid new joined.reads.survives in
    record {
      answers = λ clean all has.
          let unchanged = read.reads.same (between clean) in
          let given = g.R.StoredRow.kind.is_given c.args.of in
          let answers = rw whole at (read.answers (between clean) has.rows has.has) in
          let others = subst (λ db. HoldsRows db g.O.StoredRow.kind.table has.others)
          (sym unchanged.0.now_is) has.has_others in
          MatchResult-weaker c.join_first.result
          ((rw c.as_slice.ensures.value at (joined.answers clean (filter given has.rows) has.others
          (rise_filter given has.rows has.has.holds.rows.rise) others from)) answers)
          (filled (pair_of g.R.StoredRow.kind.entry g.O.StoredRow.kind.entry) has.others has.rows given all
          has.are from c.join_first.new.rows.items)
          (breaks_given has.others has.rows given all has.are from _
          (BreaksBy g.R.StoredRow.kind.reading) (BreaksBy g.O.StoredRow.kind.reading) _
          (store_on g.S.Store c.args.conn.now mid new (inl unchanged) read.reads.survives));
      ended = joined.ended;
      rises =
          (rw c.as_slice.ensures.value at (joined.rises from)) (rw whole at read.rises);
      reads = reads_then read.reads joined.reads;
      cause = λ clean. IfErr-weaker c.join_first.result _ _
          (cause_on g.S.Store c.args.conn.now mid new read.reads.survives) (joined.cause clean);
    }

pub returns-in-Err : goal.returns-in-Err
returns-in-Err g c =
    let whole = to_z-of_z w64 c.args.from c.ranges.from in
    let read = c.in-Err.ensures in
    record {
      answers = λ clean all has.
          breaks_own has.others has.rows (g.R.StoredRow.kind.is_given c.args.of) all has.are c.args.from
          (IsStoreError (state g.S.Store c.args.conn.now) (state g.S.Store c.read_ahead.new.conn))
          (BreaksBy g.R.StoredRow.kind.reading) (BreaksBy g.O.StoredRow.kind.reading)
          c.in-Err.fault (rw whole at (read.answers clean has.rows has.has));
      ended = tt;
      rises = tt;
      reads = read.reads;
      cause = read.cause;
    }
