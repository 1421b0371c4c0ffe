-- The requests that were read get their references. Each clause is named: a search for them takes long.
use Rattle.std.proofs.Common.{filter, inl, lit<, refl, sym, subst, true, rules, w64}
use Rattle.std.proofs.lemmas.{Int.to_z-of_z, Result.IfErr-weaker, Result.MatchResult-weaker}
use Rattle.sqlite.specs.Held.{state}
use Rattle.sql_meanings.specs.StatementAnswers.{IsStoreError}
use Rattle.sql_meanings.proofs.OrderedAnswers.{rise_filter}
use Rattle.store_rows.specs.believed.BankTables.{reference as reference_table}
use Rattle.store_rows.specs.View.{HoldsRows}
use Rattle.walked_rows.specs.Pairs.{pair_with, paired}
use Rattle.walked_rows.proofs.Keeping.{asked_breaks, asked_read, kept_breaks, kept_breaks_own, kept_so_far}
use Rattle.walked_rows.proofs.{Causes.cause_on, Sought.all_given}
use Rattle.walked_rows.proofs.Leaving.{clean_between, reads_then, store_on}
use Rattle.walked_rows.proofs.kept.read_kept.Goals as goal

pub refer_each-requires : goal.refer_each-requires
refer_each-requires g c =
    rw c.as_slice.ensures.value
    (lit< tt, (search rules, (c.in-Ok.ensures.ended, c.in-Ok.ensures.rises)))

pub returns-in-Ok : goal.returns-in-Ok
returns-in-Ok g c =
    let from = c.args.from in
    let whole = to_z-of_z w64 from c.ranges.from in
    let mid = c.fill_joined.new.conn in
    let new = c.refer_each.new.conn in
    let read = c.in-Ok.ensures in
    let referred = c.refer_each.ensures in
    let between = clean_between g.S.Store mid new referred.reads.survives in
    record {
      answers = λ clean all has.
          rw (sym (all_given all)) (
          let unchanged = read.reads.same (between clean) in
          let answers = rw whole at (read.answers (between clean) (paired has.postings has.rows) record {
            rows = has.rows;
            others = has.postings;
            has = has.has;
            has_others = has.has_postings;
            are = refl;
          }) in
          let others = subst (λ db. HoldsRows db reference_table has.references)
          (sym unchanged.0.now_is) has.has_references in
          MatchResult-weaker c.refer_each.result
          ((rw (c.as_slice.ensures.value, whole) at (referred.answers clean
          (pair_with has.postings) (λ e. refl) (filter (λ _. true) has.rows) has.references
          (rise_filter (λ _. true) has.rows has.has.holds.rows.rise) others))
          (asked_read has.postings has.rows from _ _ answers))
          (kept_so_far has.postings has.references has.rows all has.are from c.refer_each.new.rows.items)
          (kept_breaks has.postings has.references has.rows all has.are from _ _
          (store_on g.S.Store c.args.conn.now mid new (inl unchanged) read.reads.survives)));
      ended = referred.ended;
      rises = rw whole at referred.rises;
      reads = reads_then read.reads referred.reads;
      cause = λ clean. IfErr-weaker c.refer_each.result _ _
          (cause_on g.S.Store c.args.conn.now mid new read.reads.survives) (referred.cause clean);
    }

pub returns-in-Err : goal.returns-in-Err
returns-in-Err g c =
    let whole = to_z-of_z w64 c.args.from c.ranges.from in
    let read = c.in-Err.ensures in
    record {
      answers = λ clean all has. rw (sym (all_given all))
          (kept_breaks_own has.postings has.references has.rows all has.are c.args.from
          (IsStoreError (state g.S.Store c.args.conn.now) (state g.S.Store c.fill_joined.new.conn))
          c.in-Err.fault
          (asked_breaks has.postings has.rows c.args.from _ c.in-Err.fault
          (rw whole at (read.answers clean (paired has.postings has.rows) record {
            rows = has.rows;
            others = has.postings;
            has = has.has;
            has_others = has.has_postings;
            are = refl;
          }))));
      ended = tt;
      rises = tt;
      reads = read.reads;
      cause = read.cause;
    }
