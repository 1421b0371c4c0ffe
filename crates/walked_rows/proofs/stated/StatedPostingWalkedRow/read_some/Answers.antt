-- The postings that were read are stated. Each clause is named: a search for them takes long.
use Rattle.std.proofs.Common.{◌++◌, ◌∙◌, ap, filter, inl, lit<, map, refl, sym, subst, rules, w64}
use Rattle.std.proofs.lemmas.{Int.to_z-of_z, List.map-id, Result.MatchResult-weaker}
use Rattle.sqlite.specs.Held.{state}
use Rattle.sql_meanings.specs.StatementAnswers.{IsStoreError}
use Rattle.sql_meanings.proofs.OrderedAnswers.{rise_filter}
use Rattle.store_rows.specs.believed.BankTables.{reference as reference_table}
use Rattle.store_rows.specs.View.{HoldsRows}
use Rattle.walked_rows.specs.{StepOutcomes.BreaksBy, References.BreaksReference}
use Rattle.walked_rows.specs.Rows.{holds_rows}
use Rattle.walked_rows.specs.Stored.{is_of, posting_entry, posting_of, stated_pair}
use Rattle.walked_rows.proofs.Filling.{breaks_given, breaks_own, filled}
use Rattle.walked_rows.proofs.Leaving.{clean_between, reads_then, store_on}
use Rattle.walked_rows.proofs.stated.StatedPostingWalkedRow.read_some.Goals as goal

pub refer_each-requires : goal.refer_each-requires
refer_each-requires g c =
    rw c.as_slice.ensures.value
    (lit< tt, (search rules, (c.in-Ok.ensures.ended, c.in-Ok.ensures.rises)))

pub returns-in-Ok : goal.returns-in-Ok
returns-in-Ok g c =
    let from = c.args.from in
    let whole = to_z-of_z w64 from c.ranges.from in
    let mid = c.read_ahead.new.conn in
    let new = c.refer_each.new.conn in
    let read = c.in-Ok.ensures in
    let stated = c.refer_each.ensures in
    let between = clean_between g.S.Store mid new stated.reads.survives in
    record {
      answers = λ clean all has.
          let unchanged = read.reads.same (between clean) in
          let given = is_of c.args.of in
          let answers = rw whole at (read.answers (between clean) has.rows (holds_rows has.has)) in
          let others = subst (λ db. HoldsRows db reference_table has.others)
          (sym unchanged.0.now_is) (holds_rows has.has_others) in
          MatchResult-weaker c.refer_each.result
          ((rw (c.as_slice.ensures.value, whole) at (stated.answers clean (λ e. e) (λ e. refl)
          (filter given has.rows) has.others (rise_filter given has.rows has.has.holds.rows.rise) others))
          (map-id _ ∙ answers ∙ ap (λ l. map posting_entry c.read_ahead.new.rows.items ++ l) (sym (map-id _))))
          (filled stated_pair has.others has.rows given all has.are from c.refer_each.new.rows.items)
          (breaks_given has.others has.rows given all has.are from _
          (BreaksBy posting_of) BreaksReference _
          (store_on g.S.Store c.args.conn.now mid new (inl unchanged) read.reads.survives));
      ended = stated.ended;
      rises = rw whole at stated.rises;
      reads = reads_then read.reads stated.reads;
    }

pub returns-in-Err : goal.returns-in-Err
returns-in-Err g c =
    let whole = to_z-of_z w64 c.args.from c.ranges.from in
    let read = c.in-Err.ensures in
    record {
      answers = λ clean all has.
          breaks_own has.others has.rows (is_of c.args.of) all has.are c.args.from
          (IsStoreError (state g.S.Store c.args.conn.now) (state g.S.Store c.read_ahead.new.conn))
          (BreaksBy posting_of) BreaksReference
          c.in-Err.fault (rw whole at (read.answers clean has.rows (holds_rows has.has)));
      ended = tt;
      rises = tt;
      reads = read.reads;
    }
