-- What is gathered, row by row. What is returned follows from the invariant; a search takes long to see it.
use Rattle.std.proofs.Common.{◌<◌, ◌≤◌, ◌+◌, ◌++◌, None, Some, map, length, get_or, sym, ap, subst}
use Rattle.std.proofs.Common.{◌∙◌, arith, w64, to_z, lit<, refl}
use Rattle.std.proofs.lemmas.Int.{to_z-of_z}
use Rattle.walked_rows.specs.{Rising.RisesFrom, Rows.entry_key, Rows.rows_from, declared.ahead.TheConstants.AHEAD}
use Rattle.walked_rows.proofs.Gathering.{after_key, full_there, gathers_on, gathers_none, no_more, none_there}
use Rattle.walked_rows.proofs.{Causes.next_rows, Gathering.room_there, Gathering.some_there}
use Rattle.walked_rows.proofs.Rises.{le_from, le_itself, one_more, rest_after}
use Rattle.walked_rows.proofs.ahead.gather.Goals as goal

pub loop-row-init : goal.loop-row-init
loop-row-init g c =
    let from = c.args.from in
    let same = to_z-of_z w64 from c.ranges.from in
    let entry = g.R.StoredRow.kind.entry in
    let none = c.clear.ensures in
    rw same record {
      count = ap length none;
      rises = subst (λ l. RisesFrom from (map (λ r. entry_key (entry r)) l) (Some from)) (sym none) (le_itself from);
      answers = λ rows rise wide is. ap (λ l. map entry l ++ rows_from from rows) (sym none);
    }

pub push-requires : goal.push-requires
push-requires g c =
    omega (
      arith,
      room_there (length c.loop-row.rows.items) AHEAD c.if-is_full.ensures.fits
          (sym c.if-is_full.ensures.value),
    )

pub loop-row-preserved : goal.loop-row-preserved
loop-row-preserved g c =
    let from = c.args.from in
    let same = to_z-of_z w64 from c.ranges.from in
    let entry = g.R.StoredRow.kind.entry in
    let found = c.args.found.now in
    let items = c.loop-row.rows.items in
    let row = c.row-item.result in
    let next = to_z w64 c.loop-row.next-bits in
    let count = c.loop-row.invariant.count in
    let low = subst (λ n. n < length found) (sym count) c.loop-row-test.true in
    let key = after_key c.key.result (entry c.in-Ok.read).key c.key.ensures.key c.key.ensures.most in
    let at = c.row-item.is ∙ ap (λ n. get_or found n row) (sym count) in
    rw same record {
      count = c.push.ensures.len ∙ ap (λ n. n + 1) count;
      rises =
          rw (c.push.ensures.items, key)
          (one_more (λ r. entry_key (entry r)) from items c.in-Ok.read next
          (rw same at c.loop-row.invariant.rises) (le_from _ _ c.in-Ok.ensures.1));
      answers = λ rows rise wide is.
          rw (c.push.ensures.items, key)
          (gathers_on g.R.StoredRow.kind AHEAD found from rows rise wide is items next row low at
          ((rw same at (c.loop-row.invariant.answers rows rise wide)) is) c.in-Ok.read c.in-Ok.ensures);
    }

pub returns-then-is_full : goal.returns-then-is_full
returns-then-is_full g c =
    let same = to_z-of_z w64 c.args.from c.ranges.from in
    record {
      answers = λ rows rise wide is. (rw same at (c.loop-row.invariant.answers rows rise wide)) is;
      ended = λ none. absurd (full_there AHEAD c.loop-row.rows.items (lit< tt) (sym c.if-is_full.ensures.value)
          none);
      rises = rw same at c.loop-row.invariant.rises;
      cause = tt;
    }

pub returns-then-is_empty : goal.returns-then-is_empty
returns-then-is_empty g c =
    let from = c.args.from in
    let same = to_z-of_z w64 from c.ranges.from in
    let found = c.args.found.now in
    let items = c.loop-row.rows.items in
    let row = c.row-item.result in
    let count = c.loop-row.invariant.count in
    let low = subst (λ n. n < length found) (sym count) c.loop-row-test.true in
    let at = c.row-item.is ∙ ap (λ n. get_or found n row) (sym count) in
    let none = none_there items (sym c.if-is_empty.ensures) in
    record {
      answers = λ rows rise wide is.
          gathers_none g.R.StoredRow.kind AHEAD found from rows rise wide is items
          (to_z w64 c.loop-row.next-bits) row low at
          ((rw same at (c.loop-row.invariant.answers rows rise wide)) is) c.in-Err.fault none c.in-Err.ensures;
      ended = tt;
      rises = tt;
      cause = next_rows g.R.StoredRow.kind (to_z w64 c.loop-row.next-bits) row c.in-Err.fault c.in-Err.ensures;
    }

pub returns-in-Err : goal.returns-in-Err
returns-in-Err g c =
    let same = to_z-of_z w64 c.args.from c.ranges.from in
    record {
      answers = λ rows rise wide is. (rw same at (c.loop-row.invariant.answers rows rise wide)) is;
      ended = λ none. absurd (some_there c.loop-row.rows.items (sym c.if-is_empty.ensures) none);
      rises = rw same at c.loop-row.invariant.rises;
      cause = tt;
    }

pub returns-then-is_empty-2 : goal.returns-then-is_empty-2
returns-then-is_empty-2 g c =
    let from = c.args.from in
    let same = to_z-of_z w64 from c.ranges.from in
    let items = c.loop-row.rows.items in
    let none = none_there items (sym c.if-is_empty-2.ensures) in
    let low : length c.args.found.now ≤ 0 =
    omega (arith, c.loop-row.invariant.count, c.loop-row-test.false, ap length none) in
    record {
      answers = λ rows rise wide is. rw none (no_more (rows_from from rows) c.args.found.now low is);
      ended = λ nothing. refl;
      rises =
          rest_after (λ r. entry_key (g.R.StoredRow.kind.entry r)) from items (to_z w64 c.loop-row.next-bits)
          None
          (rw same at c.loop-row.invariant.rises) tt;
      cause = tt;
    }

pub returns-else-is_empty-2 : goal.returns-else-is_empty-2
returns-else-is_empty-2 g c =
    let same = to_z-of_z w64 c.args.from c.ranges.from in
    record {
      answers = λ rows rise wide is. (rw same at (c.loop-row.invariant.answers rows rise wide)) is;
      ended = λ none. absurd (some_there c.loop-row.rows.items (sym c.if-is_empty-2.ensures) none);
      rises = rw same at c.loop-row.invariant.rises;
      cause = tt;
    }
