-- One row more.
use Rattle.std.proofs.Common.{◌≡◌, ◌<◌, ◌+◌, ◌+ℤ◌, ◌≤ℤ◌, ◌++◌, pos, [], ◌∷◌, map, drop, length, inr, refl}
use Rattle.std.proofs.Common.{option_map, Some, sym, ap, subst, ◌∙◌, rules, arith, w64, to_z}
use Rattle.std.proofs.lemmas.Int.{to_z-of_z}
use Rattle.sqlite.specs.Held.{state}
use Rattle.sql_meanings.specs.StatementAnswers.{IsStoreError}
use Rattle.store_rows.specs.believed.BankTables.{reference as reference_table}
use Rattle.store_rows.specs.View.{HoldsRows}
use Rattle.walked_rows.specs.{Pairs.row_under, References.text_entry, Referring.referred_all, Rising.RisesFrom}
use Rattle.walked_rows.specs.Rows.{entry_key, rows_after, rows_from}
use Rattle.walked_rows.proofs.Gathering.{after_key, none_there, some_there}
use Rattle.walked_rows.proofs.Joining.{next_left, none_left}
use Rattle.walked_rows.proofs.{Referring.referred_after, Referring.refers_none, Referring.refers_on}
use Rattle.walked_rows.proofs.{Rises.le_itself, Rises.one_more, Rises.rest_after}
use Rattle.walked_rows.proofs.Leaving.{clean_between, fails_too, if_any, same_any, reads_any, reads_on, shows_same}
use Rattle.store_rows.specs.declared.fault.TableFault.TheVariants.{Sqlite}
use Rattle.walked_rows.proofs.{Causes.cause_on, Causes.nothing_called, Leaving.store_on}
use Rattle.walked_rows.proofs.referred.refer_each.Goals as goal

pub loop-row-preserved : goal.loop-row-preserved
loop-row-preserved g c =
    let from = c.args.from in
    let same = to_z-of_z w64 from c.ranges.from in
    let mid = c.loop-row.conn in
    let new = c.reference_under.new.conn in
    let so_far = c.loop-row.invariant in
    let r = c.row-item.result in
    let at = c.loop-row.row-index in
    let own = c.args.own.now in
    let mine = g.R.Referred.own in
    let next = to_z w64 c.loop-row.next-bits in
    let ordinal = c.ordinal-ordinal.result in
    let keyed : entry_key (g.R.Referred.entry (mine r)) ≡ pos ordinal =
    g.met.R.Referred.keyed r ∙ ap (λ n. pos n) (sym c.ordinal-ordinal.ensures.value) in
    let key = after_key ordinal (entry_key (g.R.Referred.entry (mine r))) keyed (omega (arith, c.ordinal-ordinal.ensures.most)) in
    let low : at < length own = search rules in
    let left = next_left own at r low c.row-item.is in
    let keys = subst (λ l. RisesFrom next (map (λ o. entry_key (g.R.Referred.entry (mine o))) l) c.args.rest) left
    so_far.ahead in
    let one = c.referred.result in
    let made = c.referred.ensures in
    rw (same, key) record {
      count = omega (arith, c.push.ensures.len, so_far.count);
      ahead = keys.1;
      rises =
          rw c.push.ensures.items
          (subst (λ k. RisesFrom from (map g.R.Referred.key (c.loop-row.rows.items ++ one ∷ [])) (Some (k +ℤ pos 1))) made.key
          (one_more g.R.Referred.key from c.loop-row.rows.items one next (rw same at so_far.rises)
          (subst (λ k. next ≤ℤ k) (sym made.key) keys.0)));
      reads = if_any (reads_on so_far.reads (reads_any c.in-Ok.ensures.reads _));
      answers = λ view back base others rise clean has own_is.
          let before = clean_between g.S.Store mid new c.in-Ok.ensures.reads.survives clean in
          let both = (rw same at (so_far.answers view back base others rise before has)) own_is in
          let there = subst (λ db. HoldsRows db reference_table others)
          (sym (shows_same g.S.Store c.args.conn.now mid (so_far.reads.same before))) has in
          rw c.push.ensures.items
          (refers_on g.R.Referred.entry g.R.Referred.joined g.R.Referred.item view back others base rise from
          c.loop-row.rows.items next one (mine r)
          (map mine (drop (at + 1) own) ++ map view (rows_after c.args.rest base)) both.1
          (both.0 ∙ ap (λ l. map mine l ++ map view (rows_after c.args.rest base)) left)
          (made.is
          ∙ ap (λ n. g.R.Referred.joined (mine r) (option_map (text_entry n) c.in-Ok.reference))
          (sym c.ordinal-ordinal.ensures.value)
          ∙ ap (g.R.Referred.joined (mine r))
          (c.in-Ok.ensures.answers clean others there ∙ ap (row_under others) (sym keyed))));
    }

pub returns-in-Err-Sqlite-clause-answers : goal.returns-in-Err-Sqlite-clause-answers
returns-in-Err-Sqlite-clause-answers g c clean view back base others rise has own_is =
    let old = c.args.conn.now in
    let mid = c.loop-row.conn in
    let new = c.reference_under.new.conn in
    let so_far = c.loop-row.invariant.reads in
    let last = c.in-Err-Sqlite.ensures in
    let same = so_far.same (clean_between g.S.Store mid new last.reads.survives clean) in
    let there = subst (λ db. HoldsRows db reference_table others)
    (sym (shows_same g.S.Store old mid same)) has in
    rw c.in-Err-Sqlite.e-is (store_on g.S.Store old mid new same so_far.survives c.in-Err-Sqlite.e
    (rw c.in-Err-Sqlite.field-0-is at (last.answers clean others there)))

pub returns-in-Err-Sqlite-clause-reads : goal.returns-in-Err-Sqlite-clause-reads
returns-in-Err-Sqlite-clause-reads g c =
    if_any (fails_too (reads_on c.loop-row.invariant.reads c.in-Err-Sqlite.ensures.reads))

pub returns-in-Err-Sqlite-clause-cause : goal.returns-in-Err-Sqlite-clause-cause
returns-in-Err-Sqlite-clause-cause g c clean =
    rw c.in-Err-Sqlite.e-is (cause_on g.S.Store c.args.conn.now c.loop-row.conn c.reference_under.new.conn
    c.loop-row.invariant.reads.survives (Sqlite c.in-Err-Sqlite.e)
    (rw c.in-Err-Sqlite.field-0-is at (c.in-Err-Sqlite.ensures.cause clean)))

pub returns-then-is_empty-clause-answers : goal.returns-then-is_empty-clause-answers
returns-then-is_empty-clause-answers g c clean view back base others rise has own_is =
    let same = to_z-of_z w64 c.args.from c.ranges.from in
    let mid = c.loop-row.conn in
    let new = c.reference_under.new.conn in
    let so_far = c.loop-row.invariant in
    let before = clean_between g.S.Store mid new c.in-Err-Damaged.ensures.reads.survives clean in
    let there = subst (λ db. HoldsRows db reference_table others)
    (sym (shows_same g.S.Store c.args.conn.now mid (so_far.reads.same before))) has in
    let both = (rw same at (so_far.answers view back base others rise before has)) own_is in
    let r = c.row-item.result in
    let at = c.loop-row.row-index in
    let mine = g.R.Referred.own in
    let ordinal = c.ordinal-ordinal.result in
    let keyed : entry_key (g.R.Referred.entry (mine r)) ≡ pos ordinal =
    g.met.R.Referred.keyed r ∙ ap (λ n. pos n) (sym c.ordinal-ordinal.ensures.value) in
    let low : at < length c.args.own.now = search rules in
    let left = next_left c.args.own.now at r low c.row-item.is in
    refers_none g.R.Referred.entry g.R.Referred.joined g.R.Referred.item view back others base rise c.args.from
    (IsStoreError (state g.S.Store c.args.conn.now) (state g.S.Store new)) g.R.Referred.Breaks c.loop-row.rows.items
    (to_z w64 c.loop-row.next-bits) (mine r)
    (map mine (drop (at + 1) c.args.own.now) ++ map view (rows_after c.args.rest base)) _ both.1
    (none_there c.loop-row.rows.items (sym c.if-is_empty.ensures))
    (both.0 ∙ ap (λ l. map mine l ++ map view (rows_after c.args.rest base)) left)
    (g.met.R.Referred.breaks _ (mine r) (row_under others (entry_key (g.R.Referred.entry (mine r))))
    (ordinal, keyed, c.ordinal-ordinal.ensures.least, c.ordinal-ordinal.ensures.most)
    (rw (keyed, c.in-Err-Damaged.rule-is) (rw c.in-Err-Damaged.field-0-is
    at (c.in-Err-Damaged.ensures.answers clean others there))))

pub returns-then-is_empty-clause-reads : goal.returns-then-is_empty-clause-reads
returns-then-is_empty-clause-reads g c =
    if_any (fails_too (reads_on c.loop-row.invariant.reads c.in-Err-Damaged.ensures.reads))

pub returns-in-Err-Damaged-clause-reads : goal.returns-in-Err-Damaged-clause-reads
returns-in-Err-Damaged-clause-reads g c =
    let last = c.in-Err-Damaged.ensures in
    if_any (reads_on c.loop-row.invariant.reads
    (same_any last.reads (λ clean. rw c.in-Err-Damaged.field-0-is at (last.damage clean)) _))

pub returns-clause-reads : goal.returns-clause-reads
returns-clause-reads g c =
    let so_far = c.loop-row.invariant.reads in
    record { same = so_far.same; err = λ clean. tt; mode = so_far.mode; survives = so_far.survives }

pub returns-clause-answers : goal.returns-clause-answers
returns-clause-answers g c clean view back base others rise has own_is =
    let same = to_z-of_z w64 c.args.from c.ranges.from in
    let left = none_left c.loop-row.row-index c.args.own.now c.loop-row-test.false in
    let both = (rw same at (c.loop-row.invariant.answers view back base others rise clean has)) own_is in
    let rest = rows_after c.args.rest base in
    both.1 ∙ ap (λ l. map g.R.Referred.item c.loop-row.rows.items ++ l)
    (referred_after g.R.Referred.entry g.R.Referred.joined g.R.Referred.item view back others
    (rows_from (to_z w64 c.loop-row.next-bits) base) rest
    (both.0 ∙ ap (λ l. map g.R.Referred.own l ++ map view rest) left))

pub returns-clause-rises : goal.returns-clause-rises
returns-clause-rises g c =
    let same = to_z-of_z w64 c.args.from c.ranges.from in
    let left = none_left c.loop-row.row-index c.args.own.now c.loop-row-test.false in
    let next = to_z w64 c.loop-row.next-bits in
    rest_after g.R.Referred.key c.args.from c.loop-row.rows.items next c.args.rest
    (rw same at c.loop-row.invariant.rises)
    (subst (λ l. RisesFrom next (map (λ o. entry_key (g.R.Referred.entry (g.R.Referred.own o))) l) c.args.rest) left
    c.loop-row.invariant.ahead)

pub loop-row-init : goal.loop-row-init
loop-row-init g c =
    let same = to_z-of_z w64 c.args.from c.ranges.from in
    let none = c.clear.ensures in
    let from = c.args.from in
    rw same record {
      count = ap length none;
      ahead = c.requires.rises;
      rises = subst (λ l. RisesFrom from (map g.R.Referred.key l) (Some from)) (sym none) (le_itself from);
      reads = record {
        same = λ clean. inr refl;
        err = λ clean. tt;
        mode = λ outside. outside;
        survives = nothing_called (state g.S.Store c.args.conn.now);
      };
      answers = λ view back base others rise clean has own_is. (
        own_is,
        ap (λ l. map g.R.Referred.item l
            ++ referred_all g.R.Referred.joined view others (rows_from from base)) (sym none),
      );
    }

pub push-requires : goal.push-requires
push-requires g c =
    let low : c.loop-row.row-index < length c.args.own.now = search rules in
    omega (arith, low, c.loop-row.invariant.count, c.requires.few)

pub returns-in-Err-Sqlite-clause-ended : goal.returns-in-Err-Sqlite-clause-ended
returns-in-Err-Sqlite-clause-ended g c = tt

pub returns-in-Err-Sqlite-clause-rises : goal.returns-in-Err-Sqlite-clause-rises
returns-in-Err-Sqlite-clause-rises g c = tt

pub returns-then-is_empty-clause-ended : goal.returns-then-is_empty-clause-ended
returns-then-is_empty-clause-ended g c = tt

pub returns-then-is_empty-clause-rises : goal.returns-then-is_empty-clause-rises
returns-then-is_empty-clause-rises g c = tt

pub returns-then-is_empty-clause-cause : goal.returns-then-is_empty-clause-cause
returns-then-is_empty-clause-cause g c clean = tt

pub returns-in-Err-Damaged-clause-answers : goal.returns-in-Err-Damaged-clause-answers
returns-in-Err-Damaged-clause-answers g c clean view back base others rise has own_is =
    let same = to_z-of_z w64 c.args.from c.ranges.from in
    let so_far = c.loop-row.invariant in
    let before = clean_between g.S.Store c.loop-row.conn c.reference_under.new.conn
    c.in-Err-Damaged.ensures.reads.survives clean in
    ((rw same at (so_far.answers view back base others rise before has)) own_is).1

pub returns-in-Err-Damaged-clause-ended : goal.returns-in-Err-Damaged-clause-ended
returns-in-Err-Damaged-clause-ended g c none =
    absurd (some_there c.loop-row.rows.items (sym c.if-is_empty.ensures) none)

pub returns-in-Err-Damaged-clause-rises : goal.returns-in-Err-Damaged-clause-rises
returns-in-Err-Damaged-clause-rises g c =
    let same = to_z-of_z w64 c.args.from c.ranges.from in
    rw same at c.loop-row.invariant.rises

pub returns-in-Err-Damaged-clause-cause : goal.returns-in-Err-Damaged-clause-cause
returns-in-Err-Damaged-clause-cause g c clean = tt

pub returns-clause-ended : goal.returns-clause-ended
returns-clause-ended g c none =
    let left = none_left c.loop-row.row-index c.args.own.now c.loop-row-test.false in
    c.requires.ended (sym (ap (λ n. drop n c.args.own.now) (sym c.loop-row.invariant.count ∙ ap length none)) ∙ left)

pub returns-clause-cause : goal.returns-clause-cause
returns-clause-cause g c clean = tt
