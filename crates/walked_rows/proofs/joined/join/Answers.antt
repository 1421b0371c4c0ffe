-- Rows are joined one by one. What is returned follows from the invariant; a search takes long to see it.
use Rattle.std.proofs.Common.{◌≡◌, ◌≤ℤ◌, ◌<◌, ◌+◌, ◌++◌, suc, ◌∷◌, Some, map, drop}
use Rattle.std.proofs.Common.{length, get_or, refl, sym, ap, subst}
use Rattle.std.proofs.Common.{◌∙◌, rules, arith, w64, to_z}
use Rattle.std.proofs.{Math.Seq.drop-cons, lemmas.Int.ints, lemmas.Int.to_z-of_z}
use Rattle.store_rows.proofs.Lookups.{as_integer}
use Rattle.walked_rows.specs.Pairs.{ComesBefore, pair_of, paired, row_under}
use Rattle.walked_rows.specs.{Rising.RisesFrom, Rows.entry_key, Rows.rows_after, Rows.rows_from}
use Rattle.walked_rows.proofs.{Gathering.after_key, Rises.le_itself, Rises.one_more, Rises.rest_after}
use Rattle.walked_rows.specs.Referring.{pair_beside}
use Rattle.walked_rows.proofs.Joining.{beside_is, joins_on, none_left}
use Rattle.walked_rows.proofs.joined.join.Goals as goal

pub loop-row-init : goal.loop-row-init
loop-row-init g c =
    let start = c.args.start in
    let same = to_z-of_z w64 start c.ranges.start in
    let none = c.clear.ensures in
    let entry = g.R.StoredRow.kind.entry in
    let other = g.O.StoredRow.kind.entry in
    rw same record {
      count = ap length none;
      low = le_itself start;
      ahead = c.requires.rises;
      rises = subst (λ l. RisesFrom start (map (λ j. entry_key (entry j.stored)) l) (Some start)) (sym none)
          (le_itself start);
      answers = λ base others rise own_is others_are.
          (own_is, ap (λ l. map (pair_of entry other) l ++ paired others (rows_from start base)) (sym none));
    }

pub push-requires : goal.push-requires
push-requires g c =
    let low : c.loop-row.row-index < length c.args.own.now = search rules in
    omega (arith, low, c.loop-row.invariant.count, c.requires.few)

pub loop-row-preserved : goal.loop-row-preserved
loop-row-preserved g c =
    let start = c.args.start in
    let same = to_z-of_z w64 start c.ranges.start in
    let entry = g.R.StoredRow.kind.entry in
    let r = c.row-item.result in
    let at = c.loop-row.row-index in
    let next = to_z w64 c.loop-row.next-bits in
    let n = c.key-key.result in
    let key = after_key n (entry r).key c.key-key.ensures.key c.key-key.ensures.most in
    let low : at < length c.args.own.now = search rules in
    let later : suc at ≡ at + 1 = omega arith in
    let left : drop at c.args.own.now ≡ r ∷ drop (at + 1) c.args.own.now =
    drop-cons c.args.own.now at r low ∙ ap (λ x. x ∷ drop (suc at) c.args.own.now) (sym c.row-item.is)
    ∙ ap (λ m. r ∷ drop m c.args.own.now) later in
    let keys = subst (λ l. RisesFrom next (map (λ x. entry_key (entry x)) l) c.args.rest) left
    c.loop-row.invariant.ahead in
    let from : start ≤ℤ next = rw same at c.loop-row.invariant.low in
    let above : start ≤ℤ (entry r).key = let up = keys.0 in omega (arith, ints) in
    let decided : ComesBefore c.args.after (entry r).key =
    subst (ComesBefore c.args.after)
    (as_integer n n refl c.key-key.ensures.most ∙ sym c.key-key.ensures.key) c.if-is_beyond.ensures.decided
    in
    rw (same, key) record {
      count = omega (arith, c.push.ensures.len, c.loop-row.invariant.count);
      low = omega (arith, ints, above);
      ahead = keys.1;
      rises =
          rw c.push.ensures.items
          (one_more (λ j. entry_key (entry j.stored)) start c.loop-row.rows.items _ next
          (rw same at c.loop-row.invariant.rises) keys.0);
      answers = λ base others rise own_is others_are.
          let both = (rw same at (c.loop-row.invariant.answers base others rise)) own_is others_are in
          rw c.push.ensures.items
          (joins_on (pair_of entry g.O.StoredRow.kind.entry) others base rise start c.loop-row.rows.items next
          _ (entry r) (map entry (drop (at + 1) c.args.own.now) ++ rows_after c.args.rest base) both.1
          (both.0 ∙ ap (λ l. map entry l ++ rows_after c.args.rest base) left)
          (ap (pair_beside (entry r)) (c.row_with.ensures
          ∙ sym (ap (λ k. row_under (map g.O.StoredRow.kind.entry c.args.beside.now) k) c.key-key.ensures.key)
          ∙ sym (beside_is others start (entry r).key
          (map g.O.StoredRow.kind.entry c.args.beside.now) c.args.after others_are above decided))));
    }

pub returns-then-is_beyond : goal.returns-then-is_beyond
returns-then-is_beyond g c =
    let same = to_z-of_z w64 c.args.start c.ranges.start in
    let n = c.key-key.result in
    let key = λ (x : g.row.R.Denot). entry_key (g.R.StoredRow.kind.entry x) in
    record {
      answers = λ base others rise own_is others_are.
          ((rw same at (c.loop-row.invariant.answers base others rise)) own_is others_are).1;
      rises = rw same at c.loop-row.invariant.rises;
      some = λ r more is before none.
          let none_yet : c.loop-row.row-index ≡ 0 = sym c.loop-row.invariant.count ∙ ap length none in
          let first : c.row-item.result ≡ r =
          c.row-item.is ∙ ap (λ k. get_or c.args.own.now k c.row-item.result) none_yet
          ∙ ap (λ l. get_or l 0 c.row-item.result) is in
          c.if-is_beyond.ensures.beyond
          (subst (ComesBefore c.args.after)
          (sym (as_integer n n refl c.key-key.ensures.most ∙ sym c.key-key.ensures.key ∙ ap key first))
          before);
    }

pub returns : goal.returns
returns g c =
    let start = c.args.start in
    let same = to_z-of_z w64 start c.ranges.start in
    let entry = g.R.StoredRow.kind.entry in
    let other = g.O.StoredRow.kind.entry in
    let next = to_z w64 c.loop-row.next-bits in
    let left = none_left c.loop-row.row-index c.args.own.now c.loop-row-test.false in
    record {
      answers = λ base others rise own_is others_are.
          let both = (rw same at (c.loop-row.invariant.answers base others rise)) own_is others_are in
          both.1 ∙ ap (λ l. map (pair_of entry other) c.loop-row.rows.items ++ paired others l)
          (both.0 ∙ ap (λ l. map entry l ++ rows_after c.args.rest base) left);
      rises =
          rest_after (λ j. entry_key (entry j.stored)) start c.loop-row.rows.items next c.args.rest
          (rw same at c.loop-row.invariant.rises)
          (subst (λ l. RisesFrom next (map (λ x. entry_key (entry x)) l) c.args.rest) left
          c.loop-row.invariant.ahead);
      some = λ r more is before none. omega (arith, ap length none, ap length is);
    }
