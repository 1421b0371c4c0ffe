-- The entry of one row more, or the row is that of no request.
use Rattle.std.proofs.Common.{◌≡◌, ◌<◌, ◌≤◌, ◌∙◌, map, length, take, refl, sym, ap, rules, arith}
use Rattle.std.proofs.lemmas.List.{length-map, take-map, take_all}
use Rattle.walked_rows.specs.{KeptRows.kept_item}
use Rattle.bank_store.proofs.PiecesRead.{broken_one, each_one, put_one}
use Rattle.bank_store.proofs.entries.put_entries.Goals as goal

pub loop-row-preserved : goal.loop-row-preserved
loop-row-preserved c =
    let it = c.loop-row.invariant in
    let rows = c.args.rows.now in
    let i = c.loop-row.row-index in
    let row = c.row-item.result in
    let low : i < length rows = search rules in
    record {
      count = omega (arith, it.count, c.if-left-eq0.false);
      within = omega (arith, low);
      room = omega (arith, it.room, c.put_entry.ensures.len, c.put_entry.ensures.capacity, c.if-left-eq0.false);
      put = put_one rows i row low c.row-item.is c.args.entries.now.items c.loop-row.entries.items
          c.put_entry.new.entries.items _ it.put c.put_entry.ensures.items c.in-Some.ensures.some;
      each = each_one rows i row low c.row-item.is it.each c.in-Some.ensures.answered;
    }

-- so many were put
pub returns-then-left-eq0 : goal.returns-then-left-eq0
returns-then-left-eq0 c =
    let it = c.loop-row.invariant in
    let rows = c.args.rows.now in
    let i = c.loop-row.row-index in
    let low : i < length rows = search rules in
    let all : c.args.most ≡ i = omega (arith, it.count, c.if-left-eq0.true) in
    let taken : take c.args.most (map kept_item rows) ≡ map kept_item (take i rows) =
    take-map kept_item c.args.most rows ∙ ap (λ n. map kept_item (take n rows)) all in
    record {
      put = rw taken it.put;
      each = rw taken it.each;
      left = omega (arith, all, low);
      room = omega (arith, it.room, c.if-left-eq0.true);
      damage = tt;
    }

-- all of them were
pub returns : goal.returns
returns c =
    let it = c.loop-row.invariant in
    let rows = c.args.rows.now in
    let i = c.loop-row.row-index in
    let end : length rows ≤ i = c.loop-row-test.false in
    let taken : take c.args.most (map kept_item rows) ≡ map kept_item (take i rows) =
    take_all c.args.most (map kept_item rows) (omega (arith, end, it.count, length-map rows kept_item))
    ∙ ap (map kept_item) (sym (take_all i rows end)) in
    record {
      put = rw taken it.put;
      each = rw taken it.each;
      left = omega (arith, end, it.count, it.within);
      room = it.room;
      damage = tt;
    }

pub returns-in_default-clause-damage : goal.returns-in_default-clause-damage
returns-in_default-clause-damage c =
    let rows = c.args.rows.now in
    let i = c.loop-row.row-index in
    let row = c.row-item.result in
    let low : i < length rows = search rules in (
      refl,
      broken_one rows i row low c.row-item.is (
        (row.request.ordinal, refl, c.range_law.ensures.least, c.range_law.ensures.most),
        c.in_default.ensures.none,
      ),
    )
