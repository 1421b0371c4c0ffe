use Rattle.std.proofs.Common.{◌≡◌, ◌≤ℤ◌, ◌++◌, List, map, drop, length, Some}
use Rattle.sql_meanings.specs.believed.Entries.{Entry, Rise}
use Rattle.walked_rows.specs.{Pairs.AreJoined, Pairs.pair_of, Rising.RisesFrom}
use Rattle.walked_rows.specs.Rows.{entry_key, rows_after, rows_from}
use Rattle.walked_rows.proofs.joined.join.Given as goal

abbrev pub invariant-loop-row : goal.invariant-loop-row
invariant-loop-row g l = record {
  count : length l.rows.items ≡ l.row-index;
  low : l.fn.start ≤ℤ l.next;
  ahead : RisesFrom l.next
      (map (λ r. entry_key (g.R.StoredRow.kind.entry r)) (drop l.row-index l.fn.own)) l.fn.rest;
  rises : RisesFrom l.fn.start (map (λ j. entry_key (g.R.StoredRow.kind.entry j.stored)) l.rows.items)
      (Some l.next);
  answers : (base others : List Entry) → Rise base
      → rows_from l.fn.start base ≡ map g.R.StoredRow.kind.entry l.fn.own ++ rows_after l.fn.rest base
      → rows_from l.fn.start others
      ≡ map g.O.StoredRow.kind.entry l.fn.beside ++ rows_after l.fn.after others
      → (rows_from l.next base
      ≡ map g.R.StoredRow.kind.entry (drop l.row-index l.fn.own) ++ rows_after l.fn.rest base)
      × AreJoined (pair_of g.R.StoredRow.kind.entry g.O.StoredRow.kind.entry) others base l.fn.start
      l.rows.items (Some l.next);
}
