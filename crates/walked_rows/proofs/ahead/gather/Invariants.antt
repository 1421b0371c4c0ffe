use Rattle.std.proofs.Common.{◌≡◌, List, ◌++◌, map, take, length, Some}
use Rattle.sql_meanings.specs.believed.{Entries.Entry, Entries.Rise, Tables.width_of}
use Rattle.store_rows.specs.believed.SeveralRows.{given}
use Rattle.walked_rows.specs.{Rising.RisesFrom, declared.ahead.TheConstants.AHEAD}
use Rattle.walked_rows.specs.Rows.{IsWide, entry_key, rows_from}
use Rattle.walked_rows.proofs.ahead.gather.Given as goal

abbrev pub invariant-loop-row : goal.invariant-loop-row
invariant-loop-row g l = record {
  count : length l.rows.items ≡ l.row-index;
  rises : RisesFrom l.fn.from (map (λ r. entry_key (g.R.StoredRow.kind.entry r)) l.rows.items) (Some l.next);
  answers : (rows : List Entry) → Rise rows → IsWide (width_of g.R.StoredRow.kind.table) rows
      → l.fn.found ≡ map given (take AHEAD (rows_from l.fn.from rows))
      → rows_from l.fn.from rows ≡ map g.R.StoredRow.kind.entry l.rows.items ++ rows_from l.next rows;
}
