-- Each row so far has its reference, and the file is as it was.
use Rattle.std.proofs.Common.{◌≡◌, ◌++◌, List, map, drop, length, Some, Ok}
use Rattle.sqlite.specs.{Held.state, State.HasCleanDisk}
use Rattle.sql_meanings.specs.believed.Entries.{Entry, Rise}
use Rattle.store_rows.specs.believed.BankTables.{reference as reference_table}
use Rattle.store_rows.specs.declared.fault.TableFault.{TableFault}
use Rattle.walked_rows.specs.{Leaving.ReadsIfAny, Referring.AreReferred, Rising.RisesFrom}
use Rattle.store_rows.specs.View.{HoldsRows}
use Rattle.walked_rows.specs.Rows.{entry_key, rows_after, rows_from}
use Rattle.walked_rows.proofs.referred.refer_each.Given as goal

abbrev pub invariant-loop-row : goal.invariant-loop-row
invariant-loop-row g l =
    let old = state g.S.Store l.fn.conn in
    let now = state g.S.Store l.conn in
    record {
      count : length l.rows.items ≡ l.row-index;
      ahead : RisesFrom l.next
          (map (λ o. entry_key (g.R.Referred.entry (g.R.Referred.own o))) (drop l.row-index l.fn.own)) l.fn.rest;
      rises : RisesFrom l.fn.from (map g.R.Referred.key l.rows.items) (Some l.next);
      reads : ReadsIfAny {E = TableFault} g.S.Store l.fn.conn l.conn (Ok l.next);
      answers : (view : Entry → g.R.Referred.Own) → ((e : Entry) → g.R.Referred.entry (view e) ≡ e)
          → (base others : List Entry) → Rise base → HasCleanDisk now
          → HoldsRows old.now reference_table others
          → map view (rows_from l.fn.from base)
          ≡ map g.R.Referred.own l.fn.own ++ map view (rows_after l.fn.rest base)
          → (map view (rows_from l.next base)
          ≡ map g.R.Referred.own (drop l.row-index l.fn.own) ++ map view (rows_after l.fn.rest base))
          × AreReferred g.R.Referred.joined view g.R.Referred.item others base l.fn.from l.rows.items (Some l.next);
    }
