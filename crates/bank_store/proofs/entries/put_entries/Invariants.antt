-- The entries of the rows so far were put, and there is room for the others.
use Rattle.std.proofs.Common.{◌≡◌, ◌≤◌, ◌+◌, ◌*◌, ◌++◌, length, map, take}
use Rattle.std.specs.{List.AllByRecursion, Prelude.vec_capacity, Prelude.vec_len}
use Rattle.posting_core.specs.believed.Batches.{joined}
use Rattle.posting_core.specs.declared.entries.TheConstants.{ENTRY_BYTES}
use Rattle.walked_rows.specs.{KeptRows.kept_item, Requests.IsAnsweredRow}
use Rattle.bank_store.specs.KeptEntries.{entry_in}
use Rattle.bank_store.proofs.entries.put_entries.Given as goal

abbrev pub invariant-loop-row : goal.invariant-loop-row
invariant-loop-row l = record {
  count : l.left + l.row-index ≡ l.fn.most;
  within : l.row-index ≤ length l.fn.rows;
  room : vec_len l.entries + l.left * ENTRY_BYTES ≤ vec_capacity l.entries;
  put : l.entries.items ≡ l.fn.entries.items ++ joined (map entry_in (map kept_item (take l.row-index l.fn.rows)));
  each : AllByRecursion IsAnsweredRow (map kept_item (take l.row-index l.fn.rows));
}
