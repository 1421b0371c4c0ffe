-- What the runs before the next one have is joined.
use Rattle.std.proofs.Common.{◌≡◌, ◌≤◌, ◌<◌, ◌++◌, ℕ, length, take, get_or}
use Rattle.std.specs.Prelude.{IsPermutation}
use Rattle.std.specs.List.Sorted.{IsNonDecreasingBy}
use Rattle.posting_rules.specs.declared.rows.ClosingRow.{ClosingRow}
use Rattle.posting_rules.specs.believed.Closings.{is_closed_in}
use Rattle.posting_rules.specs.Numbers.{BeginsBy, ComesAfter, as_list}
use Rattle.posting_rules.proofs.number_runs.NumberRuns.of.Given as goal

abbrev pub invariant-loop-run : goal.invariant-loop-run
invariant-loop-run l = record {
  done : ComesAfter l.joining.done.items l.joining.longer;
  order : (k : ℕ) (d : ClosingRow) → l.run-index ≤ k → k < length l.run-items
      → BeginsBy (get_or l.run-items k d).first l.joining.longer;
  numbers : (x : ℕ) → is_closed_in (l.joining.done.items ++ as_list l.joining.longer) x
      ≡ is_closed_in (take l.run-index l.run-items) x;
  rising : IsNonDecreasingBy (λ r. r.first) l.run-items;
  same : IsPermutation l.fn.runs.items l.run-items;
}
