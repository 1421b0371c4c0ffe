-- The row that a bank's table has under the number of a branch is that branch's.
use Rattle.std.proofs.Common.{◌≡◌, ℕ, ℤ, Some, Ok, pos, sym, ◌∙◌}
use Rattle.posting_rules.specs.declared.rows.BranchRow.{BranchRow}
use Rattle.sql_meanings.proofs.Changes.{found_key}
use Rattle.store_rows.specs.believed.{Readings.read_branch, Rules.StoredRows, Rules.row_under, Stored.FindsStored}
use Rattle.store_rows.proofs.Readings.{branch_is}

same_number : (n m : ℕ) → ◌≡◌ {A = ℤ} (pos n) (pos m) → n ≡ m
same_number n m is = cc

pub its_number : (rows : StoredRows) (n : ℕ) (b : BranchRow)
    → FindsStored (row_under rows.branches n) read_branch (Ok (Some b)) → b.branch ≡ n
its_number rows n b finds = same_number b.branch n
    (sym (branch_is finds.0 b finds.2).0 ∙ found_key (pos n) rows.branches finds.0 finds.1)
