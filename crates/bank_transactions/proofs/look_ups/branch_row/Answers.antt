-- The row that was found is the branch's, or it is of no bank's table.
use Rattle.std.proofs.Common.{◌≡◌, ℕ, Option, Some, None, Bool, false, true, Ok, pos, sym, ◌∙◌}
use Rattle.std.specs.Prelude.{IfSome}
use Rattle.posting_rules.specs.declared.{fault.Rule.TheVariants.Value, rows.BranchRow.BranchRow}
use Rattle.sql_meanings.specs.believed.Entries.{has_key}
use Rattle.store_rows.specs.believed.{Readings.read_branch, Rules.StoredRows, Rules.row_under}
use Rattle.store_rows.specs.believed.Stored.{FindsStored}
use Rattle.bank_transactions.proofs.{Broken.branch_broken, LookUps.reads_broken, OwnRows.its_number}
use Rattle.bank_transactions.proofs.ReadsInTurn.{recall_failed, recall_tells}
use Rattle.bank_transactions.proofs.SoundRows.{branch_found}
use Rattle.bank_transactions.proofs.Exits.{handed_on}
use Rattle.bank_transactions.proofs.look_ups.branch_row.Goals as goal

-- a bank's table has no other row there
its_row : (rows : StoredRows) (n : ℕ) (row : Option BranchRow)
    → FindsStored (row_under rows.branches n) read_branch (Ok row) → IfSome row (λ r. r.branch ≡ n)
its_row rows n None finds = tt
its_row rows n (Some b) finds = its_number rows n b finds

pub returns-in_err-row-clause-says : goal.returns-in_err-row-clause-says
returns-in_err-row-clause-says g c =
    let same = handed_on c.from_residual.result c.from_residual.ensures.1 in
    rw same (recall_failed (λ rows. row_under rows.branches c.args.branch) read_branch
    (branch_broken _ (has_key (pos c.args.branch)) _) c.in_err-row.ensures.recalls)

-- so damage is told where no bank's rows are held
no_bank : (n : ℕ) (row : Option BranchRow) (is : Bool) → (IfSome row (λ r. r.branch ≡ n) → is ≡ true) → is ≡ false
    → (rows : StoredRows) → FindsStored (row_under rows.branches n) read_branch (Ok row) → ⊥
no_bank n row is answers other rows finds = let it = sym other ∙ answers (its_row rows n row finds) in cc

pub returns-then-not-is_its-clause-says : goal.returns-then-not-is_its-clause-says
returns-then-not-is_its-clause-says g c =
    reads_broken Value
    (recall_tells (λ rows. row_under rows.branches c.args.branch) read_branch _ c.in_ok-row.ensures.recalls
    (λ t sound finds. branch_found t c.args.branch sound _ finds))
    (λ clean rows has keeps. no_bank c.args.branch c.in_ok-row.row c.is_its.result c.is_its.ensures.1 c.if-not-is_its.true
    rows (c.in_ok-row.ensures.recalls.answers clean rows has))

pub returns-then-not-is_its-clause-stored : goal.returns-then-not-is_its-clause-stored
returns-then-not-is_its-clause-stored g c clean rows has =
    absurd (no_bank c.args.branch c.in_ok-row.row c.is_its.result c.is_its.ensures.1 c.if-not-is_its.true
    rows (c.in_ok-row.ensures.recalls.answers clean rows has))

pub returns-then-not-is_its-clause-own : goal.returns-then-not-is_its-clause-own
returns-then-not-is_its-clause-own g c = tt

pub returns-then-not-is_its-clause-remembers : goal.returns-then-not-is_its-clause-remembers
returns-then-not-is_its-clause-remembers g c = tt

pub returns-clause-says : goal.returns-clause-says
returns-clause-says g c =
    recall_tells (λ rows. row_under rows.branches c.args.branch) read_branch _ c.in_ok-row.ensures.recalls
    (λ t sound finds. branch_found t c.args.branch sound _ finds)
