-- What the row of the next branch tells.
use Rattle.std.proofs.Common.{pos, find, sym, ◌∙◌, arith}
use Rattle.sql_meanings.specs.Entries.{is_above}
use Rattle.posting_rules.specs.declared.fault.Rule.TheVariants.{Value}
use Rattle.store_rows.specs.believed.Readings.{read_branch}
use Rattle.bank_transactions.proofs.{Broken.above_broken, Broken.branch_broken, SoundRows.next_found}
use Rattle.bank_transactions.proofs.{LookUps.looked_at, LookUps.reads_broken, ReadsInTurn.find_failed}
use Rattle.bank_transactions.proofs.ReadsInTurn.{find_tells}
use Rattle.bank_transactions.proofs.Exits.{handed_on}
use Rattle.bank_transactions.proofs.next_branch.row_after.Goals as goal

pub returns-in_err-row : goal.returns-in_err-row
returns-in_err-row g c =
    let same = handed_on c.from_residual.result c.from_residual.ensures.1 in
    rw same (record {
      says = find_failed (λ rows. find (is_above (pos c.args.after)) rows.branches) read_branch
          (branch_broken _ (is_above (pos c.args.after)) _) c.in_err-row.ensures.looks_up;
      within = tt;
      stored = tt;
    })

-- a number that isn't above the one that was asked for
pub returns-then-get-from-clause-says : goal.returns-then-get-from-clause-says
returns-then-get-from-clause-says g c = reads_broken Value (looked_at c.in_ok-row.ensures.looks_up) (λ clean.
    above_broken _ c.args.after c.in-Some.row
    (λ rows has. (rw c.in-Some.is at (c.in_ok-row.ensures.looks_up.answers clean rows has).0))
    (λ above. omega (arith, c.from.ensures, c.get.ensures.value, c.if-get-from.true)))

pub returns-in_default-clause-says : goal.returns-in_default-clause-says
returns-in_default-clause-says g c =
    find_tells (λ rows. find (is_above (pos c.args.after)) rows.branches) read_branch _ c.in_ok-row.ensures.looks_up
    (λ t sound finds. sym c.in_default.is ∙ next_found t c.args.after sound _ finds)

pub returns-clause-says : goal.returns-clause-says
returns-clause-says g c =
    find_tells (λ rows. find (is_above (pos c.args.after)) rows.branches) read_branch _ c.in_ok-row.ensures.looks_up
    (λ t sound finds. sym c.in-Some.is ∙ next_found t c.args.after sound _ finds)
