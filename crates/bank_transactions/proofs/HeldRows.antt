-- A balance that was looked up by the row of its branch is what the rows hold, and fits them.
use Rattle.std.proofs.Common.{◌≡◌, ℕ, ℤ, false, Option, Some, None, Result, Ok, Err, refl, sym, ap, subst, ◌∙◌}
use Rattle.std.specs.Prelude.{IfOk, is_some, option_map}
use Rattle.sqlite.specs.Effect.{Database}
use Rattle.posting_rules.specs.{believed.Commands.is_within, believed.LookUps.terms_of_branch}
use Rattle.posting_rules.specs.believed.Numbering.{branch_of_account, branch_of_teller, place_of_account}
use Rattle.posting_rules.specs.{believed.LookUps.balance_of_branch, believed.LookUps.both_of}
use Rattle.posting_rules.specs.declared.rows.BranchRow.{BranchRow}
use Rattle.store_rows.specs.believed.Readings.{read_balance, read_branch}
use Rattle.store_rows.specs.believed.Rules.{HoldsBank, OfRows, StoredRows, branch_under, row_under}
use Rattle.store_rows.specs.{believed.Stored.FindsStored, declared.fault.TableFault.TableFault}
use Rattle.bank_transactions.specs.{Filling.HoldsBranch, Floors.falls_below, Stored.HoldsTellerRow}
use Rattle.bank_transactions.specs.believed.Stored.{HoldsAccount, HoldsFloor, HoldsTeller}
use Rattle.bank_transactions.proofs.FittingAccounts.{fits, is_above}
use Rattle.bank_transactions.proofs.ReadsInTurn.{some_stored}

module _ (rows : StoredRows) where
  -- a teller has a balance just where its branch was found
  pub teller_held : (n : ℕ) (balance : Option ℤ) (branch : Option BranchRow)
      → FindsStored (row_under rows.tellers n) read_balance (Ok balance)
      → HoldsBranch rows (branch_of_teller n) branch → is_some balance ≡ is_some branch
      → HoldsTellerRow rows n balance
  teller_held n balance branch finds has same =
      let own = some_stored (row_under rows.tellers n) read_balance balance finds in
      let its = some_stored (branch_under rows (branch_of_teller n)) read_branch branch has in
      record {
        found = finds;
        fits = (λ there. its ∙ sym same ∙ sym own ∙ there, λ there. own ∙ same ∙ sym its ∙ there);
      }

  -- both balances, or none
  pub both_held : (n : ℕ) (x : Option ℤ) (y : Option BranchRow) → HoldsTellerRow rows n x
      → HoldsBranch rows (branch_of_teller n) y → HoldsTeller rows n (both_of x (option_map balance_of_branch y))
  both_held n None y teller branch = teller.found
  both_held n (Some z) None teller branch =
      absurd (let there = sym (ap is_some branch) ∙ teller.fits.0 (ap is_some teller.found.1) in cc)
  both_held n (Some z) (Some b) teller branch =
      (teller.found, (branch.0, b, branch.1, branch.2, refl))

  -- an account has one just where its place is within the count, and isn't below the floor
  pub account_held : (n : ℕ) (balance floor : Option ℤ) (branch : Option BranchRow)
      → FindsStored (row_under rows.accounts n) read_balance (Ok balance)
      → HoldsBranch rows (branch_of_account n) branch × HoldsFloor rows (branch_of_account n) floor
      → is_some balance ≡ is_within (place_of_account n) (option_map (terms_of_branch None) branch)
      → falls_below balance floor ≡ false → HoldsAccount rows n balance
  account_held n balance floor branch finds has same not = record {
    found = finds;
    fits = fits rows n balance branch finds has.0 same;
    above = is_above rows n balance floor finds has.1 not;
  }

-- what was found after a look-up that changed nothing is so of the rows that were there before it
pub held_before : {X : Type 0} (Clean : Type 0) (Q : StoredRows → X → Type 0) (K : StoredRows → Type 0)
    (old mid : Database) (r : Result X TableFault) → (Clean → mid ≡ old)
    → IfOk r (λ x. Clean → OfRows (λ rows. Q rows x) mid)
    → IfOk r (λ x. Clean → OfRows (λ rows. K rows → Q rows x) old)
held_before Clean Q K old mid (Ok x) same held =
    λ clean rows has known. held clean rows (subst (λ (db : Database). HoldsBank db rows) (sym (same clean)) has)
held_before Clean Q K old mid (Err e) same held = tt
