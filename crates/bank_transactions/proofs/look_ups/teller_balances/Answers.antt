-- What the balance of a teller tells.
use Rattle.std.proofs.Common.{◌≡◌, ◌≤◌, ℕ, ℤ, Option, Some, None, Ok, rules, refl, sym, subst}
use Rattle.std.specs.Prelude.{is_some, option_map}
use Rattle.sqlite.specs.Effect.{Database}
use Rattle.posting_rules.specs.believed.{LookUps.balance_of_branch, LookUps.both_of, Numbering.branch_of_teller}
use Rattle.posting_rules.specs.declared.rows.BranchRow.{BranchRow}
use Rattle.store_rows.specs.believed.{Readings.read_balance, Stored.FindsStored}
use Rattle.store_rows.specs.believed.Rules.{HoldsBank, OfRows, StoredRows, row_under}
use Rattle.bank_transactions.specs.{Filling.HoldsBranch, Stored.HoldsTellerRow, believed.Stored.IsStoredTeller}
use Rattle.message_records.specs.declared.limits.TheConstants.{MAX_TELLER}
use Rattle.store_rows.specs.declared.holders.Member.TheVariants as member
use Rattle.bank_transactions.proofs.{HeldRows.both_held, HeldRows.teller_held, LookUps.looked_at, LookUps.reads_but}
use Rattle.bank_transactions.proofs.ReadsInTurn.{balance_failed, one_alone, teller_alone, teller_told}
use Rattle.bank_transactions.proofs.look_ups.teller_balances.Goals.{in_default-via-in-Some+in_default}
use Rattle.bank_transactions.proofs.look_ups.teller_balances.Goals.{in_default-via-in-None+in_default}
use Rattle.bank_transactions.proofs.Exits.{clean_at, handed_on}
use Rattle.bank_transactions.proofs.look_ups.teller_balances.Goals as goal

-- what was found of a teller, and then of the branch of its number, in a database that stayed as it was
module _ (old mid : Database) (n number : ℕ) (is : number ≡ branch_of_teller n) (same : mid ≡ old) where
  abbrev HasTeller : Option ℤ → Type 0
  HasTeller x = OfRows (λ rows. FindsStored (row_under rows.tellers n) read_balance (Ok x)) old

  abbrev HasBranch : Option BranchRow → Type 0
  HasBranch x = OfRows (λ rows. HoldsBranch rows number x) mid

  stored : (x : Option ℤ) (row : Option BranchRow) → HasTeller x → HasBranch row → is_some x ≡ is_some row
      → IsStoredTeller old n (both_of x (option_map balance_of_branch row))
  stored x row teller branch alike = record {
    found = λ rows has. both_held rows n x row (held rows has) (there rows has);
    fits = λ rows has. (held rows has).fits;
  }
    where
      there : (rows : StoredRows) → HoldsBank old rows → HoldsBranch rows (branch_of_teller n) row
      there rows has = subst (λ (k : ℕ). HoldsBranch rows k row) is
          (branch rows (subst (λ (db : Database). HoldsBank db rows) (sym same) has))

      held : (rows : StoredRows) → HoldsBank old rows → HoldsTellerRow rows n x
      held rows has = teller_held rows n x row (teller rows has) (there rows has) alike

pub returns-in_err-balance : goal.returns-in_err-balance
returns-in_err-balance g c =
    let same = handed_on c.from_residual.result c.from_residual.ensures.1 in
    rw same (record {
      says = balance_failed (member.Teller c.args.teller) c.in_err-balance.ensures.looks_up;
      stored = tt;
    })

pub returns-in-Some-Some-clause-says : goal.returns-in-Some-Some-clause-says
returns-in-Some-Some-clause-says g c =
    rw (c.in-Some-Some.is-0, c.in-Some-Some.is-1) at
    (teller_told c.args.teller c.branch_of_teller.result c.in_ok-balance.balance c.branch_of_teller.ensures c.in_ok-balance.ensures.looks_up
    c.in_ok-branch.ensures.says)

pub returns-in-None-None-clause-says : goal.returns-in-None-None-clause-says
returns-in-None-None-clause-says g c =
    rw c.in-None-None.is-0 at
    (teller_told c.args.teller c.branch_of_teller.result c.in_ok-balance.balance c.branch_of_teller.ensures c.in_ok-balance.ensures.looks_up
    c.in_ok-branch.ensures.says)

pub returns-in_default : goal.returns-in_default
returns-in_default g c =
    let above : 1 ≤ c.args.teller = search rules in
    let most : c.args.teller ≤ MAX_TELLER = search rules in
    record {
      says = teller_alone c.args.teller c.branch_of_teller.result c.in_ok-balance.balance c.branch_of_teller.ensures
          c.in_ok-balance.ensures.looks_up
          c.in_ok-branch.ensures.says above most c.in_ok-branch.ensures.stored (λ alike.
          elim c.in_default.branch [
            | in_default-via-in-Some+in_default w ↦ one_alone _ _ _ w.in_default.is-0 w.in_default.is-1 alike
            | in_default-via-in-None+in_default w ↦ one_alone _ _ _ w.in_default.is-1 w.in_default.is-0 (sym alike)
          ]);
      stored = tt;
    }

pub returns-in_err-branch : goal.returns-in_err-branch
returns-in_err-branch g c =
    let same = handed_on c.from_residual-in_err-branch.result c.from_residual-in_err-branch.ensures.1 in
    rw same (record {
      says = reads_but (looked_at c.in_ok-balance.ensures.looks_up) c.in_err-branch.ensures.says;
      stored = tt;
    })

-- ---- of the stored rows

pub returns-in-Some-Some-clause-stored : goal.returns-in-Some-Some-clause-stored
returns-in-Some-Some-clause-stored g c clean =
    let mid = clean_at c.in_ok-branch.ensures.says.says.survives clean in
    let teller = rw c.in-Some-Some.is-0 at (c.in_ok-balance.ensures.looks_up.answers mid) in
    let branch = rw c.in-Some-Some.is-1 at (c.in_ok-branch.ensures.stored clean) in
    stored _ _ c.args.teller c.branch_of_teller.result c.branch_of_teller.ensures
    (c.in_ok-balance.ensures.looks_up.leaves mid).0.now_is (Some c.in-Some-Some.balance) (Some c.in-Some-Some.branch)
    (λ rows has. (teller rows has).0) branch refl

pub returns-in-None-None-clause-stored : goal.returns-in-None-None-clause-stored
returns-in-None-None-clause-stored g c clean =
    let mid = clean_at c.in_ok-branch.ensures.says.says.survives clean in
    let teller = rw c.in-None-None.is-0 at (c.in_ok-balance.ensures.looks_up.answers mid) in
    let branch = rw c.in-None-None.is-1 at (c.in_ok-branch.ensures.stored clean) in
    stored _ _ c.args.teller c.branch_of_teller.result c.branch_of_teller.ensures
    (c.in_ok-balance.ensures.looks_up.leaves mid).0.now_is None None (λ rows has. (teller rows has).0) branch refl
