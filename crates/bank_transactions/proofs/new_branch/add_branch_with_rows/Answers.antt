-- A branch, then its tellers, then its accounts.
use Rattle.std.proofs.Common.{◌≡◌, ◌+◌, ◌<◌, ℕ, ℤ, None, Ok, Result, [], ◌∷◌, false, refl, ap, subst, inl}
use Rattle.std.proofs.Common.{inr}
use Rattle.std.specs.Prelude.{is_some, pos}
use Rattle.sqlite.specs.declared.transaction.Transaction.{Transaction}
use Rattle.sqlite_trees.specs.declared.store.Store.{Ghosts}
use Rattle.posting_rules.specs.declared.rows.BranchRow.{BranchRow}
use Rattle.posting_rules.specs.{believed.Changes.with_branch, believed.Commands.opened_with}
use Rattle.posting_rules.specs.believed.AnyTables.{HasRoomToOpen}
use Rattle.posting_rules.specs.believed.Numbering.{first_teller, first_account}
use Rattle.posting_rules.specs.believed.Tables.{Tables, row_at, branch_key, branch_row_of}
use Rattle.store_rows.specs.{Calls.AddsRow, believed.Inserts.branch_insert, declared.fault.TableFault.TableFault}
use Rattle.store_rows.specs.believed.{Failures.Additions, BankTables.branch, SeveralRows.given, View.branch_entry}
use Rattle.bank_transactions.specs.believed.Additions.{AddsBranch, AddsRange}
use Rattle.bank_transactions.specs.{Doing.Leaves, NewRows.is_taken, NewRows.with_new_rows, Running.Writes}
use Rattle.bank_transactions.specs.believed.Ran.{NewBranch}
use Rattle.bank_transactions.specs.declared.new_branch.NewRows.TheVariants.{Accounts, Tellers}
use Rattle.bank_transactions.proofs.Leading.{alone, lead_one, puts_each}
use Rattle.bank_transactions.proofs.OpeningRows.{opened_is, next_teller, next_account}
use Rattle.bank_transactions.proofs.Running.{writes_add, writes_adds, writes_err, writes_for, writes_then}
use Rattle.bank_transactions.proofs.Left.{leaves_add, leaves_err, leaves_for, leaves_then}
use Rattle.bank_transactions.proofs.Exits.{handed_on}
use Rattle.bank_transactions.proofs.new_branch.add_branch_with_rows.Goals as goal

-- a branch that isn't open
module _ (b count : ℕ) where
  abbrev IsNew : Tables → Type 0
  IsNew t = HasRoomToOpen b (opened_with count None) t × (row_at branch_key t.branches b ≡ None)

  -- its row is put in
  abbrev branched : Tables → Tables
  branched t = with_branch (branch_row_of b (pos 0) (opened_with count None)) t

  abbrev row : ℤ → BranchRow
  row balance = record { branch = b; accounts = count; balance = balance }

  -- all that comes with it, and no floor
  abbrev Its : Additions
  Its = AddsBranch b (opened_with count None)

  module _ {S : Type 0} {g : Ghosts S} {x y : Transaction S} where
    put : {r : Result (Unit {0}) TableFault} (balance : ℤ) → balance ≡ pos 0
        → AddsRow g x y branch_insert (given (branch_entry (row balance))) branch
        (λ t. is_some (row_at branch_key t.branches b)) (with_branch (row balance)) r
        → Writes g Its x y IsNew branched r
    put {r} balance zero says = writes_for
        (writes_add {So = IsNew} Its g x y branch_insert (given (branch_entry (row balance)))
        (λ t. with_branch (row balance) t) (inl (refl, ap (λ (z : ℤ). given (branch_entry (row z))) zero))
        (λ t new. lead_one (NewBranch (puts_each (branch_insert ∷ []) branch_insert (row balance ∷ []) (inl refl)
        (alone (given (branch_entry (row balance)))) t)))
        branch (λ t. is_some (row_at branch_key t.branches b)) r says (λ t new. ap is_some new.1))
        (λ t new. (new, ap (λ (z : ℤ). with_branch (row z) t) zero))

    -- and its tellers after it
    staff : {z : Transaction S} {r : Result (Unit {0}) TableFault} (teller : ℕ) → teller ≡ first_teller b
        → Writes g Its x y IsNew branched (Ok (tt {0}))
        → Writes g (AddsRange Tellers teller 10) y z
        (λ t. (n : ℕ) → n < 10 → is_taken Tellers (teller + n) (with_new_rows Tellers teller n t) ≡ false)
        (with_new_rows Tellers teller 10) r
        → Writes g Its x z IsNew (λ t. with_new_rows Tellers teller 10 (branched t)) r
    staff teller from first second = writes_then first (writes_adds (λ clean text values own.
        inr (inl (subst (λ (n : ℕ). AddsRange Tellers n 10 text values) from own))) second)
        (λ t new n lt. next_teller t b count teller (first_account b) from refl new.0 n lt)

pub returns-in_err-add_branch-clause-writes : goal.returns-in_err-add_branch-clause-writes
returns-in_err-add_branch-clause-writes g c =
    let same = handed_on c.from_residual.result c.from_residual.ensures.1 in
    rw same (writes_err (put c.args.branch c.args.count c.zero.result c.zero.ensures
    c.in_err-add_branch.ensures) (λ t new. new))

pub returns-in_err-add_rows-clause-writes : goal.returns-in_err-add_rows-clause-writes
returns-in_err-add_rows-clause-writes g c =
    let b = c.args.branch in
    let teller = c.first_teller-teller in
    let same = handed_on c.from_residual-in_err-add_rows.result c.from_residual-in_err-add_rows.ensures.1 in
    let first = put b c.args.count c.zero.result c.zero.ensures c.in_ok-add_branch.ensures in
    rw same (writes_err (staff b c.args.count teller.result teller.ensures.value first
    c.in_err-add_rows.ensures.writes) (λ t new. new))

pub returns-clause-writes : goal.returns-clause-writes
returns-clause-writes g c =
    let b = c.args.branch in
    let count = c.args.count in
    let teller = c.first_teller-teller in
    let start = c.first_account-account.ensures.value in
    let first = put b count c.zero.result c.zero.ensures c.in_ok-add_branch.ensures in
    writes_for (writes_then
    (staff b count teller.result teller.ensures.value first c.in_ok-add_rows.ensures.writes)
    (writes_adds (λ clean text values own. inr (inr (inl (subst (λ (m : ℕ).
    AddsRange Accounts (first_account b) m text values) c.from.ensures
    (subst (λ (n : ℕ). AddsRange Accounts n c.from.result text values) start own))))) c.add_rows-2.ensures.writes)
    (λ t new k lt. next_account t b count _ _ teller.ensures.value start new.0 k
    (subst (λ m. k < m) c.from.ensures lt)))
    (λ t new. (new, opened_is t b count _ _ teller.ensures.value start c.from.result c.from.ensures))

-- ---- what it leaves

pub returns-in_err-add_branch-clause-leaves : goal.returns-in_err-add_branch-clause-leaves
returns-in_err-add_branch-clause-leaves g c =
    let same = handed_on c.from_residual.result c.from_residual.ensures.1 in
    rw same leaves_err

pub returns-in_err-add_rows-clause-leaves : goal.returns-in_err-add_rows-clause-leaves
returns-in_err-add_rows-clause-leaves g c =
    let same = handed_on c.from_residual-in_err-add_rows.result c.from_residual-in_err-add_rows.ensures.1 in
    rw same leaves_err

module _ (b count : ℕ) {S : Type 0} {g : Ghosts S} {x y : Transaction S} where
  left : {r : Result (Unit {0}) TableFault} (balance : ℤ) → balance ≡ pos 0
      → AddsRow g x y branch_insert (given (branch_entry (row b count balance))) branch
      (λ t. is_some (row_at branch_key t.branches b)) (with_branch (row b count balance)) r
      → Leaves g x y (branched b count) r
  left {r} balance zero says = leaves_for
      (leaves_add g x y branch (λ t. is_some (row_at branch_key t.branches b))
      (λ t. with_branch (row b count balance) t) r says)
      (λ t. ap (λ (z : ℤ). with_branch (row b count z) t) zero)

pub returns-clause-leaves : goal.returns-clause-leaves
returns-clause-leaves g c =
    let b = c.args.branch in
    let count = c.args.count in
    let teller = c.first_teller-teller in
    let start = c.first_account-account.ensures.value in
    let first = put b count c.zero.result c.zero.ensures c.in_ok-add_branch.ensures in
    let one = left b count c.zero.result c.zero.ensures c.in_ok-add_branch.ensures in
    let two = c.in_ok-add_rows.ensures in
    let three = c.add_rows-2.ensures in
    leaves_for (leaves_then
    (staff b count teller.result teller.ensures.value first two.writes).does three.writes.does
    (leaves_then first.does two.writes.does one two.leaves) three.leaves)
    (λ t. opened_is t b count _ _ teller.ensures.value start c.from.result c.from.ensures)
