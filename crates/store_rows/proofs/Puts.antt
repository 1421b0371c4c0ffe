-- What each INSERT puts in.
use Rattle.std.proofs.Common.{pos, [], ◌∷◌, ◌≤◌, length, lit≤, refl, List, ℕ}
use Rattle.posting_rules.specs.declared.rows.{BranchRow.BranchRow, TellerRow.TellerRow, AccountRow.AccountRow}
use Rattle.posting_rules.specs.declared.rows.{HistoryRow.HistoryRow, RequestRow.RequestRow, FloorRow.FloorRow}
use Rattle.posting_rules.specs.declared.rows.{ClosingRow.ClosingRow, ReferenceRow.ReferenceRow}
use Rattle.sqlite.specs.{Table.Table, declared.types.Value.TheVariants.Null, declared.types.Value.TheVariants.Int}
use Rattle.sqlite_tied.specs.Compute.{everything}
use Rattle.sql_meanings.specs.believed.Entries.{Entry}
use Rattle.sql_meanings.proofs.{PutRows.PutsAs, Texts.puts_by}
use Rattle.store_rows.specs.believed.BankTables as bank
use Rattle.store_rows.specs.{believed.SeveralRows.given, declared.metas.TheConstants.VERSION}
use Rattle.store_rows.specs.believed.View.{meta_entry, branch_entry, teller_entry, account_entry, history_entry}
use Rattle.store_rows.specs.believed.View.{closing_entry, request_entry, floor_entry, reference_entry}
use Rattle.store_rows.specs.declared.texts.TheConstants as text
use Rattle.store_rows.proofs.Checked.{meta_checked}

-- with a row's values the text puts the row in
abbrev pub Puts : Table → List ℕ → Entry → Type 0
Puts table text entry = PutsAs table text (given entry) entry

-- the first row of meta
abbrev pub first_row : Entry
first_row = meta_entry VERSION 0

pub record PutsEntries : Type 0 where
  pub meta : Puts bank.meta text.ADD_META.now first_row
  pub branch : (r : BranchRow) → Puts bank.branch text.ADD_BRANCH.now (branch_entry r)
  pub teller : (r : TellerRow) → Puts bank.teller text.ADD_TELLER.now (teller_entry r)
  pub account : (r : AccountRow) → Puts bank.account text.ADD_ACCOUNT.now (account_entry r)
  pub posting : (r : HistoryRow) → Puts bank.history text.ADD_HISTORY.now (history_entry r)
  pub request : (r : RequestRow) → Puts bank.request text.ADD_REQUEST.now (request_entry r)
  pub floor : (r : FloorRow) → Puts bank.floor text.ADD_FLOOR.now (floor_entry r)
  pub reference : (r : ReferenceRow) → length r.reference ≤ 1000
      → Puts bank.reference text.ADD_REFERENCE.now (reference_entry r)
  pub closing : (r : ClosingRow) → Puts bank.closing text.ADD_CLOSING.now (closing_entry r)

pub puts : PutsEntries
unfolding everything
puts = record {
  meta = puts_by bank.meta text.ADD_META.now (given first_row) first_row _ _ _ refl refl refl refl
      (λ _ _. refl) (lit≤ tt) refl (λ _. refl) (refl, refl) tt (λ _. refl)
      (meta_checked (pos 1) (Null ∷ Int VERSION ∷ Int (pos 0) ∷ []) refl);
  branch = λ r. puts_by bank.branch text.ADD_BRANCH.now (given (branch_entry r)) (branch_entry r) _ _ _ refl
      refl refl refl (λ _ _. refl) (lit≤ tt) refl (λ _. refl) (refl, refl) tt (λ _. refl) refl;
  teller = λ r. puts_by bank.teller text.ADD_TELLER.now (given (teller_entry r)) (teller_entry r) _ _ _ refl
      refl refl refl (λ _ _. refl) (lit≤ tt) refl (λ _. refl) (refl, refl) tt (λ _. refl) refl;
  account = λ r. puts_by bank.account text.ADD_ACCOUNT.now (given (account_entry r)) (account_entry r) _ _ _
      refl refl refl refl (λ _ _. refl) (lit≤ tt) refl (λ _. refl) (refl, refl) tt (λ _. refl) refl;
  posting = λ r. puts_by bank.history text.ADD_HISTORY.now (given (history_entry r)) (history_entry r) _ _ _
      refl refl refl refl (λ _ _. refl) (lit≤ tt) refl (λ _. refl) (refl, refl) tt (λ _. refl) refl;
  request = λ r. puts_by bank.request text.ADD_REQUEST.now (given (request_entry r)) (request_entry r) _ _ _
      refl refl refl refl (λ _ _. refl) (lit≤ tt) refl (λ _. refl) (refl, refl) tt (λ _. refl) refl;
  floor = λ r. puts_by bank.floor text.ADD_FLOOR.now (given (floor_entry r)) (floor_entry r) _ _ _ refl
      refl refl refl (λ _ _. refl) (lit≤ tt) refl (λ _. refl) (refl, refl) tt (λ _. refl) refl;
  reference = λ r short. puts_by bank.reference text.ADD_REFERENCE.now (given (reference_entry r))
      (reference_entry r) _ _ _ refl refl refl refl (λ _ _. refl) (lit≤ tt) refl (λ _. refl) (refl, refl)
      (short, tt) (λ _. refl) refl;
  closing = λ r. puts_by bank.closing text.ADD_CLOSING.now (given (closing_entry r)) (closing_entry r) _ _ _ refl
      refl refl refl (λ _ _. refl) (lit≤ tt) refl (λ _. refl) (refl, refl) tt (λ _. refl) refl;
}
