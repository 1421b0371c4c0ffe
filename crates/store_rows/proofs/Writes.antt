-- What each UPDATE of a balance and each INSERT of a row leaves of the tables.
use Rattle.std.proofs.Common.{◌≡◌, ◌≤◌, ℕ, ℤ, pos, is_some, length, List, [], ◌∷◌, Some, Bool, Result, refl, inl, inr}
use Rattle.sqlite.specs.declared.{error.Error.Error, transaction.Transaction.Transaction, types.Value.TheVariants.Int}
use Rattle.sqlite_rules.specs.Lists.{Has}
use Rattle.sqlite_trees.specs.declared.store.Store.{Ghosts}
use Rattle.posting_rules.specs.believed.Changes.{row_changed, row_put, with_account_balance, with_branch}
use Rattle.posting_rules.specs.believed.Changes.{with_branch_balance, with_floor, with_history, with_reference}
use Rattle.posting_rules.specs.believed.Changes.{with_request, with_teller_balance}
use Rattle.posting_rules.specs.{Changes.with_account, Changes.with_closing, Changes.with_teller}
use Rattle.posting_rules.specs.{declared.rows.ReferenceRow.ReferenceRow}
use Rattle.posting_rules.specs.believed.Tables.{Tables, row_at}
use Rattle.sql_meanings.specs.{Calls.Inside, Calls.Says, believed.Entries.Entry}
use Rattle.sql_meanings.proofs.SetRows.{ChangesAs}
use Rattle.store_rows.specs.{Calls.AddsRow, Calls.SetsNumber, believed.Failures.inserts, believed.SeveralRows.given}
use Rattle.store_rows.specs.believed.SeveralRows.{under}
use Rattle.store_rows.specs.{declared.fault.TableFault.TableFault, declared.statements.TheConstants.MAX_KEY}
use Rattle.store_rows.specs.Failures.{Puts as PutLeaves}
use Rattle.store_rows.specs.Statements.{PutsIn, PutsRow, RunsUnder}
use Rattle.store_rows.specs.declared.texts.TheConstants as text
use Rattle.store_rows.proofs.TableKinds.{Kind, table_of, tells_added, tells_write}
use Rattle.store_rows.proofs.Puts.{Puts, puts as each}
use Rattle.store_rows.proofs.Setting.{set_first, set_second, sets as numbers}
use Rattle.store_rows.proofs.SparedTexts.{Spares, spared_met, spared_put, spares}
use Rattle.store_rows.proofs.Telling.{tells_tables}
use Rattle.store_rows.proofs.TheTables.{accounts, branches, closings, floors, history, references, requests, tellers}

-- a call that runs the text writes a balance so
abbrev Sets : {R : Type 0} → Kind R → List ℕ → (ℕ → ℤ → Tables → Tables) → Type 1
Sets kind text with =
    (S : Type 0) (g : Ghosts S) (old new : Transaction S) (k : ℕ) → k ≤ MAX_KEY
    → (z : ℤ) (answer : Result Bool Error)
    → RunsUnder g old new text k z answer
    → SetsNumber g old new (table_of kind) text (under k z) (λ t. is_some (row_at kind.key (kind.rows t) k)) (with k z)
    answer

-- a call that runs the text puts the row in so
abbrev PutsOne : {R : Type 0} → Kind R → List ℕ → (R → Tables → Tables) → R → Type 1
PutsOne kind text with r =
    (S : Type 0) (g : Ghosts S) (old new : Transaction S) → kind.key r ≤ MAX_KEY
    → (answer : Result (Unit {0}) TableFault) → PutsRow g old new text (given (kind.entry r)) answer
    → AddsRow g old new text (given (kind.entry r)) (table_of kind) (λ t. is_some (row_at kind.key (kind.rows t) (kind.key r))) (with r)
    answer

-- and so each row
abbrev PutsEach : {R : Type 0} → Kind R → List ℕ → (R → Tables → Tables) → Type 1
PutsEach {R} kind text with = (r : R) → PutsOne kind text with r

module _ {R : Type 0} (kind : Kind R) (text : List ℕ) where
  sets : (change : ℤ → R → R) (change_entry : ℤ → Entry → Entry)
      → ((k z : ℤ) → ChangesAs (table_of kind) text k (Int z ∷ []) (change_entry z))
      → ((z : ℤ) (r : R) → change_entry z (kind.entry r) ≡ kind.entry (change z r))
      → Spares text → Sets kind text (λ k z t. kind.having (row_changed kind.key (change z) k (kind.rows t)) t)
  sets change change_entry changes same spared S g old new k low z answer =
      tells_tables g old new (λ before after t shows. tells_write kind before after t shows text k
      (Int z ∷ []) (change z)
      (change_entry z) (changes (pos k) z) (same z) low answer)
      (λ before after. spared_met text spared before after _ answer)

  -- the text is one that puts a row in, under its key
  by_insert : (r : R) → Has inserts text → (S : Type 0) (g : Ghosts S) (old new : Transaction S)
      (answer : Result (Unit {0}) TableFault) → PutsRow g old new text (given (kind.entry r)) answer
      → Says g old new (Inside (λ before after. PutsIn text (given (kind.entry r)) before after answer))
      (Inside (λ before after. PutLeaves text (given (kind.entry r)) before after answer))
  by_insert r among S g old new answer says = record {
    same_reference = says.same_reference;
    answers = says.answers;
    leaves = λ clean live. says.leaves clean live (kind.entry r).key _ refl among;
    survives = says.survives;
  }

  put : (r : R) → Puts (table_of kind) text (kind.entry r) → Spares text → Has inserts text
      → PutsOne kind text (λ r t. kind.having (row_put kind.key r (kind.rows t)) t) r
  put r given_so spared among S g old new low answer says =
      tells_tables g old new (λ before after t shows h. rw h.2
      (tells_added kind before after t shows text (given (kind.entry r)) r given_so low h.0 h.1))
      (λ before after. spared_put text spared before after _ answer)
      (by_insert r among S g old new answer says)

  puts : ((r : R) → Puts (table_of kind) text (kind.entry r)) → Spares text → Has inserts text
      → PutsEach kind text (λ r t. kind.having (row_put kind.key r (kind.rows t)) t)
  puts given_so spared among r = put r (given_so r) spared among

-- each text writes its balance
pub record SetsBalances : Type 1 where
  pub branch : Sets branches text.SET_BRANCH.now with_branch_balance
  pub teller : Sets tellers text.SET_TELLER.now with_teller_balance
  pub account : Sets accounts text.SET_ACCOUNT.now with_account_balance

pub balances_set : SetsBalances
unfolding with_branch_balance with_teller_balance with_account_balance
balances_set = record {
  branch = sets branches text.SET_BRANCH.now (λ z r. record r { balance = z }) set_second numbers.branch
      (λ _ _. refl) spares.set_branch;
  teller = sets tellers text.SET_TELLER.now (λ z r. record r { balance = z }) set_first numbers.teller
      (λ _ _. refl) spares.set_teller;
  account = sets accounts text.SET_ACCOUNT.now (λ z r. record r { balance = z }) set_first numbers.account
      (λ _ _. refl) spares.set_account;
}

-- each text puts its row in
pub record PutsRows : Type 1 where
  pub branch : PutsEach branches text.ADD_BRANCH.now with_branch
  pub teller : PutsEach tellers text.ADD_TELLER.now with_teller
  pub account : PutsEach accounts text.ADD_ACCOUNT.now with_account
  pub posting : PutsEach history text.ADD_HISTORY.now with_history
  pub request : PutsEach requests text.ADD_REQUEST.now with_request
  pub floor : PutsEach floors text.ADD_FLOOR.now (λ r. with_floor r.branch (Some r.lowest))
  pub reference : (r : ReferenceRow) → length r.reference ≤ 1000
      → PutsOne references text.ADD_REFERENCE.now (λ r. with_reference r.ordinal (Some r.reference)) r
  pub closing : PutsEach closings text.ADD_CLOSING.now with_closing

pub rows_put : PutsRows
unfolding with_branch with_teller with_account with_history with_request with_floor with_reference with_closing
rows_put = record {
  branch = puts branches text.ADD_BRANCH.now each.branch spares.add_branch (inl refl);
  teller = puts tellers text.ADD_TELLER.now each.teller spares.add_teller (inr (inl refl));
  account = puts accounts text.ADD_ACCOUNT.now each.account spares.add_account (inr (inr (inl refl)));
  posting = puts history text.ADD_HISTORY.now each.posting spares.add_posting (inr (inr (inr (inr (inl refl)))));
  request = puts requests text.ADD_REQUEST.now each.request spares.add_request (inr (inr (inr (inr (inr (inl refl))))));
  floor = puts floors text.ADD_FLOOR.now each.floor spares.add_floor (inr (inr (inr (inl refl))));
  reference = λ r short. put references text.ADD_REFERENCE.now r (each.reference r short)
      spares.add_reference (inr (inr (inr (inr (inr (inr (inl refl)))))));
  closing = puts closings text.ADD_CLOSING.now each.closing spares.add_closing
      (inr (inr (inr (inr (inr (inr (inr (inr (inr (inl refl))))))))));
}
