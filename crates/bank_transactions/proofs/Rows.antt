-- What one slot writes.
use Rattle.std.proofs.Common.{◌≡◌, ℕ, List, [], ◌∷◌, Option, Result, Some, None, false, refl, sym, ap, subst, ◌∙◌}
use Rattle.std.proofs.Common.{inl, inr}
use Rattle.std.specs.{List.AllByRecursion, Prelude.ℤ, Prelude.is_some}
use Rattle.sqlite.specs.{Table.Table, declared.transaction.Transaction.Transaction}
use Rattle.sqlite_rules.specs.Lists.{Has}
use Rattle.sqlite_rules.proofs.ListLemmas.{all_from}
use Rattle.sqlite_trees.specs.declared.store.Store.{Ghosts}
use Rattle.posting_rules.specs.declared.rows.{HistoryRow.HistoryRow, RequestRow.RequestRow, ReferenceRow.ReferenceRow}
use Rattle.posting_rules.specs.believed.Changes.{with_history, with_reference, with_request, row_changed, row_put}
use Rattle.posting_rules.specs.believed.Changes.{with_branch_balance, with_teller_balance, with_account_balance}
use Rattle.posting_batch.specs.{Batch.PutsFree, Slots.account_slot_key, Slots.teller_slot_key, Slots.branch_slot_key}
use Rattle.posting_batch.specs.Overlay.{each_put, history_put, requests_put, references_put, changed_to, over}
use Rattle.posting_batch.specs.Overlay.{accounts_over, tellers_over, branches_over}
use Rattle.sql_meanings.specs.believed.Entries.{Entry}
use Rattle.store_rows.specs.believed.BankTables as bank
use Rattle.store_rows.specs.{Calls.AddsRow, believed.Failures.Additions, Holders.with_balance}
use Rattle.store_rows.specs.declared.fault.TableFault.{TableFault}
use Rattle.store_rows.specs.believed.SeveralRows.{given, given_each}
use Rattle.store_rows.specs.SeveralRows.{AddsRows, meets_key, with_each}
use Rattle.store_rows.specs.believed.View.{history_entry, reference_entry, request_entry}
use Rattle.store_rows.specs.believed.Inserts.{eight_postings_insert, eight_requests_insert, posting_insert}
use Rattle.store_rows.specs.believed.Inserts.{reference_insert, request_insert}
use Rattle.store_rows.specs.declared.holders.Holder.TheVariants.{Account, Teller, Branch}
use Rattle.bank_transactions.specs.believed.Additions.{AddsEach, AddsPostings, AddsReferences, AddsRequests}
use Rattle.bank_transactions.specs.{Additions.ChangesEach, InTurn.ArePlaced, Running.Writes}
use Rattle.bank_transactions.specs.believed.Ran.{Posting, Puts, Reference, Request, Turns}
use Rattle.bank_transactions.specs.believed.Additions.{WritesUnder}
use Rattle.sqlite.specs.Order.{Row}
use Rattle.bank_transactions.proofs.Leading.{alone, lead_one, puts_each}
use Rattle.bank_transactions.proofs.Running.{writes_add, writes_for}
use Rattle.posting_rules.specs.ChangesByKey as steps
use Rattle.posting_rules.specs.believed.Tables.{Tables, row_at, branch_key, teller_key, account_key, history_key}
use Rattle.posting_rules.specs.believed.Tables.{reference_key, request_key}
use Rattle.posting_batch.specs.declared.slots.{AccountSlot.AccountSlot, TellerSlot.TellerSlot, BranchSlot.BranchSlot}
use Rattle.posting_batch.proofs.NewRows.{account_same, teller_same, branch_same}
use Rattle.posting_batch.proofs.SlotsWritten.{over_changed, over_unchanged}
use Rattle.bank_transactions.specs.Writing.{MayAddPostings, MayAddReferences, MayAddRequests, by_change}

-- ---- new rows

-- each row is one of them
all_in : {R : Type 0} (rows : List R) → AllByRecursion (Has rows) rows
all_in rows = all_from (Has rows) rows (λ r has. has)

-- a row is put in under a key that is free
row_added : {S R : Type 0} {g : Ghosts S} {old new : Transaction S} {r : Result (Unit {0}) TableFault}
    {texts : List (List ℕ)} (text : List ℕ) (table : Table) (entry : R → Entry) (key : R → ℕ) (rows : Tables → List R)
    (put : R → Tables → Tables) (made : List R → Tables → Tables) (row : R)
    → ((t : Tables) → put row t ≡ made (row ∷ []) t) → Has texts text
    → ((values : Row) (t u : Tables) → Puts texts entry put text values t u → Turns text values t u)
    → AddsRow g old new text (given (entry row)) table (λ t. is_some (row_at key (rows t) (key row))) (put row) r
    → Writes g (AddsEach texts entry (Has (row ∷ []))) old new (λ t. PutsFree key (row ∷ []) (rows t)) (made (row ∷ [])) r
row_added {S} {R} {g} {old} {new} {r} {texts} text table entry key rows put made row is among turns says =
    writes_for (writes_add {So = λ t. PutsFree key (row ∷ []) (rows t)} (AddsEach texts entry (Has (row ∷ []))) g old new text (given (entry row)) (put row)
    (record { among = among; rows = row ∷ []; are = alone (given (entry row)); each = all_in (row ∷ []) })
    (λ t free. lead_one (turns _ t (put row t) (puts_each texts text (row ∷ []) among (alone (given (entry row))) t)))
    table
    (λ t. is_some (row_at key (rows t) (key row))) r says (λ t free. ap is_some free.0))
    (λ t free. (free, is t))

pub posting_added : {S : Type 0} {g : Ghosts S} {old new : Transaction S} {r : Result (Unit {0}) TableFault}
    (row : HistoryRow)
    → AddsRow g old new posting_insert (given (history_entry row)) bank.history
    (λ t. is_some (row_at history_key t.history row.ordinal)) (with_history row) r
    → Writes g (AddsPostings (Has (row ∷ []))) old new (MayAddPostings (row ∷ [])) (history_put (row ∷ [])) r
unfolding with_history
posting_added row says =
    row_added posting_insert bank.history history_entry history_key (λ t. t.history) with_history history_put row
    (λ t. refl) (inl refl) (λ values t u it. Posting it) says

pub request_added : {S : Type 0} {g : Ghosts S} {old new : Transaction S} {r : Result (Unit {0}) TableFault}
    (row : RequestRow)
    → AddsRow g old new request_insert (given (request_entry row)) bank.request
    (λ t. is_some (row_at request_key t.requests row.ordinal)) (with_request row) r
    → Writes g (AddsRequests (Has (row ∷ []))) old new (MayAddRequests (row ∷ [])) (requests_put (row ∷ [])) r
unfolding with_request
request_added row says =
    row_added request_insert bank.request request_entry request_key (λ t. t.requests) with_request requests_put row
    (λ t. refl) (inl refl) (λ values t u it. Request it) says

pub reference_added : {S : Type 0} {g : Ghosts S} {old new : Transaction S} {r : Result (Unit {0}) TableFault}
    (row : ReferenceRow)
    → AddsRow g old new reference_insert (given (reference_entry row)) bank.reference
    (λ t. is_some (row_at reference_key t.references row.ordinal)) (with_reference row.ordinal (Some row.reference)) r
    → Writes g (AddsReferences (Has (row ∷ []))) old new (MayAddReferences (row ∷ [])) (references_put (row ∷ [])) r
unfolding with_reference
reference_added row says =
    row_added reference_insert bank.reference reference_entry reference_key (λ t. t.references)
    (λ x. with_reference x.ordinal (Some x.reference)) references_put row (λ t. refl) (inl refl)
    (λ values t u it. Reference it) says

-- ---- several new rows

module _ {R : Type 0} (key : R → ℕ) (rows : Tables → List R) (with_rows : Tables → List R → Tables)
    (placed : ArePlaced rows with_rows) where
  abbrev with_row : R → Tables → Tables
  with_row r t = with_rows t (row_put key r (rows t))

  -- rows with free keys meet no key
  none_met : (news : List R) (t : Tables) → PutsFree key news (rows t)
      → meets_key with_row (λ r t. is_some (row_at key (rows t) (key r))) news t ≡ false
  none_met [] t free = refl
  none_met (r ∷ news) t free = rw free.0 (none_met news (with_row r t)
      (subst (λ (rs : List R). PutsFree key news rs) (sym (placed.held t (row_put key r (rows t)))) free.1))

  -- the tables with them one after another
  each_is : (news : List R) (t : Tables) → with_each with_row news t ≡ with_rows t (each_put key news (rows t))
  each_is [] t = placed.own t
  each_is (r ∷ news) t =
      let more = row_put key r (rows t) in
      each_is news (with_rows t more) ∙ placed.again t more (each_put key news (rows (with_rows t more)))
      ∙ ap (λ (rs : List R). with_rows t (each_put key news rs)) (placed.held t more)

  -- rows are put in under keys that are free
  pub rows_added : {S : Type 0} {g : Ghosts S} {old new : Transaction S} {r : Result (Unit {0}) TableFault}
      {Adds : Additions} (text : List ℕ) (entry : R → Entry) (table : Table) (news : List R)
      → Adds text (given_each entry news)
      → ((t : Tables) → Turns text (given_each entry news) t (with_each with_row news t))
      → AddsRows g old new text entry table (λ r t. is_some (row_at key (rows t) (key r))) with_row news r
      → Writes g Adds old new (λ t. PutsFree key news (rows t)) (λ t. with_rows t (each_put key news (rows t))) r
  rows_added {S} {g} {old} {new} {r} {Adds} text entry table news own turns says =
      writes_for (writes_add {So = λ t. PutsFree key news (rows t)} Adds g old new text (given_each entry news)
      (with_each with_row news) own
      (λ t free. lead_one (turns t)) table (meets_key with_row (λ r t. is_some (row_at key (rows t) (key r))) news) r says (none_met news))
      (λ t free. (free, each_is news t))

pub postings_added : {S : Type 0} {g : Ghosts S} {old new : Transaction S} {r : Result (Unit {0}) TableFault}
    (news : List HistoryRow)
    → AddsRows g old new eight_postings_insert history_entry bank.history (λ r t. is_some (row_at history_key t.history r.ordinal))
    with_history news r
    → Writes g (AddsPostings (Has news)) old new (MayAddPostings news) (history_put news) r
unfolding with_history
postings_added news says =
    rows_added history_key (λ t. t.history) (λ t rows. record t { history = rows })
    (record { own = λ t. refl; held = λ t rs. refl; again = λ t rs others. refl }) eight_postings_insert history_entry
    bank.history news (record { among = inr (inl refl); rows = news; are = refl; each = all_in news })
    (λ t. Posting (puts_each (posting_insert ∷ eight_postings_insert ∷ []) eight_postings_insert news (inr (inl refl)) refl t)) says

pub requests_added : {S : Type 0} {g : Ghosts S} {old new : Transaction S} {r : Result (Unit {0}) TableFault}
    (news : List RequestRow)
    → AddsRows g old new eight_requests_insert request_entry bank.request (λ r t. is_some (row_at request_key t.requests r.ordinal))
    with_request news r
    → Writes g (AddsRequests (Has news)) old new (MayAddRequests news) (requests_put news) r
unfolding with_request
requests_added news says =
    rows_added request_key (λ t. t.requests) (λ t rows. record t { requests = rows })
    (record { own = λ t. refl; held = λ t rs. refl; again = λ t rs others. refl }) eight_requests_insert request_entry
    bank.request news (record { among = inr (inl refl); rows = news; are = refl; each = all_in news })
    (λ t. Request (puts_each (request_insert ∷ eight_requests_insert ∷ []) eight_requests_insert news (inr (inl refl)) refl t)) says

-- ---- slots

-- what is written under the key of one slot
pub one_changed : {A : Type 0} (update : List ℕ) (key : A → ℕ) (s : A) (text : List ℕ) (values : Row)
    → WritesUnder update (key s) text values → ChangesEach update key (s ∷ []) text values
one_changed update key s text values it = (s, inl refl, it)

-- one slot
slot_made : {A R : Type 0} (slot_key : A → ℕ) (key : R → ℕ) (changed : A → Option ℤ) (set : ℤ → R → R)
    (same : (s : A) (r : R) → key (changed_to set (changed s) r) ≡ key r) (with_rows : List R → Tables)
    (s : A) (rows : List R)
    (c : Option ℤ) → changed s ≡ c
    → by_change c (λ z. with_rows (row_changed key (set z) (slot_key s) rows)) (with_rows rows)
    ≡ with_rows (over slot_key key (λ x r. changed_to set (changed x) r) (s ∷ []) rows)
slot_made slot_key key changed set same with_rows s rows None e =
    ap with_rows (sym (over_unchanged slot_key key changed set same s e rows))
slot_made slot_key key changed set same with_rows s rows (Some z) e =
    ap with_rows (over_changed slot_key key changed set same s z e rows)

pub account_made : (s : AccountSlot) (t : Tables)
    → by_change s.changed (λ z. with_balance (Account s.account) z t) t ≡ accounts_over (s ∷ []) t
unfolding with_account_balance
account_made s t =
    slot_made account_slot_key account_key (λ x. x.changed) steps.with_account_balance account_same
    (λ rows. record t { accounts = rows }) s t.accounts s.changed refl

pub teller_made : (s : TellerSlot) (t : Tables)
    → by_change s.changed (λ z. with_balance (Teller s.teller) z t) t ≡ tellers_over (s ∷ []) t
unfolding with_teller_balance
teller_made s t = slot_made teller_slot_key teller_key (λ x. x.changed) steps.with_teller_balance teller_same
    (λ rows. record t { tellers = rows }) s t.tellers s.changed refl

pub branch_made : (s : BranchSlot) (t : Tables)
    → by_change s.changed (λ z. with_balance (Branch s.branch) z t) t ≡ branches_over (s ∷ []) t
unfolding with_branch_balance
branch_made s t = slot_made branch_slot_key branch_key (λ x. x.changed) steps.with_branch_balance branch_same
    (λ rows. record t { branches = rows }) s t.branches s.changed refl
