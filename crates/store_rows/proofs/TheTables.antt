-- The tables of the bank that have typed rows, each with these.
use Rattle.std.proofs.Common.{lit≤, refl}
use Rattle.posting_rules.specs.believed.Tables.{branch_key, teller_key, account_key, history_key, request_key}
use Rattle.posting_rules.specs.believed.Tables.{closing_key, floor_key, reference_key}
use Rattle.posting_rules.specs.declared.rows.{BranchRow.BranchRow, TellerRow.TellerRow, AccountRow.AccountRow}
use Rattle.posting_rules.specs.declared.rows.{HistoryRow.HistoryRow, RequestRow.RequestRow, FloorRow.FloorRow}
use Rattle.posting_rules.specs.declared.rows.{ClosingRow.ClosingRow, ReferenceRow.ReferenceRow}
use Rattle.store_rows.specs.believed.BankTables as bank
use Rattle.store_rows.specs.believed.View.{branch_entry, teller_entry, account_entry, history_entry, request_entry}
use Rattle.store_rows.specs.believed.View.{closing_entry, floor_entry, reference_entry}
use Rattle.store_rows.proofs.TableKinds.{Kind, kind_of}

-- the branches
abbrev pub branches : Kind BranchRow
branches = kind_of 1 bank.branch branch_key branch_entry (λ t. t.branches)
    (λ rows t. record t { branches = rows }) (λ _. refl) refl (λ _. refl)
    (λ _ _. refl) (λ _ _. refl) refl refl refl refl (lit≤ tt) refl

-- the tellers
abbrev pub tellers : Kind TellerRow
tellers = kind_of 2 bank.teller teller_key teller_entry (λ t. t.tellers)
    (λ rows t. record t { tellers = rows }) (λ _. refl) refl (λ _. refl)
    (λ _ _. refl) (λ _ _. refl) refl refl refl refl (lit≤ tt) refl

-- the accounts
abbrev pub accounts : Kind AccountRow
accounts = kind_of 3 bank.account account_key account_entry (λ t. t.accounts)
    (λ rows t. record t { accounts = rows }) (λ _. refl) refl (λ _. refl)
    (λ _ _. refl) (λ _ _. refl) refl refl refl refl (lit≤ tt) refl

-- the postings
abbrev pub history : Kind HistoryRow
history = kind_of 4 bank.history history_key history_entry (λ t. t.history)
    (λ rows t. record t { history = rows }) (λ _. refl) refl (λ _. refl)
    (λ _ _. refl) (λ _ _. refl) refl refl refl refl (lit≤ tt) refl

-- the decided requests
abbrev pub requests : Kind RequestRow
requests = kind_of 5 bank.request request_key request_entry (λ t. t.requests)
    (λ rows t. record t { requests = rows }) (λ _. refl) refl (λ _. refl)
    (λ _ _. refl) (λ _ _. refl) refl refl refl refl (lit≤ tt) refl

-- the floors
abbrev pub floors : Kind FloorRow
floors = kind_of 6 bank.floor floor_key floor_entry (λ t. t.floors)
    (λ rows t. record t { floors = rows }) (λ _. refl) refl (λ _. refl)
    (λ _ _. refl) (λ _ _. refl) refl refl refl refl (lit≤ tt) refl

-- the references
abbrev pub references : Kind ReferenceRow
references = kind_of 7 bank.reference reference_key reference_entry (λ t. t.references)
    (λ rows t. record t { references = rows }) (λ _. refl) refl (λ _. refl)
    (λ _ _. refl) (λ _ _. refl) refl refl refl refl (lit≤ tt) refl

-- the closed numbers
abbrev pub closings : Kind ClosingRow
closings = kind_of 8 bank.closing closing_key closing_entry (λ t. t.closings)
    (λ rows t. record t { closings = rows }) (λ _. refl) refl (λ _. refl)
    (λ _ _. refl) (λ _ _. refl) refl refl refl refl (lit≤ tt) refl
