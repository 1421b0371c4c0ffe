-- Which rows a call puts in, under which keys: its own; and which it changes.
use Rattle.std.specs.Prelude.{◌≡◌, ◌<◌, ◌⊎◌, ◌+◌, ℕ, ℤ, pos, List, [], ◌∷◌, length, Option, Some, Ok}
use Rattle.std.specs.List.{AllByRecursion}
use Rattle.sqlite.specs.Effect.{Database}
use Rattle.sqlite.specs.Order.{Row}
use Rattle.sqlite_rules.specs.Lists.{Has}
use Rattle.message_records.specs.believed.Reading.{request_of}
use Rattle.message_records.specs.believed.Records.{RequestFields}
use Rattle.posting_rules.specs.believed.Changes.{new_account, new_teller}
use Rattle.posting_rules.specs.believed.Commands.{Terms}
use Rattle.posting_rules.specs.believed.Numbering.{branch_of_account, branch_of_teller, first_account, first_teller}
use Rattle.posting_rules.specs.believed.Tables.{branch_row_of}
use Rattle.posting_rules.specs.declared.limits.TheConstants.{TELLERS_PER_BRANCH}
use Rattle.posting_rules.specs.declared.rows.ClosingRow.{ClosingRow}
use Rattle.posting_rules.specs.declared.rows.HistoryRow.{HistoryRow}
use Rattle.posting_rules.specs.declared.rows.ReferenceRow.{ReferenceRow}
use Rattle.posting_rules.specs.declared.rows.RequestRow.{RequestRow}
use Rattle.posting_batch.specs.believed.Batch.{IsNextOrdinal}
use Rattle.sql_meanings.specs.believed.Entries.{Entry}
use Rattle.store_rows.specs.believed.Failures.{Additions}
use Rattle.store_rows.specs.believed.Rules.{OfRows}
use Rattle.store_rows.specs.believed.SeveralRows.{given, given_each, under}
use Rattle.store_rows.specs.believed.View.{account_entry, branch_entry, floor_entry, history_entry, reference_entry}
use Rattle.store_rows.specs.believed.View.{closing_entry, request_entry, teller_entry}
use Rattle.store_rows.specs.believed.Inserts.{account_insert, branch_insert, closing_insert, eight_postings_insert}
use Rattle.store_rows.specs.believed.Inserts.{eight_requests_insert, floor_insert, posting_insert}
use Rattle.store_rows.specs.believed.Inserts.{reference_insert, request_insert, teller_insert}
use Rattle.store_rows.specs.believed.Inserts.{account_update, branch_update, meta_key, meta_update, teller_update}
use Rattle.bank_transactions.specs.believed.Stored.{HoldsDecided}
use Rattle.bank_transactions.specs.declared.new_branch.NewRows.{NewRows}
use Rattle.bank_transactions.specs.declared.new_branch.NewRows.TheVariants.{Tellers, Accounts}

-- any
abbrev pub AnyRow : Additions
AnyRow text values = Unit {0}

-- ---- the rows of records

-- by one of the texts, rows of which each is so
pub record AddsEach {R : Type 0} (texts : List (List ℕ)) (entry : R → Entry) (IsSo : R → Type 0) (text : List ℕ)
    (values : Row) : Type 0 where
  pub among : Has texts text
  pub rows : List R
  pub are : values ≡ given_each entry rows
  pub each : AllByRecursion IsSo rows

abbrev pub AddsPostings : (HistoryRow → Type 0) → Additions
AddsPostings IsSo = AddsEach (posting_insert ∷ eight_postings_insert ∷ []) history_entry IsSo

abbrev pub AddsRequests : (RequestRow → Type 0) → Additions
AddsRequests IsSo = AddsEach (request_insert ∷ eight_requests_insert ∷ []) request_entry IsSo

abbrev pub AddsReferences : (ReferenceRow → Type 0) → Additions
AddsReferences IsSo = AddsEach (reference_insert ∷ []) reference_entry IsSo

-- the ordinal is one of so many that follow the count of decided requests which the database holds
abbrev pub FollowsCount : Database → ℕ → ℕ → Type 0
FollowsCount db count ordinal = OfRows (λ rows.
    (decided : ℕ) × HoldsDecided rows decided × IsNextOrdinal decided count ordinal) db

-- by this text a number is written into the row under the key
abbrev pub WritesUnder : List ℕ → ℕ → Additions
WritesUnder update key text values = (text ≡ update) × (number : ℤ) × (values ≡ under key number)

-- one of the records asks for this
abbrev pub AskFor : List (List ℕ) → (RequestFields → Type 0) → Type 0
AskFor records P = (bytes : List ℕ) × Has records bytes × (r : RequestFields) × (request_of bytes ≡ Ok r) × P r

-- its account's balance is written, its teller's, or that of the branch of either
abbrev pub WritesFor : RequestFields → Additions
WritesFor r text values = WritesUnder account_update r.account text values
    ⊎ (WritesUnder teller_update r.teller text values
    ⊎ (WritesUnder branch_update (branch_of_teller r.teller) text values
    ⊎ WritesUnder branch_update (branch_of_account r.account) text values))

-- that of one of the records is, or how many requests are decided
abbrev pub ChangesFor : List (List ℕ) → Additions
ChangesFor records text values =
    AskFor records (λ r. WritesFor r text values) ⊎ WritesUnder meta_update meta_key text values

-- records: postings, requests and references, each under such an ordinal, and what a posting changes
abbrev pub AddsForRecords : Database → List (List ℕ) → Additions
AddsForRecords db records text values =
    AddsPostings (λ r. FollowsCount db (length records) r.ordinal) text values
    ⊎ (AddsRequests (λ r. FollowsCount db (length records) r.ordinal) text values
    ⊎ (AddsReferences (λ r. FollowsCount db (length records) r.ordinal) text values
    ⊎ ChangesFor records text values))

-- ---- the rows of a branch

-- the text that puts such a row in
abbrev pub insert_of : NewRows → List ℕ
insert_of Tellers = teller_insert
insert_of Accounts = account_insert

-- it with nothing on it, as it is put in
abbrev pub entry_of : NewRows → ℕ → Entry
entry_of Tellers n = teller_entry (new_teller n)
entry_of Accounts n = account_entry (new_account n)

-- the row under this number
abbrev pub AddsOne : NewRows → ℕ → Additions
AddsOne kind n text values = (text ≡ insert_of kind) × (values ≡ given (entry_of kind n))

-- one of so many from this number on
abbrev pub AddsRange : NewRows → ℕ → ℕ → Additions
AddsRange kind first count text values = (n : ℕ) × (n < count) × AddsOne kind (first + n) text values

-- the row of the floor, where there is to be one
abbrev pub AddsFloor : ℕ → Option ℤ → Additions
AddsFloor branch floor text values = (lowest : ℤ) × (floor ≡ Some lowest) × (text ≡ floor_insert)
    × (values ≡ given (floor_entry (record { branch = branch; lowest = lowest })))

-- a branch that is opened with these terms: its own row, its tellers', its accounts' and its floor's
abbrev pub AddsBranch : ℕ → Terms → Additions
AddsBranch branch terms text values =
    ((text ≡ branch_insert) × (values ≡ given (branch_entry (branch_row_of branch (pos 0) terms))))
    ⊎ (AddsRange Tellers (first_teller branch) TELLERS_PER_BRANCH text values
    ⊎ (AddsRange Accounts (first_account branch) terms.accounts text values
    ⊎ AddsFloor branch terms.floor text values))

-- ---- closed numbers

-- the row of the numbers that are closed, or of the seal
abbrev pub AddsClosing : ClosingRow → Additions
AddsClosing row text values = (text ≡ closing_insert) × (values ≡ given (closing_entry row))
