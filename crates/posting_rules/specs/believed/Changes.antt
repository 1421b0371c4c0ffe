-- What is done to the tables of a bank: a row is changed or put in, a verdict on a request, and an opening.
use Rattle.std.specs.Prelude.{ℕ, ℤ, List, [], ◌∷◌, map, ◌==◌, nat_lt, if◌then◌else◌, zero, suc, ◌+◌, pos}
use Rattle.std.specs.Prelude.{Option, Some, None, Result, Ok, Err}
use Rattle.posting_rules.specs.declared.limits.TheConstants.{TELLERS_PER_BRANCH}
use Rattle.posting_rules.specs.believed.Tables.{Tables, branch_key, teller_key, account_key, history_key, request_key}
use Rattle.posting_rules.specs.believed.Tables.{branch_row_of, teller_row_of, account_row_of, request_row_of}
use Rattle.posting_rules.specs.believed.Closings.{are_free, run_of}
use Rattle.posting_rules.specs.believed.Tables.{closing_key, history_row_of, floor_key, floor_row_of, reference_key, row_at}
use Rattle.posting_rules.specs.believed.Tables.{reference_row_of}
use Rattle.posting_rules.specs.declared.rows.BranchRow.{BranchRow}
use Rattle.posting_rules.specs.declared.rows.TellerRow.{TellerRow}
use Rattle.posting_rules.specs.declared.rows.AccountRow.{AccountRow}
use Rattle.posting_rules.specs.declared.rows.HistoryRow.{HistoryRow}
use Rattle.posting_rules.specs.declared.rows.RequestRow.{RequestRow}
use Rattle.posting_rules.specs.declared.rows.FloorRow.{FloorRow}
use Rattle.posting_rules.specs.declared.rows.ReferenceRow.{ReferenceRow}
use Rattle.message_records.specs.believed.Spelling.{reply_spelling}
use Rattle.message_records.specs.declared.fault.Bad.{Bad}
use Rattle.message_records.specs.believed.Records.{RequestFields}
use Rattle.message_records.specs.believed.Reading.{request_of}
use Rattle.posting_rules.specs.declared.judgments.Verdict.{Verdict}
use Rattle.posting_rules.specs.declared.judgments.Verdict.TheVariants.{Unkept, Again, Refused, Posted}
use Rattle.posting_rules.specs.believed.Commands.{Terms}
use Rattle.posting_rules.specs.believed.Entries.{DecidedRequest, refused_entry, posted_entry, malformed_reply}
use Rattle.posting_rules.specs.believed.Cases.{case_of, reply_in}
use Rattle.posting_rules.specs.believed.LookUps.{found_in}
use Rattle.posting_rules.specs.believed.Numbering.{branch_of_teller, first_teller, first_account}

-- the rows, of which the one under a key is changed
abbrev pub row_changed : {R : Type 0} → (R → ℕ) → (R → R) → ℕ → List R → List R
row_changed key change k rows = map (λ r. if key r == k then change r else r) rows

-- the rows with a new one before the first with a higher key
abbrev pub row_put : {R : Type 0} → (R → ℕ) → R → List R → List R
row_put key new [] = new ∷ []
row_put key new (r ∷ rows) = if nat_lt (key r) (key new) then r ∷ row_put key new rows else new ∷ r ∷ rows

-- the rows with new ones for so many numbers from the first on
abbrev pub rows_put : {R : Type 0} → (R → ℕ) → (ℕ → R) → ℕ → ℕ → List R → List R
rows_put key row first zero rows = rows
rows_put key row first (suc count) rows = row_put key (row (first + count))
    (rows_put key row first count rows)

-- ---- balances and counts that are written

-- so many requests are decided
unfoldable pub with_decided : ℕ → Tables → Tables
with_decided decided t = record t { decided = decided }

-- a branch has this balance
unfoldable pub with_branch_balance : ℕ → ℤ → Tables → Tables
with_branch_balance branch balance t = record t {
  branches =
      row_changed branch_key (λ r. record r { balance = balance }) branch t.branches;
}

-- a teller has this balance
unfoldable pub with_teller_balance : ℕ → ℤ → Tables → Tables
with_teller_balance teller balance t = record t {
  tellers =
      row_changed teller_key (λ r. record r { balance = balance }) teller t.tellers;
}

-- an account has this balance
unfoldable pub with_account_balance : ℕ → ℤ → Tables → Tables
with_account_balance account balance t = record t {
  accounts =
      row_changed account_key (λ r. record r { balance = balance }) account t.accounts;
}

-- ---- rows that are put in

-- a branch more
unfoldable pub with_branch : BranchRow → Tables → Tables
with_branch r t = record t { branches = row_put branch_key r t.branches }

-- a posting more
unfoldable pub with_history : HistoryRow → Tables → Tables
with_history r t = record t { history = row_put history_key r t.history }

-- a decided request more
unfoldable pub with_request : RequestRow → Tables → Tables
with_request r t = record t { requests = row_put request_key r t.requests }

-- a branch's floor more, where it has one
abbrev pub floor_put : ℕ → Option ℤ → List FloorRow → List FloorRow
floor_put branch None rows = rows
floor_put branch (Some lowest) rows = row_put floor_key (floor_row_of branch lowest) rows

unfoldable pub with_floor : ℕ → Option ℤ → Tables → Tables
with_floor branch floor t = record t { floors = floor_put branch floor t.floors }

-- the reference of a decided request more, where it has one
abbrev pub reference_put : ℕ → Option (List ℕ) → List ReferenceRow → List ReferenceRow
reference_put ordinal None rows = rows
reference_put ordinal (Some text) rows = row_put reference_key (reference_row_of ordinal text) rows

unfoldable pub with_reference : ℕ → Option (List ℕ) → Tables → Tables
with_reference ordinal reference t = record t { references = reference_put ordinal reference t.references }

-- ---- a verdict

-- a decided request is kept under its ordinal, posted or not, with its reference, and counted
abbrev pub tables_kept : Tables → ℕ → DecidedRequest → Tables
tables_kept t ordinal e =
    with_decided ordinal (with_reference ordinal e.request.reference (with_request (request_row_of ordinal e) t))

-- the three balances of a posting are written, and its row of history (TPC-B 1.2)
abbrev pub tables_moved : Tables → ℕ → DecidedRequest → ℤ → ℤ → Tables
tables_moved t ordinal e teller branch =
    with_history (history_row_of ordinal e)
    (with_branch_balance (branch_of_teller e.request.teller) branch
    (with_teller_balance e.request.teller teller (with_account_balance e.request.account e.balance t)))

-- the three balances, the row of history, and the row of the request with its reference (TPC-B 1.2)
abbrev pub tables_posted : Tables → ℕ → DecidedRequest → ℤ → ℤ → Tables
tables_posted t ordinal e teller branch = tables_kept (tables_moved t ordinal e teller branch) ordinal e

-- what a verdict on a request leaves
abbrev pub tables_after : Tables → ℕ → RequestFields → Verdict → Tables
tables_after t moment r (Unkept outcome) = t
tables_after t moment r (Again reply) = t
tables_after t moment r (Refused outcome) = tables_kept t (t.decided + 1) (refused_entry moment r outcome)
tables_after t moment r (Posted account teller branch) = tables_posted t (t.decided + 1)
    (posted_entry moment r account) teller branch

-- what a request leaves
abbrev pub tables_with : Tables → ℕ → RequestFields → Tables
tables_with t moment r = tables_after t moment r (case_of (found_in t r) r)

-- what a record leaves, which may be no request
abbrev pub tables_read : Tables → ℕ → Result RequestFields Bad → Tables
tables_read t moment (Err fault) = t
tables_read t moment (Ok r) = tables_with t moment r

abbrev pub tables_past : Tables → ℕ → List ℕ → Tables
tables_past t moment bytes = tables_read t moment (request_of bytes)

-- what records leave, one after another
abbrev pub tables_past_all : Tables → ℕ → List (List ℕ) → Tables
tables_past_all t moment [] = t
tables_past_all t moment (bytes ∷ records) = tables_past_all (tables_past t moment bytes) moment records

-- the bytes of the reply to a request
abbrev pub reply_bytes : Tables → RequestFields → List ℕ
reply_bytes t r = reply_spelling (reply_in (case_of (found_in t r) r) r)

-- the bytes of the reply to a record, which may be no request
abbrev pub reply_read : Tables → Result RequestFields Bad → List ℕ
reply_read t (Err fault) = reply_spelling malformed_reply
reply_read t (Ok r) = reply_bytes t r

abbrev pub reply_past : Tables → List ℕ → List ℕ
reply_past t bytes = reply_read t (request_of bytes)

-- and of those to records, one after another
abbrev pub replies_past_all : Tables → ℕ → List (List ℕ) → List (List ℕ)
replies_past_all t moment [] = []
replies_past_all t moment (bytes ∷ records) = reply_past t bytes ∷ replies_past_all
    (tables_past t moment bytes) moment records

-- a teller, and an account, with nothing on it
abbrev pub new_teller : ℕ → TellerRow
new_teller n = teller_row_of n (pos 0)

abbrev pub new_account : ℕ → AccountRow
new_account n = account_row_of n (pos 0)

-- so many tellers more, with nothing on them
unfoldable pub with_tellers : ℕ → ℕ → Tables → Tables
with_tellers first count t = record t { tellers = rows_put teller_key new_teller first count t.tellers }

-- so many accounts more, with nothing on them
unfoldable pub with_accounts : ℕ → ℕ → Tables → Tables
with_accounts first count t = record t { accounts = rows_put account_key new_account first count t.accounts }

-- a branch more, with its tellers, its accounts and its floor
abbrev pub tables_opened : Tables → ℕ → Terms → Tables
tables_opened t b terms = with_floor b terms.floor
    (with_accounts (first_account b) terms.accounts
    (with_tellers (first_teller b) TELLERS_PER_BRANCH
    (with_branch (branch_row_of b (pos 0) terms) t)))

-- what an opening leaves, by the row that is there
abbrev pub opened_where : Option BranchRow → Tables → ℕ → Terms → Tables
opened_where None t b terms = tables_opened t b terms
opened_where (Some row) t b terms = t

abbrev pub tables_with_branch : Tables → ℕ → Terms → Tables
tables_with_branch t b terms = opened_where (row_at branch_key t.branches b) t b terms

-- what a closing leaves
abbrev pub tables_closed : Tables → ℕ → ℕ → Tables
tables_closed t first last =
    if are_free t.closings first last
    then record t { closings = row_put closing_key (run_of first last) t.closings } else t
