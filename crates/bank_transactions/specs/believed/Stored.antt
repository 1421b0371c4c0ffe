-- What a look-up, a posting, a batch and an opening answer of whatever rows a file holds, be they a bank's or
-- not.
use Rattle.std.specs.Prelude.{◌≡◌, ◌≢◌, ℕ, ℤ, pos, Bool, true, false, filter, find, length, map, List, Option, Some, None, IsSome, Result, Ok, Err, ⊤}
use Rattle.std.specs.List.{AllByRecursion, list_all, list_any}
use Rattle.std.specs.Ordering.{int_cmp, is_ge}
use Rattle.sqlite.specs.Effect.{Database}
use Rattle.message_records.specs.believed.Reading.{request_of}
use Rattle.message_records.specs.believed.Records.{RequestFields}
use Rattle.message_records.specs.believed.Spelling.{reply_spelling}
use Rattle.message_records.specs.declared.fault.Bad.{Bad}
use Rattle.posting_rules.specs.believed.Cases.{case_of, reply_in}
use Rattle.posting_rules.specs.believed.Changes.{replies_past_all, tables_opened}
use Rattle.posting_rules.specs.believed.Commands.{Terms}
use Rattle.posting_rules.specs.believed.Counter.{opening_for}
use Rattle.posting_rules.specs.believed.Kept.{KeptFields}
use Rattle.posting_rules.specs.believed.LookUps.{account_balance_in, balance_of_branch, floor_in, kept_in, lowest_of}
use Rattle.posting_rules.specs.believed.LookUps.{teller_balances_in, text_of_reference}
use Rattle.posting_rules.specs.believed.Numbering.{branch_of_account, branch_of_teller}
use Rattle.posting_rules.specs.believed.Tables.{Tables, branch_key, row_at}
use Rattle.posting_rules.specs.declared.fault.Rule.{Rule}
use Rattle.posting_rules.specs.declared.judgments.Found.{Found}
use Rattle.posting_rules.specs.declared.counter.Opening.{Opening}
use Rattle.posting_rules.specs.declared.counter.Opening.TheVariants.{Opened}
use Rattle.posting_rules.specs.declared.rows.RequestRow.{RequestRow}
use Rattle.sql_meanings.specs.believed.Entries.{Entry, has_two}
use Rattle.store_rows.specs.believed.Columns.{meta_in}
use Rattle.store_rows.specs.believed.Readings.{read_balance, read_branch, read_closing, read_floor, read_reference}
use Rattle.store_rows.specs.believed.Readings.{read_request}
use Rattle.store_rows.specs.believed.Rules.{AccountFits, IsAbove, OfRows, StoredRows, TellerFits, branch_under}
use Rattle.store_rows.specs.believed.Rules.{floor_under, row_under}
use Rattle.store_rows.specs.believed.Stored.{FindsStored}
use Rattle.store_rows.specs.believed.View.{Shows}
use Rattle.posting_batch.specs.believed.Batch.{HasFreeOrdinals}
use Rattle.bank_transactions.specs.believed.Batches.{DecidesNone}
use Rattle.posting_rules.specs.believed.Closings.{books_of, is_closed_in, meets}
use Rattle.posting_rules.specs.declared.rows.ClosingRow.{ClosingRow}

-- the balance that the account's row has, none where it has no row; and it has one just where its branch's
-- count says so
pub record IsStoredBalance (db : Database) (account : ℕ) (balance : Option ℤ) : Type 0 where
  pub found : OfRows (λ rows.
      FindsStored (row_under rows.accounts account) read_balance (Ok balance)) db
  pub fits : OfRows (λ rows. AccountFits rows account) db

-- a part of what a stored row reads as, none where there is no row
abbrev pub HoldsPart : {X Y : Type 0} → Option Entry → (Entry → Result X Rule) → (X → Y) → Option Y → Type 0
HoldsPart stored read part None = stored ≡ None
HoldsPart {X} stored read part (Some y) =
    (r : Entry) × (x : X) × (stored ≡ Some r) × (read r ≡ Ok x) × (y ≡ part x)

-- the balances of a teller's row and of its branch's, none where the teller has no row
abbrev pub HoldsTeller : StoredRows → ℕ → Option (ℤ × ℤ) → Type 0
HoldsTeller rows teller None = row_under rows.tellers teller ≡ None
HoldsTeller rows teller (Some balances) =
    FindsStored (row_under rows.tellers teller) read_balance (Ok (Some balances.0))
    × HoldsPart (branch_under rows (branch_of_teller teller)) read_branch balance_of_branch (Some balances.1)

-- the balances of a teller and of its branch as their rows have them, none where the teller has no row; and it
-- has one just where its branch does
pub record IsStoredTeller (db : Database) (teller : ℕ) (balances : Option (ℤ × ℤ)) : Type 0 where
  pub found : OfRows (λ rows. HoldsTeller rows teller balances) db
  pub fits : OfRows (λ rows. TellerFits rows teller) db

-- the floor of a branch's row, none where it has none
abbrev pub HoldsFloor : StoredRows → ℕ → Option ℤ → Type 0
HoldsFloor rows branch = HoldsPart (floor_under rows branch) read_floor lowest_of

-- whatever rows the database holds
abbrev pub IsStoredFloor : Database → ℕ → Option ℤ → Type 0
IsStoredFloor db branch floor = OfRows (λ rows. HoldsFloor rows branch floor) db

-- the reference in the row under an ordinal, none where there is no such row
abbrev pub HoldsReference : StoredRows → ℕ → Option (List ℕ) → Type 0
HoldsReference rows ordinal = HoldsPart (row_under rows.references ordinal) read_reference text_of_reference

-- the row of a teller's request under its number has this decision, and the row under its ordinal this
-- reference; none where there is no row of such a request
abbrev pub HoldsKept : StoredRows → ℕ → ℕ → Option KeptFields → Type 0
HoldsKept rows teller number None = find (has_two (pos teller) (pos number)) rows.requests ≡ None
HoldsKept rows teller number (Some kept) =
    (r : Entry) × (row : RequestRow) × (find (has_two (pos teller) (pos number)) rows.requests ≡ Some r)
    × (read_request r ≡ Ok row) × (kept.decision ≡ row.decision) × HoldsReference rows row.ordinal kept.reference

-- the bank's row of `meta` counts so many decided requests
abbrev pub HoldsDecided : StoredRows → ℕ → Type 0
HoldsDecided rows decided =
    (version : ℤ) × (meta_in rows.meta ≡ Some (record { version = version; decided = pos decided }))

-- a row of closed numbers can be read, and this number is among them
abbrev pub is_read : Result ClosingRow Rule → Bool
is_read (Ok r) = true
is_read (Err rule) = false

abbrev pub is_among : ℕ → Result ClosingRow Rule → Bool
is_among x (Ok r) = meets x x r
is_among x (Err rule) = false

-- the rows from the key 0 of the seal on
abbrev pub closing_rows : List Entry → List (Result ClosingRow Rule)
closing_rows rows = map read_closing (filter (λ e. is_ge (int_cmp e.key (pos 0))) rows)

-- each of them can be read, and these runs have the numbers that they close
pub record HasNumbers (rows : List Entry) (runs : List ClosingRow) : Type 0 where
  pub read : list_all is_read (closing_rows rows) ≡ true
  pub numbers : (x : ℕ) → is_closed_in runs x ≡ list_any (is_among x) (closing_rows rows)

abbrev pub HoldsNumbers : StoredRows → List ClosingRow → Type 0
HoldsNumbers rows runs = HasNumbers rows.closings runs

-- what is found for a request is what the rows of its teller, its account, the account's branch, its teller
-- and number with the ordinal there, and the bank hold; and its account isn't below the floor there
pub record IsStoredFound (db : Database) (r : RequestFields) (found : Found) : Type 0 where
  pub teller : IsStoredTeller db r.teller found.teller
  pub account : IsStoredBalance db r.account found.account
  pub above : OfRows (λ rows. IsAbove rows r.account) db
  pub floor : IsStoredFloor db (branch_of_account r.account) found.floor
  pub kept : OfRows (λ rows. HoldsKept rows r.teller r.number found.kept) db
  pub decided : OfRows (λ rows. HoldsDecided rows found.decided) db
  -- and what closed books say of its number is by the numbers that the rows close
  pub runs : List ClosingRow
  pub closed : OfRows (λ rows. HoldsNumbers rows runs) db
  pub books : found.books ≡ books_of runs r.teller r.number

-- the reply is that of the case which applies to what the rows hold; where the request is kept, all is as it was
pub record RepliesToStored (old new : Database) (r : RequestFields) (reply : List ℕ) : Type 0 where
  pub found : Found
  pub stored : IsStoredFound old r found
  pub is : reply ≡ reply_spelling (reply_in (case_of found r) r)
  pub stays : IsSome found.kept → new ≡ old

-- ---- an opening

-- what the rows of a branch and of its floor say that it was opened with, none where neither has a row
abbrev pub HoldsTerms : StoredRows → ℕ → Option Terms → Type 0
HoldsTerms rows branch None = (branch_under rows branch ≡ None) × (floor_under rows branch ≡ None)
HoldsTerms rows branch (Some terms) =
    HoldsPart (branch_under rows branch) read_branch (λ r. r.accounts) (Some terms.accounts)
    × HoldsFloor rows branch terms.floor

-- The answer is `Opened` where the branch and its floor have no row, `Already` where the rows have these terms, and `Differs`
-- where they have others.
pub record AnswersStored (db : Database) (branch : ℕ) (terms : Terms) (opening : Opening) : Type 0 where
  pub first : Option Terms
  pub stored : OfRows (λ rows. HoldsTerms rows branch first) db
  pub is : opening ≡ opening_for first terms

-- So is the answer to an opening. Unless it is `Opened`, all is as it was; and if it is, whatever tables there
-- were have the branch then, with its tellers, its accounts and its floor.
pub record OpensByStored (old new : Database) (branch : ℕ) (terms : Terms) (opening : Opening) : Type 0 where
  pub answers : AnswersStored old branch terms opening
  pub stays : opening ≢ Opened → new ≡ old
  pub opens : opening ≡ Opened → (t : Tables) → Shows old t → Shows new (tables_opened t branch terms)

-- the balance that an account's row has, none where it has no row; it has one just where its branch's count says
-- so; and it isn't below the floor of its branch
pub record HoldsAccount (rows : StoredRows) (account : ℕ) (balance : Option ℤ) : Type 0 where
  pub found : FindsStored (row_under rows.accounts account) read_balance (Ok balance)
  pub fits : AccountFits rows account
  pub above : IsAbove rows account

-- the tables have under the keys of a request what the rows hold there
pub record HasStored (rows : StoredRows) (t : Tables) (r : RequestFields) : Type 0 where
  -- the balances of its teller and of the teller's branch
  pub teller : HoldsTeller rows r.teller (teller_balances_in t r.teller)
  pub teller_fits : TellerFits rows r.teller
  -- the balance of its account
  pub account : HoldsAccount rows r.account (account_balance_in t r.account)
  -- the row of its account's branch, and its floor
  pub branch : FindsStored (branch_under rows (branch_of_account r.account)) read_branch
      (Ok (row_at branch_key t.branches (branch_of_account r.account)))
  pub floor : HoldsFloor rows (branch_of_account r.account) (floor_in t (branch_of_account r.account))
  -- the request that is kept under its teller and number, with its reference
  pub kept : HoldsKept rows r.teller r.number (kept_in t.requests t.references r.teller r.number)

-- what was read is no request, or the tables have what it asks for
abbrev pub HasRead : StoredRows → Tables → Result RequestFields Bad → Type 0
HasRead rows t (Err fault) = ⊤
HasRead rows t (Ok r) = HasStored rows t r

-- The replies are those to the records one after another, each on what the ones before it left, in tables that
-- had what the rows hold: under the keys of each request, of how many are decided, and of closed numbers. The ordinals that follow were
-- free there. Where none of the records is decided there, all is as it was.
pub record RepliesToAllStored (old new : Database) (moment : ℕ) (records replies : List (List ℕ)) : Type 0 where
  pub tables : Tables
  pub stored : OfRows (λ rows. AllByRecursion (λ bytes. HasRead rows tables (request_of bytes)) records
      × HoldsDecided rows tables.decided) old
  pub free : HasFreeOrdinals tables (length records)
  pub closed : OfRows (λ rows. HoldsNumbers rows tables.closings) old
  pub are : replies ≡ replies_past_all tables moment records
  pub stays : DecidesNone tables moment records → new ≡ old
