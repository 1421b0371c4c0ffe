-- The rows of a bank's tables as a file holds them, whatever values they have, and the ten rules that the
-- rows of a bank keep.
use Rattle.std.specs.Prelude.{◌≡◌, ◌≢◌, ◌≤◌, ◌<◌, ◌≤ℤ◌, ◌+◌, ℕ, ℤ, pos, List, [], ◌∷◌, find, Option}
use Rattle.std.specs.Prelude.{Some, None, Result, Err, option_and_then, IsSome, ⊤}
use Rattle.std.specs.List.{AllByRecursion}
use Rattle.sqlite.specs.Effect.{Database, IsDatabase}
use Rattle.message_records.specs.believed.Ranges.{whole_within}
use Rattle.message_records.specs.declared.limits.TheConstants.{MAX_ACCOUNT, MAX_BRANCH, MAX_TELLER}
use Rattle.posting_rules.specs.believed.Numbering.{branch_of_teller, branch_of_account, place_of_account}
use Rattle.posting_rules.specs.declared.fault.Rule.{Rule}
use Rattle.posting_rules.specs.declared.fault.Rule.TheVariants.{Meta, Teller, Account, Balance, Key}
use Rattle.posting_rules.specs.declared.limits.TheConstants.{MAX_DECIDED, RECORDS_PER_BATCH}
use Rattle.sql_meanings.specs.believed.Contents.{HoldsEach}
use Rattle.sql_meanings.specs.believed.Entries.{Entry, has_key}
use Rattle.store_rows.specs.believed.Columns.{number_at}
use Rattle.store_rows.specs.believed.BankTables.{bank_tables}
use Rattle.store_rows.specs.believed.Readings.{read_account, read_branch, read_floor, read_posting, read_reference}
use Rattle.store_rows.specs.believed.Readings.{read_closing, read_request, read_teller}
use Rattle.store_rows.specs.declared.metas.TheConstants.{META_ID}

-- ---- what a file holds

-- the rows of each table, whatever values they have
pub record StoredRows : Type 0 where
  pub meta : List Entry
  pub branches : List Entry
  pub tellers : List Entry
  pub accounts : List Entry
  pub history : List Entry
  pub requests : List Entry
  pub floors : List Entry
  pub references : List Entry
  pub closings : List Entry

-- in the order of `bank_tables`
abbrev pub stored_lists : StoredRows → List (List Entry)
stored_lists rows =
    rows.meta ∷ rows.branches ∷ rows.tellers ∷ rows.accounts ∷ rows.history ∷ rows.requests ∷ rows.floors
    ∷ rows.references ∷ rows.closings ∷ []

-- a sound database defines the tables of a bank and holds these rows by rising keys, whatever else it has
pub record HoldsBank (db : Database) (rows : StoredRows) : Type 0 where
  pub sound : ∥ IsDatabase db ∥₁
  pub each : HoldsEach db bank_tables (stored_lists rows)

-- the row under a number
abbrev pub row_under : List Entry → ℕ → Option Entry
row_under rows n = find (has_key (pos n)) rows

-- the row of a branch: a number that is none of branches has none
abbrev pub branch_under : StoredRows → ℕ → Option Entry
branch_under rows n = option_and_then (row_under rows.branches) (whole_within 1 MAX_BRANCH n)

-- the row of a branch's floor: the same
abbrev pub floor_under : StoredRows → ℕ → Option Entry
floor_under rows n = option_and_then (row_under rows.floors) (whole_within 1 MAX_BRANCH n)

-- ---- rows that keep a rule

-- none of them reads as breaking it
abbrev pub NoneBreaks : {X : Type 0} → Rule → (Entry → Result X Rule) → List Entry → Type 0
NoneBreaks rule read = AllByRecursion (λ e. read e ≢ Err rule)

-- nor does a row of any table
pub record EachKeeps (rule : Rule) (rows : StoredRows) : Type 0 where
  pub branches : NoneBreaks rule read_branch rows.branches
  pub tellers : NoneBreaks rule read_teller rows.tellers
  pub accounts : NoneBreaks rule read_account rows.accounts
  pub history : NoneBreaks rule read_posting rows.history
  pub requests : NoneBreaks rule read_request rows.requests
  pub floors : NoneBreaks rule read_floor rows.floors
  pub references : NoneBreaks rule read_reference rows.references
  pub closings : NoneBreaks rule read_closing rows.closings

-- the account isn't below the floor of its branch, where it has one
abbrev pub IsAbove : StoredRows → ℕ → Type 0
IsAbove rows n = (account floor : Entry) → row_under rows.accounts n ≡ Some account
    → floor_under rows (branch_of_account n) ≡ Some floor → number_at 0 floor ≤ℤ number_at 0 account

abbrev pub AreAbove : StoredRows → Type 0
AreAbove rows = (n : ℕ) → 1 ≤ n → n ≤ MAX_ACCOUNT → IsAbove rows n

-- `meta` has exactly one row, and this many requests are decided
abbrev pub HasDecided : StoredRows → ℕ → Type 0
HasDecided rows decided = (version : ℤ)
    × (rows.meta ≡ record { key = pos META_ID; values = version ∷ pos decided ∷ []; texts = [] } ∷ [])

-- the place of an account is within its branch's count
abbrev pub IsWithinCount : StoredRows → ℕ → Type 0
IsWithinCount rows n = (branch : Entry) × (branch_under rows (branch_of_account n) ≡ Some branch)
    × (pos (place_of_account n) ≤ℤ number_at 0 branch)

-- the teller has a row just where its branch has one
abbrev pub TellerFits : StoredRows → ℕ → Type 0
TellerFits rows n = (IsSome (row_under rows.tellers n) → IsSome (branch_under rows (branch_of_teller n)))
    × (IsSome (branch_under rows (branch_of_teller n)) → IsSome (row_under rows.tellers n))

abbrev pub TellersFit : StoredRows → Type 0
TellersFit rows = (n : ℕ) → 1 ≤ n → n ≤ MAX_TELLER → TellerFits rows n

-- the account has a row just where its place is within its branch's count
abbrev pub AccountFits : StoredRows → ℕ → Type 0
AccountFits rows n = (IsSome (row_under rows.accounts n) → IsWithinCount rows n)
    × (IsWithinCount rows n → IsSome (row_under rows.accounts n))

abbrev pub AccountsFit : StoredRows → Type 0
AccountsFit rows = (n : ℕ) → 1 ≤ n → n ≤ MAX_ACCOUNT → AccountFits rows n

-- one of the next ordinals that a call may take
abbrev pub IsNext : ℕ → ℕ → Type 0
IsNext decided n = (decided < n) × (n ≤ decided + RECORDS_PER_BATCH)

-- no key of a row that a call would add is taken: none of the next ordinals, as many as a batch has records,
-- and no teller, no account and no floor of a branch that isn't there
pub record AreFree (rows : StoredRows) : Type 0 where
  pub requests : (decided n : ℕ) → HasDecided rows decided → IsNext decided n → row_under rows.requests n ≡ None
  pub postings : (decided n : ℕ) → HasDecided rows decided → IsNext decided n → row_under rows.history n ≡ None
  pub references : (decided n : ℕ) → HasDecided rows decided → IsNext decided n
      → row_under rows.references n ≡ None
  pub tellers : (n : ℕ) → 1 ≤ n → branch_under rows (branch_of_teller n) ≡ None
      → row_under rows.tellers n ≡ None
  pub accounts : (n : ℕ) → 1 ≤ n → branch_under rows (branch_of_account n) ≡ None
      → row_under rows.accounts n ≡ None
  pub floors : (n : ℕ) → branch_under rows n ≡ None → row_under rows.floors n ≡ None

-- what a rule says of several rows
abbrev pub KeepsTogether : Rule → StoredRows → Type 0
KeepsTogether Meta rows = (decided : ℕ) × HasDecided rows decided × (decided ≤ MAX_DECIDED)
KeepsTogether Teller rows = TellersFit rows
KeepsTogether Account rows = AccountsFit rows
KeepsTogether Balance rows = AreAbove rows
KeepsTogether Key rows = AreFree rows
KeepsTogether _ rows = ⊤

-- the ten rules
abbrev pub KeepsRule : Rule → StoredRows → Type 0
KeepsRule rule rows = EachKeeps rule rows × KeepsTogether rule rows

-- ---- a file that breaks a rule

-- of whatever rows a file holds
abbrev pub OfRows : (StoredRows → Type 0) → Database → Type 0
OfRows P db = (rows : StoredRows) → HoldsBank db rows → P rows

-- The rows that the file holds don't keep the rule. Rule 7 is of the keys of new rows: no row reads as breaking it, and
-- that a key is taken is met by the INSERT of its row alone (`HasMet`).
abbrev pub IsBroken : Rule → Database → Type 0
IsBroken Key db = OfRows (λ rows. ¬ EachKeeps Key rows) db
IsBroken rule db = OfRows (λ rows. ¬ KeepsRule rule rows) db
