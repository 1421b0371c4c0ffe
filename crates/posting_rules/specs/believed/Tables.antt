-- The tables of a bank, and the rows that a log leads to.
use Rattle.std.specs.Prelude.{◌≡◌, ℕ, ◌+◌, ℤ, List, [], ◌∷◌, length, map, Option, Some, None, ◌==◌, ◌&&◌}
use Rattle.std.specs.Prelude.{if◌then◌else◌, nat_eq}
use Rattle.std.specs.List.{find, IsDistinct}
use Rattle.std.specs.Option.{option_map}
use Rattle.posting_rules.specs.declared.rows.BranchRow.{BranchRow}
use Rattle.posting_rules.specs.declared.rows.TellerRow.{TellerRow}
use Rattle.posting_rules.specs.declared.rows.AccountRow.{AccountRow}
use Rattle.posting_rules.specs.declared.rows.HistoryRow.{HistoryRow}
use Rattle.posting_rules.specs.declared.rows.RequestRow.{RequestRow}
use Rattle.posting_rules.specs.declared.rows.FloorRow.{FloorRow}
use Rattle.posting_rules.specs.declared.rows.ReferenceRow.{ReferenceRow}
use Rattle.posting_rules.specs.declared.rows.ClosingRow.{ClosingRow}
use Rattle.posting_rules.specs.believed.Commands.{Command, Terms, opened, is_teller_open, is_account_open, floor_of}
use Rattle.posting_rules.specs.believed.Closings.{closings}
use Rattle.posting_rules.specs.believed.Entries.{DecidedRequest, is_posted, account_balance, teller_balance}
use Rattle.posting_rules.specs.believed.Entries.{branch_balance}
use Rattle.posting_rules.specs.believed.Entries.{decision_of, decided}

pub record Tables : Type 0 where
  -- how many requests are decided
  pub decided : ℕ
  pub branches : List BranchRow
  pub tellers : List TellerRow
  pub accounts : List AccountRow
  pub history : List HistoryRow
  pub requests : List RequestRow
  pub floors : List FloorRow
  pub references : List ReferenceRow
  pub closings : List ClosingRow

-- the row under a key
abbrev pub row_at : {R : Type 0} → (R → ℕ) → List R → ℕ → Option R
row_at key rows k = find (λ r. key r == k) rows

-- no two rows have one key
abbrev pub HasKeys : {R : Type 0} → (R → ℕ) → List R → Type 0
HasKeys key rows = IsDistinct nat_eq (map key rows)

abbrev pub branch_key : BranchRow → ℕ
branch_key r = r.branch

abbrev pub teller_key : TellerRow → ℕ
teller_key r = r.teller

abbrev pub account_key : AccountRow → ℕ
account_key r = r.account

abbrev pub history_key : HistoryRow → ℕ
history_key r = r.ordinal

abbrev pub request_key : RequestRow → ℕ
request_key r = r.ordinal

abbrev pub floor_key : FloorRow → ℕ
floor_key r = r.branch

abbrev pub reference_key : ReferenceRow → ℕ
reference_key r = r.ordinal

abbrev pub closing_key : ClosingRow → ℕ
closing_key r = r.last

-- ---- the rows that a log leads to, by what is open and what is decided

abbrev pub branch_row_of : ℕ → ℤ → Terms → BranchRow
branch_row_of b balance terms = record { branch = b; accounts = terms.accounts; balance = balance }

abbrev pub branch_row : (ℕ → Option Terms) → List DecidedRequest → ℕ → Option BranchRow
branch_row opened es b = option_map (branch_row_of b (branch_balance es b)) (opened b)

abbrev pub teller_row_of : ℕ → ℤ → TellerRow
teller_row_of t balance = record { teller = t; balance = balance }

abbrev pub teller_row : (ℕ → Option Terms) → List DecidedRequest → ℕ → Option TellerRow
teller_row opened es t = if is_teller_open opened t then Some
    (teller_row_of t (teller_balance es t)) else None

abbrev pub account_row_of : ℕ → ℤ → AccountRow
account_row_of a balance = record { account = a; balance = balance }

abbrev pub account_row : (ℕ → Option Terms) → List DecidedRequest → ℕ → Option AccountRow
account_row opened es a = if is_account_open opened a then Some
    (account_row_of a (account_balance es a)) else None

-- a decided request stands under its ordinal: how many were decided with it
abbrev pub request_row_of : ℕ → DecidedRequest → RequestRow
request_row_of ordinal e = record {
  ordinal = ordinal;
  teller = e.request.teller;
  number = e.request.number;
  decision = decision_of e;
}

abbrev pub request_row : List DecidedRequest → ℕ → Option RequestRow
request_row [] o = None
request_row (e ∷ es) o = if length es + 1 == o then Some (request_row_of o e) else request_row es o

-- a posting stands in the history under the same ordinal (TPC-B 1.2)
abbrev pub history_row_of : ℕ → DecidedRequest → HistoryRow
history_row_of ordinal e = record {
  ordinal = ordinal;
  account = e.request.account;
  teller = e.request.teller;
  branch = e.request.branch;
  delta = e.request.delta;
  moment = e.moment;
}

abbrev pub history_row : List DecidedRequest → ℕ → Option HistoryRow
history_row [] o = None
history_row (e ∷ es) o = if (is_posted e && (length es + 1 == o)) then Some
    (history_row_of o e) else history_row es o

-- a branch has a row of floors where it was opened with a floor
abbrev pub floor_row_of : ℕ → ℤ → FloorRow
floor_row_of b lowest = record { branch = b; lowest = lowest }

abbrev pub floor_row : (ℕ → Option Terms) → ℕ → Option FloorRow
floor_row opened b = option_map (floor_row_of b) (floor_of opened b)

-- a decided request has a row of references, under its ordinal, where it came with one
abbrev pub reference_row_of : ℕ → List ℕ → ReferenceRow
reference_row_of ordinal text = record { ordinal = ordinal; reference = text }

abbrev pub reference_row : List DecidedRequest → ℕ → Option ReferenceRow
reference_row [] o = None
reference_row (e ∷ es) o = if length es + 1 == o then option_map
    (reference_row_of o) e.request.reference else reference_row es o

-- the tables have these rows and no others, in whatever order
pub record HasRows (tables : Tables) (opened : ℕ → Option Terms) (runs : List ClosingRow)
    (es : List DecidedRequest) : Type 0 where
  pub decided : tables.decided ≡ length es
  pub branches : (b : ℕ) → row_at branch_key tables.branches b ≡ branch_row opened es b
  pub tellers : (t : ℕ) → row_at teller_key tables.tellers t ≡ teller_row opened es t
  pub accounts : (a : ℕ) → row_at account_key tables.accounts a ≡ account_row opened es a
  pub history : (o : ℕ) → row_at history_key tables.history o ≡ history_row es o
  pub requests : (o : ℕ) → row_at request_key tables.requests o ≡ request_row es o
  pub floors : (b : ℕ) → row_at floor_key tables.floors b ≡ floor_row opened b
  pub references : (o : ℕ) → row_at reference_key tables.references o ≡ reference_row es o
  pub closings : (x : ℕ) → row_at closing_key tables.closings x ≡ row_at closing_key runs x
  pub branch_keys : HasKeys branch_key tables.branches
  pub teller_keys : HasKeys teller_key tables.tellers
  pub account_keys : HasKeys account_key tables.accounts
  pub history_keys : HasKeys history_key tables.history
  pub request_keys : HasKeys request_key tables.requests
  pub floor_keys : HasKeys floor_key tables.floors
  pub reference_keys : HasKeys reference_key tables.references
  pub closing_keys : HasKeys closing_key tables.closings

-- the tables are those of the log
pub record AreTablesOf (tables : Tables) (log : List Command) : Type 0 where
  pub rows : HasRows tables (λ b. opened log b) (closings log) (decided log)
