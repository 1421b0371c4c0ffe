-- What a sheet states: a text of CSV with a header, and a posting in each row after it.
use Rattle.std.specs.Prelude.{◌+◌, ◌-◌, ◌*◌, ◌==◌, ◌&&◌, Bool, ℕ, zero, suc, ℤ, pos, negsuc, List, [], ◌∷◌, ◌++◌}
use Rattle.std.specs.Prelude.{Option, Some, None, Result, Ok, Err, length, bytes_eq, codes, drop, nat_eq, nat_le, take}
use Rattle.std.specs.Prelude.{if◌then◌else◌, option_and_then, option_map, unwrap_or}
use Rattle.std.specs.Option.{ok_or}
use Rattle.csv.specs.Reading.{default_config, records, strip_bom}
use Rattle.csv.specs.Records.{field_at}
use Rattle.message_records.specs.believed.Ranges.{whole_within}
use Rattle.message_records.specs.believed.Reading.{number_of, ◌>>=◌}
use Rattle.message_records.specs.believed.Records.{RequestFields, reference_from}
use Rattle.message_records.specs.believed.Spelling.{filled}
use Rattle.message_records.specs.declared.limits.TheConstants.{MAX_ACCOUNT, MAX_BRANCH, MAX_NUMBER, MAX_TELLER}
use Rattle.message_records.specs.declared.limits.TheConstants.{REFERENCE_BYTES}
use Rattle.posting_rules.specs.believed.Numbering.{branch_of_teller}
use Rattle.branch_loader.specs.Records.{Fields, Records}
use Rattle.posting_sheets.specs.SheetFaults.{faulty_at}
use Rattle.posting_sheets.specs.declared.form.Form.{Form}
use Rattle.posting_sheets.specs.declared.money.Money.{Money}
use Rattle.posting_sheets.specs.declared.money.Money.TheVariants.{Cents, Decimals}
use Rattle.posting_sheets.specs.declared.fault.BadRow.{BadRow}
use Rattle.posting_sheets.specs.declared.fault.Column.TheVariants.{Columns, Account, Teller, Number, Delta}
use Rattle.posting_sheets.specs.declared.fault.Column.{Column}
use Rattle.posting_sheets.specs.declared.fault.Column.TheVariants.{Amount, Branch, Reference}
use Rattle.posting_sheets.specs.declared.fault.SheetFault.{SheetFault}
use Rattle.posting_sheets.specs.declared.fault.SheetFault.TheVariants.{Header, Row}

-- ---- the columns

-- the field at a place, which is empty where the record has none there
abbrev pub field : ℕ → Fields → List ℕ
field place fields = unwrap_or (field_at fields place) []

-- the fourth column's name says how the rows write money: in cents, or in decimals
abbrev pub money_named : List ℕ → Option Money
money_named name =
    if bytes_eq name (codes "delta") then Some Cents
    else if bytes_eq name (codes "amount") then Some Decimals
    else None

-- and that column is called so
abbrev pub money_column : Money → Column
money_column Cents = Delta
money_column Decimals = Amount

-- the four columns that each sheet has, and then a branch, a reference, or both; the place of one that isn't there
-- is after the last
abbrev pub plain : Money → Form
plain money = record { money = money; columns = 4; branch = 4; reference = 4 }

abbrev pub has_branch : Money → Form
has_branch money = record { money = money; columns = 5; branch = 4; reference = 5 }

abbrev pub has_reference : Money → Form
has_reference money = record { money = money; columns = 5; branch = 5; reference = 4 }

abbrev pub has_both : Money → Form
has_both money = record { money = money; columns = 6; branch = 4; reference = 5 }

-- the record is the header of a form whose last columns have these names, whatever its fourth is called; one that
-- isn't there has none
abbrev pub is_header : Form → (branch reference : List ℕ) → Fields → Bool
is_header form branch reference fields =
    nat_eq (length fields) form.columns
    && (bytes_eq (field 0 fields) (codes "account")
    && (bytes_eq (field 1 fields) (codes "teller")
    && (bytes_eq (field 2 fields) (codes "number")
    && (bytes_eq (field form.branch fields) branch
    && bytes_eq (field form.reference fields) reference))))

-- the form of rows that write money so whose header the record is
abbrev pub form_with : Fields → Money → Option Form
form_with fields money =
    if is_header (plain money) [] [] fields then Some (plain money)
    else if is_header (has_branch money) (codes "branch") [] fields then Some (has_branch money)
    else if is_header (has_reference money) [] (codes "reference") fields then Some (has_reference money)
    else if is_header (has_both money) (codes "branch") (codes "reference") fields then Some (has_both money)
    else None

-- the form whose header the record is
abbrev pub form_of : Fields → Option Form
form_of fields = option_and_then (form_with fields) (money_named (field 3 fields))

-- ---- the fields of a row

-- the number that 1 to so many digits write
abbrev pub number_up_to : ℕ → List ℕ → Option ℕ
number_up_to most digits =
    if nat_le 1 (length digits) && nat_le (length digits) most then number_of digits else None

-- the number from 1 on that 1 to 12 digits write
abbrev pub number_within : ℕ → List ℕ → Option ℕ
number_within most digits = option_and_then (whole_within 1 most) (number_up_to 12 digits)

abbrev pub below_zero : ℕ → ℤ
below_zero zero = pos 0
below_zero (suc n) = negsuc n

-- the cents of a decimal without a sign, of which these bytes are the last three: 1 to 8 digits, and then nothing, or
-- a point and two digits
abbrev pub cents_by : (text last : List ℕ) → Option ℕ
cents_by text [] = None
cents_by text (point ∷ cents) =
    if point == 46 && nat_eq (length cents) 2
    then option_and_then (λ n. option_map (λ c. n * 100 + c) (number_up_to 2 cents))
    (number_up_to 8 (take (length text - 3) text))
    else option_map (λ n. n * 100) (number_up_to 8 text)

abbrev pub cents_of : List ℕ → Option ℕ
cents_of text = cents_by text (drop (length text - 3) text)

-- the cents that are written so, without a sign: in cents they are 1 to 10 digits
abbrev pub cents_written : Money → List ℕ → Option ℕ
cents_written Cents text = number_up_to 10 text
cents_written Decimals text = cents_of text

-- the amount that is written so, with a sign or without one
abbrev pub delta_of : Money → List ℕ → Option ℤ
delta_of money [] = None
delta_of money (c ∷ cs) =
    if c == 45 then option_map below_zero (cents_written money cs)
    else if c == 43 then option_map (λ n. pos n) (cents_written money cs)
    else option_map (λ n. pos n) (cents_written money (c ∷ cs))

-- the branch that a field writes, and that of the teller where it is empty
abbrev pub branch_of : ℕ → List ℕ → Option ℕ
branch_of teller [] = whole_within 1 MAX_BRANCH (branch_of_teller teller)
branch_of teller (c ∷ cs) = number_within MAX_BRANCH (c ∷ cs)

-- the reference that a field is, filled with spaces, and none where it is empty
abbrev pub reference_of : List ℕ → Option (Option (List ℕ))
reference_of [] = Some None
reference_of (c ∷ cs) =
    if nat_le (length (c ∷ cs)) REFERENCE_BYTES
    then option_map Some (reference_from (filled REFERENCE_BYTES (c ∷ cs)))
    else None

-- the request that the fields of a row state, or the first that is wrong
unfoldable pub request_of_fields : Form → Fields → Result RequestFields BadRow
request_of_fields form fields = do
  account ← ok_or (number_within MAX_ACCOUNT (field 0 fields)) (faulty_at Account (field 0 fields))
  teller ← ok_or (number_within MAX_TELLER (field 1 fields)) (faulty_at Teller (field 1 fields))
  number ← ok_or (number_within MAX_NUMBER (field 2 fields)) (faulty_at Number (field 2 fields))
  delta ← ok_or (delta_of form.money (field 3 fields)) (faulty_at (money_column form.money) (field 3 fields))
  branch ← ok_or (branch_of teller (field form.branch fields)) (faulty_at Branch (field form.branch fields))
  reference ←
      ok_or (reference_of (field form.reference fields)) (faulty_at Reference (field form.reference fields))
  Ok (record {
    account = account;
    teller = teller;
    branch = branch;
    number = number;
    delta = delta;
    reference = reference;
  })

-- the request that a row states
abbrev pub request_of_row : Form → Fields → Result RequestFields BadRow
request_of_row form fields =
    if nat_eq (length fields) form.columns then request_of_fields form fields else Err (faulty_at Columns [])

-- ---- the sheet

-- the requests of a sheet up to its first fault, and that fault, if there is one
pub record Sheet : Type 0 where
  pub requests : List RequestFields
  pub fault : Option SheetFault

-- the requests before, and those that rows state after them, one by one
unfoldable pub sheet_by : Form → List RequestFields → Records → Sheet
sheet_by form before [] = record { requests = before; fault = None }
sheet_by form before (x ∷ rest) =
    elim (request_of_row form x) [
      | Ok r ↦ sheet_by form (before ++ r ∷ []) rest
      | Err bad ↦ record { requests = before; fault = Some (Row (length before + 1) bad) }
    ]

-- the rows after a header
abbrev pub sheet_after : Option Form → Records → Sheet
sheet_after None rest = record { requests = []; fault = Some Header }
sheet_after (Some form) rest = sheet_by form [] rest

-- the sheet that records state, the header first
unfoldable pub sheet_of_records : Records → Sheet
sheet_of_records [] = record { requests = []; fault = Some Header }
sheet_of_records (first ∷ rest) = sheet_after (form_of first) rest

-- the sheet that a text states: csv's records of it, a byte order mark dropped
abbrev pub sheet_of : List ℕ → Sheet
sheet_of text = sheet_of_records (records default_config (strip_bom text))
