-- What the columns of a row are read as: its typed values, or the first rule from the left that one breaks.
use Rattle.std.specs.Prelude.{◌*◌, ℕ, ℤ, pos, negsuc, List, [], ◌∷◌, Result, Ok, Err, if◌then◌else◌}
use Rattle.std.specs.Prelude.{int_lt}
use Rattle.std.specs.Option.{ok_or}
use Rattle.sqlite.specs.Order.{Row, column}
use Rattle.sqlite.specs.declared.types.Value.{Value}
use Rattle.sqlite.specs.declared.types.Value.TheVariants.{Int, Text}
use Rattle.message_records.specs.believed.Outcomes.{outcome_with}
use Rattle.message_records.specs.believed.Ranges.{cents_within, whole_within}
use Rattle.message_records.specs.believed.Reading.{◌>>=◌}
use Rattle.message_records.specs.believed.Records.{reference_from}
use Rattle.message_records.specs.declared.limits.TheConstants.{MAX_ACCOUNT, MAX_BALANCE, MAX_BRANCH, MAX_DELTA}
use Rattle.message_records.specs.declared.limits.TheConstants.{MAX_MOMENT, MAX_NUMBER, MAX_TELLER}
use Rattle.message_records.specs.declared.records.Outcome.{Outcome}
use Rattle.posting_rules.specs.believed.Kept.{DecisionFields, is_kept_with}
use Rattle.posting_rules.specs.declared.fault.Rule.{Rule}
use Rattle.posting_rules.specs.believed.Closings.{is_closing, run_of}
use Rattle.posting_rules.specs.declared.fault.Rule.TheVariants.{Balance, Closing, Floor, Reference, Request}
use Rattle.posting_rules.specs.declared.fault.Rule.TheVariants.{Value as OfValue}
use Rattle.posting_rules.specs.declared.limits.TheConstants.{ACCOUNTS_PER_BRANCH, LAST_BRANCH, LAST_KEY, MAX_ACCOUNTS}
use Rattle.posting_rules.specs.declared.limits.TheConstants.{MAX_DECIDED, TELLERS_PER_BRANCH}
use Rattle.posting_rules.specs.declared.rows.AccountRow.{AccountRow}
use Rattle.posting_rules.specs.declared.rows.BranchRow.{BranchRow}
use Rattle.posting_rules.specs.declared.rows.ClosingRow.{ClosingRow}
use Rattle.posting_rules.specs.declared.rows.FloorRow.{FloorRow}
use Rattle.posting_rules.specs.declared.rows.ReferenceRow.{ReferenceRow}
use Rattle.posting_rules.specs.declared.rows.RequestRow.{RequestRow}
use Rattle.posting_rules.specs.declared.rows.TellerRow.{TellerRow}
use Rattle.sql_meanings.specs.believed.Entries.{Entry}
use Rattle.store_rows.specs.believed.SeveralRows.{given}

-- what the columns of a row are read as
abbrev pub Reading : Type 0 → Type 0
Reading X = Row → Result X Rule

-- ---- a column

-- the number in it
abbrev pub number : Value → Result ℤ Rule
number (Int z) = Ok z
number _ = Err OfValue

-- a whole number from least to most; one outside the range breaks the rule
abbrev pub whole_from : ℕ → ℕ → Rule → ℤ → Result ℕ Rule
whole_from least most rule (pos n) = ok_or (whole_within least most n) rule
whole_from least most rule (negsuc n) = Err rule

abbrev pub whole : ℕ → ℕ → Rule → Value → Result ℕ Rule
whole least most rule v = number v >>= whole_from least most rule

-- an amount at most so far from zero
abbrev pub cents : ℕ → Rule → Value → Result ℤ Rule
cents limit rule v = do
  z ← number v
  ok_or (cents_within limit z) rule

-- a floor is at most zero
abbrev pub lowest : Value → Result ℤ Rule
lowest v = do
  z ← cents MAX_BALANCE Floor v
  if int_lt (pos 0) z then Err Floor else Ok z

-- the outcome that has this code
abbrev pub outcome_from : ℤ → Result Outcome Rule
outcome_from (pos code) = ok_or (outcome_with code) Request
outcome_from (negsuc n) = Err Request

abbrev pub outcome_of : Value → Result Outcome Rule
outcome_of v = number v >>= outcome_from

-- the text in it, which is a reference
abbrev pub reference : Value → Result (List ℕ) Rule
reference (Text text) = ok_or (reference_from text) Reference
reference _ = Err OfValue

-- ---- the columns that a look-up shows

-- balance
abbrev pub balance_of : Reading ℤ
balance_of row = cents MAX_BALANCE Balance (column row 0)

-- bid, accounts, balance
abbrev pub branch_of : Reading BranchRow
branch_of row = do
  branch ← whole 1 LAST_BRANCH OfValue (column row 0)
  accounts ← whole 1 MAX_ACCOUNTS OfValue (column row 1)
  balance ← cents MAX_BALANCE Balance (column row 2)
  Ok (record { branch = branch; accounts = accounts; balance = balance })

-- aid, bid, delta, outcome, balance of a row of `request`: the outcome is kept with such a balance
abbrev pub decision_of : Reading DecisionFields
decision_of row = do
  account ← whole 1 MAX_ACCOUNT Request (column row 3)
  branch ← whole 1 MAX_BRANCH Request (column row 4)
  delta ← cents MAX_DELTA Request (column row 5)
  outcome ← outcome_of (column row 6)
  balance ← cents MAX_BALANCE Request (column row 7)
  if is_kept_with outcome balance then Ok (record {
    account = account;
    branch = branch;
    delta = delta;
    outcome = outcome;
    balance = balance;
  }) else Err Request

-- ordinal, tid, number, and the decision
abbrev pub request_of : Reading RequestRow
request_of row = do
  ordinal ← whole 1 MAX_DECIDED OfValue (column row 0)
  teller ← whole 1 MAX_TELLER Request (column row 1)
  number ← whole 1 MAX_NUMBER Request (column row 2)
  decision ← decision_of row
  Ok (record { ordinal = ordinal; teller = teller; number = number; decision = decision })

-- bid, lowest
abbrev pub floor_of : Reading FloorRow
floor_of row = do
  branch ← whole 1 LAST_BRANCH OfValue (column row 0)
  z ← lowest (column row 1)
  Ok (record { branch = branch; lowest = z })

-- ordinal, reference
abbrev pub reference_of : Reading ReferenceRow
reference_of row = do
  ordinal ← whole 1 MAX_DECIDED OfValue (column row 0)
  text ← reference (column row 1)
  Ok (record { ordinal = ordinal; reference = text })

-- last, first: numbers of one teller, or the seal
abbrev pub closing_of : Reading ClosingRow
closing_of row = do
  last ← whole 0 LAST_KEY Closing (column row 0)
  first ← whole 0 LAST_KEY Closing (column row 1)
  if is_closing first last then Ok (run_of first last) else Err Closing

-- ---- a stored row, whatever values it has

abbrev pub read_branch : Entry → Result BranchRow Rule
read_branch e = branch_of (given e)

abbrev pub read_request : Entry → Result RequestRow Rule
read_request e = request_of (given e)

abbrev pub read_floor : Entry → Result FloorRow Rule
read_floor e = floor_of (given e)

abbrev pub read_reference : Entry → Result ReferenceRow Rule
read_reference e = reference_of (given e)

abbrev pub read_closing : Entry → Result ClosingRow Rule
read_closing e = closing_of (given e)

-- the balance of a teller or of an account
abbrev pub read_balance : Entry → Result ℤ Rule
read_balance e = balance_of (column (given e) 1 ∷ [])

-- the balance first, which is all that a look-up reads
abbrev pub read_teller : Entry → Result TellerRow Rule
read_teller e = do
  balance ← read_balance e
  teller ← whole 1 (TELLERS_PER_BRANCH * LAST_BRANCH) OfValue (Int e.key)
  Ok (record { teller = teller; balance = balance })

-- the same
abbrev pub read_account : Entry → Result AccountRow Rule
read_account e = do
  balance ← read_balance e
  account ← whole 1 (ACCOUNTS_PER_BRANCH * LAST_BRANCH) OfValue (Int e.key)
  Ok (record { account = account; balance = balance })

-- the ordinal and the moment of a posting, which are all that a rule wants
abbrev pub read_posting : Entry → Result (ℕ × ℕ) Rule
read_posting e = do
  ordinal ← whole 1 MAX_DECIDED OfValue (Int e.key)
  moment ← whole 0 MAX_MOMENT OfValue (column (given e) 5)
  Ok (ordinal, moment)
