-- How a text of CSV is read as a plan.
use Rattle.std.specs.Prelude.{◌≡◌, ◌≤◌, ◌≤ℤ◌, ◌+◌, ◌==◌, ◌&&◌, ◌⊎◌, ⊤, Bool, true, false, ℕ, zero, suc, ℤ, pos}
use Rattle.std.specs.Prelude.{negsuc, List, [], ◌∷◌, ◌++◌, Option, Some, option_map, IfSome, int_le, None, Result, Ok}
use Rattle.std.specs.Prelude.{Err, All, map, length, bytes_eq, codes, nat_eq, nat_le, if◌then◌else◌, option_and_then}
use Rattle.std.specs.List.{IsDistinct, list_any}
use Rattle.std.specs.Io.KnownBytes.{Consumes, IsAtEnd}
use Rattle.posting_rules.specs.declared.limits.TheConstants.{LAST_BRANCH, MAX_ACCOUNTS}
use Rattle.csv.specs.Reading.{default_config, records, strip_bom}
use Rattle.message_records.specs.believed.Ranges.{whole_within}
use Rattle.message_records.specs.believed.Reading.{number_of}
use Rattle.posting_rules.specs.believed.Commands.{Command, Open, Terms, opened_with}
use Rattle.branch_loader.specs.declared.fault.PlanFault.{PlanFault}
use Rattle.branch_loader.specs.declared.fault.PlanFault.TheVariants.{Header, Columns, Branch, Accounts, Floor}
use Rattle.branch_loader.specs.declared.fault.PlanFault.TheVariants.{Twice, Csv, Memory}
use Rattle.posting_core.specs.believed.EndCalls.{EndsWith, IsEndOfInput, ReadCall}
use Rattle.posting_core.specs.EndCalls.{HasReadFailed}
use Rattle.branch_loader.specs.Records.{Records, Fields, RecordCall, WasFailure, WasRecord}
use Rattle.branch_loader.specs.believed.Plans.{Row, Rows}

-- what its branch is to be opened with
abbrev pub terms_of : Row → Terms
terms_of p = opened_with p.1 p.2

-- ---- one row

-- the number from 1 on that a field of 1 to 9 digits writes
abbrev pub number_within : ℕ → List ℕ → Option ℕ
number_within most field =
    if nat_le 1 (length field) && nat_le (length field) 9
    then option_and_then (whole_within 1 most) (number_of field)
    else None

-- one of the rows names the branch
abbrev pub names : ℕ → Rows → Bool
names branch rows = list_any (λ p. nat_eq branch p.0) rows

-- the number that 1 to 12 digits write
abbrev pub amount_of : List ℕ → Option ℕ
amount_of digits = if nat_le 1 (length digits) && nat_le (length digits) 12 then number_of digits else None

abbrev pub below_zero : ℕ → ℤ
below_zero zero = pos 0
below_zero (suc n) = negsuc n

abbrev pub zero_alone : ℕ → Option ℤ
zero_alone zero = Some (pos 0)
zero_alone (suc n) = None

-- the floor that a field writes: none where it is empty, and else zero, or an amount with a minus
abbrev pub floor_of : List ℕ → Option (Option ℤ)
floor_of [] = Some None
floor_of (c ∷ cs) =
    if c == 45 then option_map (λ n. Some (below_zero n)) (amount_of cs)
    else option_map Some (option_and_then zero_alone (amount_of (c ∷ cs)))

-- a floor that a branch can have, which is at most zero
abbrev pub floor_within : Option ℤ → Option (Option ℤ)
floor_within None = Some None
floor_within (Some z) = if int_le z (pos 0) then Some (Some z) else None

-- the row of a branch, a count and a floor after the rows before it
abbrev pub row_of : Rows → Option ℕ → Option ℕ → Option (Option ℤ) → Result Row PlanFault
row_of before None accounts floor = Err (Branch (length before + 1))
row_of before (Some branch) None floor = Err (Accounts (length before + 1))
row_of before (Some branch) (Some accounts) None = Err (Floor (length before + 1))
row_of before (Some branch) (Some accounts) (Some floor) = if names branch before then Err
    (Twice (length before + 1)) else Ok (branch, accounts, floor)

-- the row that one of a list states
abbrev pub row_of_listed : Rows → Row → Result Row PlanFault
row_of_listed before p =
    row_of before (whole_within 1 LAST_BRANCH p.0) (whole_within 1 MAX_ACCOUNTS p.1) (floor_within p.2)

-- the two fields of a record of two
abbrev pub two_of : Fields → Option (List ℕ × List ℕ)
two_of [] = None
two_of (one ∷ []) = None
two_of (one ∷ two ∷ []) = Some (one, two)
two_of (one ∷ two ∷ three ∷ more) = None

-- the three fields of a record of three
abbrev pub three_of : Fields → Option (List ℕ × List ℕ × List ℕ)
three_of [] = None
three_of (one ∷ []) = None
three_of (one ∷ two ∷ []) = None
three_of (one ∷ two ∷ three ∷ []) = Some (one, two, three)
three_of (one ∷ two ∷ three ∷ four ∷ more) = None

-- branch, accounts and floor of a record, in a plan with floors or without: there the last is empty
abbrev pub parts_of : Bool → Fields → Option (List ℕ × List ℕ × List ℕ)
parts_of false fields = option_map (λ p. (p.0, p.1, [])) (two_of fields)
parts_of true fields = three_of fields

-- the row that these state, where they are there
abbrev pub row_of_parts : Rows → Option (List ℕ × List ℕ × List ℕ) → Result Row PlanFault
row_of_parts before None = Err (Columns (length before + 1))
row_of_parts before (Some p) =
    row_of before (number_within LAST_BRANCH p.0) (number_within MAX_ACCOUNTS p.1) (floor_of p.2)

-- the row that a record states
abbrev pub row_of_fields : Bool → Rows → Fields → Result Row PlanFault
row_of_fields has_floors before fields = row_of_parts before (parts_of has_floors fields)

-- ---- the plan

-- the rows before, and those that come after them one by one, or the first fault
unfoldable pub rows_by : {A : Type 0} → (Rows → A → Result Row PlanFault) → Rows → List A
    → Result Rows PlanFault
rows_by row before [] = Ok before
rows_by row before (x ∷ rest) =
    elim (row before x) [ Ok p ↦ rows_by row (before ++ p ∷ []) rest | Err fault ↦ Err fault ]

-- the fields name the columns, of which the last is empty where a plan has no floors
abbrev pub are_names : List ℕ → Option (List ℕ × List ℕ × List ℕ) → Bool
are_names last None = false
are_names last (Some p) = bytes_eq p.0 (codes "branch") && (bytes_eq p.1 (codes "accounts") && bytes_eq p.2 last)

-- whether a plan has floors, by the header: none where the record is no header
abbrev pub header_of : Fields → Option Bool
header_of fields =
    if are_names [] (parts_of false fields) then Some false
    else if are_names (codes "floor") (parts_of true fields) then Some true
    else None

-- the rows after a header
abbrev pub rows_after : Option Bool → Records → Result Rows PlanFault
rows_after None rest = Err Header
rows_after (Some has_floors) rest = rows_by (row_of_fields has_floors) [] rest

-- the plan that records state, the header first
unfoldable pub plan_of_records : Records → Result Rows PlanFault
plan_of_records [] = Err Header
plan_of_records (first ∷ rest) = rows_after (header_of first) rest

-- the plan that a text states: csv's records of it, a byte order mark dropped
abbrev pub plan_of : List ℕ → Result Rows PlanFault
plan_of text = plan_of_records (records default_config (strip_bom text))

-- the plan that a list states
abbrev pub plan_of_list : Rows → Result Rows PlanFault
plan_of_list list = rows_by row_of_listed [] list

-- ---- what is known of a plan

-- branch and count are in range, and a floor is at most zero
abbrev pub IsRow : Row → Type 0
IsRow p = (1 ≤ p.0) × (p.0 ≤ LAST_BRANCH) × (1 ≤ p.1) × (p.1 ≤ MAX_ACCOUNTS) × IfSome p.2 (λ z. z ≤ℤ pos 0)

-- each row is in range, and each branch is named once
pub record IsPlan (rows : Rows) : Type 0 where
  pub in_range : All IsRow rows
  pub distinct : IsDistinct nat_eq (map (λ p. p.0) rows)

-- the openings of a plan, in its order
abbrev pub openings : Rows → List Command
openings rows = map (λ p. Open p.0 (terms_of p)) rows

-- the answer is what is stated, unless the source or memory failed
abbrev pub TellsPlan : Result Rows PlanFault → Result Rows PlanFault → Type 0
TellsPlan stated (Err Csv) = ⊤
TellsPlan stated (Err Memory) = ⊤
TellsPlan stated answer = stated ≡ answer

-- ---- what csv returned, where the answer is none of a plan

-- Csv failed, or memory was refused after a record for the room of its row. Every other answer is stated.
abbrev pub IsToldSo : Result Rows PlanFault → Option (List RecordCall) → Option (List RecordCall) → Type 0
IsToldSo (Err Csv) old new = ⊥
IsToldSo (Err Memory) old new = EndsWith WasFailure old new ⊎ EndsWith WasRecord old new
IsToldSo answer old new = ⊤

-- ---- a plan that is read: the source's known bytes before and after are r and r', and what its reads are
-- known to have returned q and q'

-- the source failed, or memory was refused, or the source was read to its end
abbrev pub IsReadSo : Result Rows PlanFault → Option (List ℕ) → Option (List ReadCall)
    → Option (List ReadCall) → Type 0
IsReadSo (Err Csv) r' q q' = HasReadFailed q q'
IsReadSo (Err Memory) r' q q' = ⊤
IsReadSo answer r' q q' = IsAtEnd r' × EndsWith IsEndOfInput q q'

-- a text was read, and the answer is the plan that it states
pub record ReadsPlan (r r' : Option (List ℕ)) (q q' : Option (List ReadCall))
    (answer : Result Rows PlanFault) : Type 0 where
  pub text : List ℕ
  pub read : Consumes r r' text
  pub tells : TellsPlan (plan_of text) answer
  pub ends : IsReadSo answer r' q q'
