-- Which numbers the rows of a bank have: those that closed books decided, and those of kept requests.
use Rattle.std.specs.Prelude.{◌≡◌, ◌≤◌, ◌||◌, ◌==◌, ◌/◌, ℕ, ℤ, pos, negsuc, nat_abs, max, List, Bool, true, false}
use Rattle.std.specs.List.{AllByRecursion}
use Rattle.std.specs.Ordering.{int_eq}
use Rattle.message_records.specs.declared.limits.TheConstants.{MAX_NUMBER, MAX_TELLER}
use Rattle.posting_rules.specs.declared.fault.Rule.{Rule}
use Rattle.posting_rules.specs.declared.fault.Rule.TheVariants.{Request}
use Rattle.posting_rules.specs.declared.limits.TheConstants.{NUMBERS_PER_TELLER}
use Rattle.posting_rules.specs.declared.rows.{ClosingRow.ClosingRow, RequestRow.RequestRow}
use Rattle.posting_rules.specs.believed.Closings.{is_closed_in, run_of}
use Rattle.posting_rules.specs.believed.Commands.{number_key}
use Rattle.posting_rules.specs.believed.Numbering.{branch_of_teller}
use Rattle.posting_rules.specs.believed.Tables.{Tables}
use Rattle.walked_rows.specs.Requests.{IsFrom}
use Rattle.walked_rows.specs.declared.closings.StoredClosing.{StoredClosing}
use Rattle.walked_rows.specs.declared.requests.StoredRequest.{StoredRequest}
use Rattle.carried_books.specs.Carrying.{is_of_desk, used_runs}

-- ---- of a row

-- the number of a kept request, as a run
abbrev pub number_in : StoredRequest → ClosingRow
number_in r = run_of (number_key (nat_abs r.teller) (nat_abs r.number)) (number_key (nat_abs r.teller) (nat_abs r.number))

-- its teller or its number are those of no request
abbrev pub HasNoNumber : StoredRequest → Type 0
HasNoNumber r = IsFrom 1 MAX_TELLER r.teller → IsFrom 1 MAX_NUMBER r.number → ⊥

-- then it isn't taken, by this rule
abbrev pub RefusesNoNumber : Rule → StoredRequest → Type 0
RefusesNoNumber rule r = (rule ≡ Request) × HasNoNumber r

-- the keys above 0 from one to another, none where the first is below 0
abbrev pub run_by : ℤ → ℕ → ClosingRow
run_by (pos first) last = run_of (max 1 first) last
run_by (negsuc n) last = run_of 1 0

-- the keys of numbers that closed books decided
abbrev pub run_in : StoredClosing → ClosingRow
run_in r = run_by r.first r.last

-- the key 0 is among them, which is the seal's
abbrev pub has_seal : StoredClosing → Bool
has_seal r = int_eq r.first (pos 0)

-- ---- of tables

-- so many runs have just the numbers that the tables close, and the seal is told beside them
pub record HasClosed (t : Tables) (is_sealed : Bool) (runs : List ClosingRow) : Type 0 where
  pub seal : is_sealed ≡ is_closed_in t.closings 0
  pub numbers : (x : ℕ) → 1 ≤ x → is_closed_in runs x ≡ is_closed_in t.closings x

-- the same of all numbers that were used
pub record HasUsed (t : Tables) (is_sealed : Bool) (runs : List ClosingRow) : Type 0 where
  pub seal : is_sealed ≡ is_closed_in t.closings 0
  pub numbers : (x : ℕ) → 1 ≤ x → is_closed_in runs x ≡ is_closed_in (used_runs t) x

-- ---- of new books

-- a number is that of a teller of the desk, or it was used
abbrev pub is_carried : ℕ → List ClosingRow → ClosingRow → Bool
is_carried desk used run = (branch_of_teller (run.first / NUMBERS_PER_TELLER) == desk) || is_closed_in used run.first

-- each request has a number in its range
abbrev pub AreNumbered : List RequestRow → Type 0
AreNumbered = AllByRecursion (λ r. (1 ≤ r.number) × (r.number ≤ MAX_NUMBER))

-- what new tables say of the numbers that were used before: they close these alone, and aren't sealed, and keep
-- requests of the desk alone beside
pub record NumbersCarry (desk : ℕ) (used : List ClosingRow) (new : Tables) : Type 0 where
  pub numbers : (x : ℕ) → 1 ≤ x → is_closed_in new.closings x ≡ is_closed_in used x
  pub unsealed : is_closed_in new.closings 0 ≡ false
  pub desk_alone : AreNumbered new.requests → AllByRecursion (λ r. is_of_desk desk used r ≡ true) new.requests
