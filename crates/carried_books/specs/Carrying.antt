-- What the tables of two banks show where one carries the other on.
use Rattle.std.specs.Prelude.{◌≡◌, ◌≤◌, ◌==◌, ◌||◌, ℕ, List, ◌++◌, map, Bool, true, false}
use Rattle.std.specs.List.{AllByRecursion}
use Rattle.message_records.specs.declared.limits.TheConstants.{MAX_NUMBER}
use Rattle.posting_rules.specs.declared.rows.{ClosingRow.ClosingRow, RequestRow.RequestRow}
use Rattle.posting_rules.specs.believed.ClosedBooks.{Carries}
use Rattle.posting_rules.specs.believed.Closings.{is_closed_in, run_of}
use Rattle.posting_rules.specs.believed.Commands.{Command, number_key}
use Rattle.posting_rules.specs.believed.Numbering.{branch_of_teller}
use Rattle.posting_rules.specs.believed.Tables.{AreTablesOf, Tables, row_at, branch_key, teller_key, account_key, floor_key}

-- the rows of branches, tellers, accounts and floors are the same, in whatever order
pub record SameStanding (old new : Tables) : Type 0 where
  pub branches : (b : ℕ) → row_at branch_key new.branches b ≡ row_at branch_key old.branches b
  pub tellers : (t : ℕ) → row_at teller_key new.tellers t ≡ row_at teller_key old.tellers t
  pub accounts : (a : ℕ) → row_at account_key new.accounts a ≡ row_at account_key old.accounts a
  pub floors : (b : ℕ) → row_at floor_key new.floors b ≡ row_at floor_key old.floors b

-- the number of a kept request, as a run
abbrev pub number_of : RequestRow → ClosingRow
number_of r = run_of (number_key r.teller r.number) (number_key r.teller r.number)

-- the runs of all numbers that were used: those that closed books decided, and those of kept requests
abbrev pub used_runs : Tables → List ClosingRow
used_runs t = t.closings ++ map number_of t.requests

-- a kept request is of a teller of the desk, or its number was used
abbrev pub is_of_desk : ℕ → List ClosingRow → RequestRow → Bool
is_of_desk desk used r =
    branch_of_teller r.teller == desk || is_closed_in used (number_key r.teller r.number)

-- Every balance, floor and count of accounts is the same in both, and closed in the new are just the numbers that were used
-- in the old, which are sealed. The key 0 is the seal's, and no number's.
pub record TablesCarry (desk : ℕ) (old new : Tables) : Type 0 where
  pub stand : SameStanding old new
  pub numbers : (x : ℕ) → 1 ≤ x → is_closed_in new.closings x ≡ is_closed_in (used_runs old) x
  pub old_sealed : is_closed_in old.closings 0 ≡ true
  pub new_unsealed : is_closed_in new.closings 0 ≡ false
  pub desk_alone : AllByRecursion (λ r. is_of_desk desk (used_runs old) r ≡ true) new.requests
  pub in_range : AllByRecursion (λ r. r.number ≤ MAX_NUMBER) old.requests

-- then every log that the new tables show carries on every log that the old ones show
abbrev pub CarriesShown : Type 0
CarriesShown = (desk : ℕ) (old new : Tables) (one two : List Command) → AreTablesOf old one → AreTablesOf new two
    → TablesCarry desk old new → Carries desk one two
