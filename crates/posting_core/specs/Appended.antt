-- Rows in the order in which they came: their ordinals, and what an opening does to them.
use Rattle.std.specs.Prelude.{◌≤◌, ℕ, zero, suc, ◌+◌, ℤ, pos, List, [], ◌∷◌, ◌++◌, Option, Some, None, All}
use Rattle.posting_rules.specs.declared.rows.FloorRow.{FloorRow}
use Rattle.posting_rules.specs.declared.rows.HistoryRow.{HistoryRow}
use Rattle.posting_rules.specs.declared.rows.ReferenceRow.{ReferenceRow}
use Rattle.posting_rules.specs.declared.rows.RequestRow.{RequestRow}
use Rattle.posting_rules.specs.believed.Commands.{Terms}
use Rattle.posting_rules.specs.believed.Tables.{Tables, branch_row_of, floor_row_of}
use Rattle.posting_rules.specs.believed.Numbering.{first_teller, first_account}
use Rattle.posting_rules.specs.believed.Changes.{new_teller, new_account}
use Rattle.posting_rules.specs.declared.rows.ClosingRow.{ClosingRow}

-- a row for each of so many numbers from the first one on
abbrev pub rows_from : {R : Type 0} → (ℕ → R) → ℕ → ℕ → List R
rows_from row first zero = []
rows_from row first (suc count) = rows_from row first count ++ row (first + count) ∷ []

-- ---- rows of requests

-- none is under an ordinal beyond the last one
pub record HasOrdinalsTo (last : ℕ) (hs : List HistoryRow) (rs : List RequestRow)
    (gs : List ReferenceRow) : Type 0 where
  pub history : All (λ r. r.ordinal ≤ last) hs
  pub requests : All (λ r. r.ordinal ≤ last) rs
  pub references : All (λ r. r.ordinal ≤ last) gs

-- ---- what an opening does to the rows

-- the floor of a branch is after the others, where it has one
abbrev pub floor_after : ℕ → Option ℤ → List FloorRow → List FloorRow
floor_after b None rows = rows
floor_after b (Some lowest) rows = rows ++ floor_row_of b lowest ∷ []

abbrev pub appended_opened : Tables → ℕ → Terms → Tables
appended_opened t b terms = record {
  decided = t.decided;
  branches = t.branches ++ branch_row_of b (pos 0) terms ∷ [];
  tellers = t.tellers ++ rows_from new_teller (first_teller b) 10;
  accounts = t.accounts ++ rows_from new_account (first_account b) terms.accounts;
  history = t.history;
  requests = t.requests;
  floors = floor_after b terms.floor t.floors;
  references = t.references;
  closings = t.closings;
}

-- ---- what a closing does to them

abbrev pub appended_run : Tables → ClosingRow → Tables
appended_run t run = record t { closings = t.closings ++ run ∷ [] }
