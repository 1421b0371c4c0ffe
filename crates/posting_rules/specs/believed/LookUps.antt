-- What a counter looks up in its tables, by keys alone: the order of the rows doesn't matter.
use Rattle.std.specs.Prelude.{ℕ, ℤ, List, Option, Some, None, ◌==◌, ◌&&◌}
use Rattle.std.specs.List.{find}
use Rattle.std.specs.Option.{option_map}
use Rattle.message_records.specs.believed.Records.{RequestFields}
use Rattle.posting_rules.specs.declared.judgments.Found.{Found}
use Rattle.posting_rules.specs.declared.rows.BranchRow.{BranchRow}
use Rattle.posting_rules.specs.declared.rows.TellerRow.{TellerRow}
use Rattle.posting_rules.specs.declared.rows.AccountRow.{AccountRow}
use Rattle.posting_rules.specs.declared.rows.RequestRow.{RequestRow}
use Rattle.posting_rules.specs.declared.rows.FloorRow.{FloorRow}
use Rattle.posting_rules.specs.declared.rows.ReferenceRow.{ReferenceRow}
use Rattle.posting_rules.specs.believed.Commands.{Terms, opened_with}
use Rattle.posting_rules.specs.believed.Closings.{books_of}
use Rattle.posting_rules.specs.believed.Numbering.{branch_of_teller, branch_of_account}
use Rattle.posting_rules.specs.believed.Kept.{KeptFields, kept_with}
use Rattle.posting_rules.specs.believed.Tables.{Tables, row_at, branch_key, teller_key, account_key, floor_key}
use Rattle.posting_rules.specs.believed.Tables.{reference_key}

abbrev pub lowest_of : FloorRow → ℤ
lowest_of r = r.lowest

-- the floor of a branch's accounts
abbrev pub floor_in : Tables → ℕ → Option ℤ
floor_in t b = option_map lowest_of (row_at floor_key t.floors b)

abbrev pub count_of_branch : BranchRow → ℕ
count_of_branch r = r.accounts

abbrev pub terms_of_branch : Option ℤ → BranchRow → Terms
terms_of_branch floor r = opened_with (count_of_branch r) floor

-- what a branch is open with
abbrev pub terms_in : Tables → ℕ → Option Terms
terms_in t b = option_map (terms_of_branch (floor_in t b)) (row_at branch_key t.branches b)

abbrev pub balance_of_branch : BranchRow → ℤ
balance_of_branch r = r.balance

abbrev pub balance_of_teller : TellerRow → ℤ
balance_of_teller r = r.balance

abbrev pub balance_of_account : AccountRow → ℤ
balance_of_account r = r.balance

abbrev pub account_balance_in : Tables → ℕ → Option ℤ
account_balance_in t a = option_map balance_of_account (row_at account_key t.accounts a)

-- both, where both are there
abbrev pub both_of : Option ℤ → Option ℤ → Option (ℤ × ℤ)
both_of (Some x) (Some y) = Some (x, y)
both_of _ _ = None

-- the balances of a teller and of the branch that its number gives
abbrev pub teller_balances_in : Tables → ℕ → Option (ℤ × ℤ)
teller_balances_in t n =
    both_of (option_map balance_of_teller (row_at teller_key t.tellers n))
    (option_map balance_of_branch (row_at branch_key t.branches (branch_of_teller n)))

abbrev pub text_of_reference : ReferenceRow → List ℕ
text_of_reference r = r.reference

-- the reference under an ordinal
abbrev pub reference_in : List ReferenceRow → ℕ → Option (List ℕ)
reference_in rows ordinal = option_map text_of_reference (row_at reference_key rows ordinal)

-- what is kept of a request: the decision in its row, with the reference under its ordinal
abbrev pub kept_of_row : List ReferenceRow → RequestRow → KeptFields
kept_of_row references r = kept_with (reference_in references r.ordinal) r.decision

-- the request that the rows keep under a teller and a number
abbrev pub kept_in : List RequestRow → List ReferenceRow → ℕ → ℕ → Option KeptFields
kept_in requests references t n =
    option_map (kept_of_row references) (find (λ r. (r.teller == t) && (r.number == n)) requests)

-- all that is looked up for a request
abbrev pub found_in : Tables → RequestFields → Found
found_in t r = record {
  teller = teller_balances_in t r.teller;
  kept = kept_in t.requests t.references r.teller r.number;
  books = books_of t.closings r.teller r.number;
  decided = t.decided;
  account = account_balance_in t r.account;
  floor = floor_in t (branch_of_account r.account);
}
