-- Where two files have the same rows of balances and terms, what they show of them is the same.
use Rattle.std.proofs.Common.{◌≡◌, ◌∙◌, List, [], ◌∷◌, map, refl, sym, ap}
use Rattle.std.specs.Prelude.{nat_abs}
use Rattle.posting_rules.specs.declared.rows.{AccountRow.AccountRow, BranchRow.BranchRow, FloorRow.FloorRow}
use Rattle.posting_rules.specs.declared.rows.TellerRow.{TellerRow}
use Rattle.posting_rules.specs.believed.Tables.{Tables, account_key, branch_key, floor_key, row_at, teller_key}
use Rattle.sql_meanings.specs.believed.Entries.{Entry}
use Rattle.store_rows.specs.believed.Columns.{number_at}
use Rattle.store_rows.specs.believed.View as view
use Rattle.carried_books.specs.Carrying.{SameStanding}

-- rows that a file holds as the same are the same
module _ {R : Type 0} (entry : R → Entry) (row : Entry → R) (is : (r : R) → row (entry r) ≡ r) where
  given_back : (rs : List R) → map row (map entry rs) ≡ rs
  given_back [] = refl
  given_back (r ∷ rs) = rw (is r, given_back rs) refl

  once : (one other : List R) → map entry one ≡ map entry other → one ≡ other
  once one other same = sym (given_back one) ∙ ap (map row) same ∙ given_back other

abbrev branch_in : Entry → BranchRow
branch_in e = record { branch = nat_abs e.key; accounts = nat_abs (number_at 0 e); balance = number_at 1 e }

abbrev teller_in : Entry → TellerRow
teller_in e = record { teller = nat_abs e.key; balance = number_at 0 e }

abbrev account_in : Entry → AccountRow
account_in e = record { account = nat_abs e.key; balance = number_at 0 e }

abbrev floor_in : Entry → FloorRow
floor_in e = record { branch = nat_abs e.key; lowest = number_at 0 e }

pub stands_alike : (old new : Tables) → map view.branch_entry new.branches ≡ map view.branch_entry old.branches
    → map view.floor_entry new.floors ≡ map view.floor_entry old.floors
    → map view.account_entry new.accounts ≡ map view.account_entry old.accounts
    → map view.teller_entry new.tellers ≡ map view.teller_entry old.tellers → SameStanding old new
stands_alike old new branches floors accounts tellers = record {
  branches = λ b. ap (λ (rs : List BranchRow). row_at branch_key rs b)
      (once view.branch_entry branch_in (λ r. refl) new.branches old.branches branches);
  tellers = λ t. ap (λ (rs : List TellerRow). row_at teller_key rs t)
      (once view.teller_entry teller_in (λ r. refl) new.tellers old.tellers tellers);
  accounts = λ a. ap (λ (rs : List AccountRow). row_at account_key rs a)
      (once view.account_entry account_in (λ r. refl) new.accounts old.accounts accounts);
  floors = λ b. ap (λ (rs : List FloorRow). row_at floor_key rs b)
      (once view.floor_entry floor_in (λ r. refl) new.floors old.floors floors);
}
