-- Slots: what is known of the rows under the keys that a batch can touch.
use Rattle.std.specs.Prelude.{ℕ, ℤ, List, map, Option, Some, None, Bool, ◌==◌, ◌&&◌, if◌then◌else◌}
use Rattle.std.specs.List.{find}
use Rattle.std.specs.Option.{option_map, option_flatten, unwrap_or}
use Rattle.posting_rules.specs.declared.judgments.Books.{Books, TheVariants.Current}
use Rattle.posting_rules.specs.declared.rows.BranchRow.{BranchRow}
use Rattle.posting_rules.specs.believed.Kept.{KeptFields}
use Rattle.posting_rules.specs.believed.Tables.{row_at}
use Rattle.posting_rules.specs.believed.LookUps.{balance_of_branch}
use Rattle.posting_batch.specs.declared.slots.AccountSlot.{AccountSlot}
use Rattle.posting_batch.specs.declared.slots.TellerSlot.{TellerSlot}
use Rattle.posting_batch.specs.declared.slots.BranchSlot.{BranchSlot}
use Rattle.posting_batch.specs.declared.slots.FloorSlot.{FloorSlot}
use Rattle.posting_batch.specs.declared.slots.RequestSlot.{RequestSlot}

-- ---- balances

-- the balance that a row has by now, where it is there: the stored one, unless it is changed
abbrev pub balance_now : Option ℤ → Option ℤ → Option ℤ
balance_now stored changed = option_map (unwrap_or changed) stored

abbrev pub account_slot_key : AccountSlot → ℕ
account_slot_key s = s.account

abbrev pub account_slot_balance : AccountSlot → Option ℤ
account_slot_balance s = balance_now s.stored s.changed

abbrev pub with_account_changed : ℤ → AccountSlot → AccountSlot
with_account_changed z s = record { account = s.account; stored = s.stored; changed = Some z }

abbrev pub teller_slot_key : TellerSlot → ℕ
teller_slot_key s = s.teller

abbrev pub teller_slot_balance : TellerSlot → Option ℤ
teller_slot_balance s = balance_now s.stored s.changed

abbrev pub with_teller_changed : ℤ → TellerSlot → TellerSlot
with_teller_changed z s = record { teller = s.teller; stored = s.stored; changed = Some z }

abbrev pub branch_slot_key : BranchSlot → ℕ
branch_slot_key s = s.branch

abbrev pub row_of_slot : BranchSlot → Option BranchRow
row_of_slot s = s.stored

abbrev pub floor_slot_key : FloorSlot → ℕ
floor_slot_key s = s.branch

abbrev pub floor_of_slot : FloorSlot → Option ℤ
floor_of_slot s = s.floor

abbrev pub branch_slot_balance : BranchSlot → Option ℤ
branch_slot_balance s = balance_now (option_map balance_of_branch s.stored) s.changed

abbrev pub with_branch_changed : ℤ → BranchSlot → BranchSlot
with_branch_changed z s = record {
  branch = s.branch;
  stored = s.stored;
  changed = Some z;
}

-- what is said of the slot that is there
abbrev pub in_slot : {S A : Type 0} → (S → Option A) → Option S → Option A
in_slot f o = option_flatten (option_map f o)

-- the balance under a key
abbrev pub slot_balance : {S : Type 0} → (S → ℕ) → (S → Option ℤ) → List S → ℕ → Option ℤ
slot_balance key balance slots k = in_slot balance (row_at key slots k)

-- the floor of a branch's accounts
abbrev pub slot_floor : List FloorSlot → ℕ → Option ℤ
slot_floor slots b = in_slot floor_of_slot (row_at floor_slot_key slots b)

-- ---- kept requests

-- the slot is that of a teller and a number
abbrev pub is_for : ℕ → ℕ → RequestSlot → Bool
is_for t n s = (s.teller == t) && (s.number == n)

abbrev pub kept_of_slot : RequestSlot → Option KeptFields
kept_of_slot s = s.kept

-- what is kept under a teller and a number
abbrev pub kept_in_slots : List RequestSlot → ℕ → ℕ → Option KeptFields
kept_in_slots slots t n = in_slot kept_of_slot (find (is_for t n) slots)

abbrev pub books_of_slot : RequestSlot → Books
books_of_slot s = s.books

-- what closed books say of a teller's number: nothing where there is no slot
abbrev pub books_in_slots : List RequestSlot → ℕ → ℕ → Books
books_in_slots slots t n = unwrap_or (option_map books_of_slot (find (is_for t n) slots)) Current

-- the slot, with this request kept where it is that of the teller and the number
abbrev pub with_kept : ℕ → ℕ → KeptFields → RequestSlot → RequestSlot
with_kept t n k s =
    if is_for t n s then record { teller = s.teller; number = s.number; kept = Some k; books = s.books } else s

abbrev pub slots_kept : ℕ → ℕ → KeptFields → List RequestSlot → List RequestSlot
slots_kept t n k slots = map (with_kept t n k) slots

-- ---- slots of which nothing is known yet

abbrev pub empty_account : ℕ → AccountSlot
empty_account n = record { account = n; stored = None; changed = None }

abbrev pub empty_teller : ℕ → TellerSlot
empty_teller n = record { teller = n; stored = None; changed = None }

abbrev pub empty_branch : ℕ → BranchSlot
empty_branch n = record { branch = n; stored = None; changed = None }

abbrev pub empty_floor : ℕ → FloorSlot
empty_floor n = record { branch = n; floor = None }

abbrev pub empty_request : ℕ → ℕ → RequestSlot
empty_request n m = record { teller = n; number = m; kept = None; books = Current }
