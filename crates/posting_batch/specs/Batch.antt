-- The slots of a batch: what they cover, and what its records change in them.
use Rattle.std.specs.Prelude.{◌≡◌, ℕ, List, [], ◌∷◌, map, None, IfSome, IsSome, Result, Ok}
use Rattle.std.specs.Prelude.{◌==◌, ◌&&◌, Bool, Err, is_none}
use Rattle.std.specs.List.{find, list_any, AllByRecursion}
use Rattle.std.specs.Option.{option_map}
use Rattle.message_records.specs.declared.fault.Bad.{Bad}
use Rattle.message_records.specs.believed.Records.{RequestFields}
use Rattle.posting_rules.specs.believed.Changes.{row_put, tables_past_all, replies_past_all}
use Rattle.posting_rules.specs.believed.Closings.{books_of}
use Rattle.posting_rules.specs.believed.Numbering.{branch_of_teller, branch_of_account}
use Rattle.posting_rules.specs.believed.LookUps.{kept_in, account_balance_in, balance_of_teller, floor_in}
use Rattle.posting_rules.specs.believed.Tables.{Tables, row_at, branch_key, teller_key, account_key}
use Rattle.posting_rules.specs.believed.Tables.{history_key, request_key, reference_key}
use Rattle.posting_rules.specs.declared.rows.RequestRow.{RequestRow}
use Rattle.posting_batch.specs.declared.slots.AccountSlot.{AccountSlot}
use Rattle.posting_batch.specs.declared.slots.TellerSlot.{TellerSlot}
use Rattle.posting_batch.specs.declared.slots.BranchSlot.{BranchSlot}
use Rattle.posting_batch.specs.declared.slots.FloorSlot.{FloorSlot}
use Rattle.posting_batch.specs.declared.slots.RequestSlot.{RequestSlot}
use Rattle.posting_batch.specs.Overlay.{Overlay, tables_over}
use Rattle.posting_batch.specs.Placed.{placed, number_below, number_same, request_below, request_same}
use Rattle.posting_batch.specs.Placed.{IsRising}
use Rattle.posting_batch.specs.Slots.{is_for, account_slot_key, teller_slot_key, branch_slot_key}
use Rattle.posting_batch.specs.Slots.{empty_account, empty_teller, empty_branch, empty_floor, empty_request}
use Rattle.posting_batch.specs.Slots.{floor_slot_key}
use Rattle.posting_batch.specs.believed.Batch.{IsNextOrdinal}

-- ---- a batch is made

abbrev pub with_account_slot : ℕ → List AccountSlot → List AccountSlot
with_account_slot n slots = placed (number_below account_slot_key) (number_same account_slot_key)
    (empty_account n) slots

abbrev pub with_teller_slot : ℕ → List TellerSlot → List TellerSlot
with_teller_slot n slots = placed (number_below teller_slot_key) (number_same teller_slot_key)
    (empty_teller n) slots

abbrev pub with_branch_slot : ℕ → List BranchSlot → List BranchSlot
with_branch_slot n slots = placed (number_below branch_slot_key) (number_same branch_slot_key)
    (empty_branch n) slots

abbrev pub with_floor_slot : ℕ → List FloorSlot → List FloorSlot
with_floor_slot n slots = placed (number_below floor_slot_key) (number_same floor_slot_key)
    (empty_floor n) slots

abbrev pub with_request_slot : ℕ → ℕ → List RequestSlot → List RequestSlot
with_request_slot n m slots = placed request_below request_same (empty_request n m) slots

-- the overlay with slots for all that a record can touch: its teller, the branch that the teller's number
-- gives, its account, the branch that the account's number gives with its floor, and its teller and number
abbrev pub covering : Overlay → Result RequestFields Bad → Overlay
covering o (Err fault) = o
covering o (Ok r) = record o {
  branches = with_branch_slot (branch_of_account r.account)
      (with_branch_slot (branch_of_teller r.teller) o.branches);
  floors = with_floor_slot (branch_of_account r.account) o.floors;
  tellers = with_teller_slot r.teller o.tellers;
  accounts = with_account_slot r.account o.accounts;
  kept = with_request_slot r.teller r.number o.kept;
}

abbrev pub covering_all : Overlay → List (Result RequestFields Bad) → Overlay
covering_all o [] = o
covering_all o (read ∷ reads) = covering_all (covering o read) reads

abbrev pub no_slots : Overlay
no_slots = record {
  branches = [];
  floors = [];
  tellers = [];
  accounts = [];
  kept = [];
  decided = 0;
  history = [];
  requests = [];
  references = [];
}

-- every key that a request can touch has its slot
pub record Covers (o : Overlay) (r : RequestFields) : Type 0 where
  pub branch : IsSome (row_at branch_slot_key o.branches (branch_of_teller r.teller))
  pub teller : IsSome (row_at teller_slot_key o.tellers r.teller)
  pub account : IsSome (row_at account_slot_key o.accounts r.account)
  pub its_branch : IsSome (row_at branch_slot_key o.branches (branch_of_account r.account))
  pub its_floor : IsSome (row_at floor_slot_key o.floors (branch_of_account r.account))
  pub kept : IsSome (find (is_for r.teller r.number) o.kept)

abbrev pub CoversRead : Overlay → Result RequestFields Bad → Type 0
CoversRead o (Err fault) = Unit {0}
CoversRead o (Ok r) = Covers o r

abbrev pub CoversAll : Overlay → List (Result RequestFields Bad) → Type 0
CoversAll o reads = AllByRecursion (CoversRead o) reads

-- the slots are in the order of their keys, and no two have one key
pub record HasRisingSlots (o : Overlay) : Type 0 where
  pub branches : IsRising (number_below branch_slot_key) o.branches
  pub floors : IsRising (number_below floor_slot_key) o.floors
  pub tellers : IsRising (number_below teller_slot_key) o.tellers
  pub accounts : IsRising (number_below account_slot_key) o.accounts
  pub kept : IsRising request_below o.kept

-- the branch of each teller and of each account has a slot, and so has the floor of each account's branch
pub record HasHomes (o : Overlay) : Type 0 where
  pub tellers : AllByRecursion (λ s. IsSome (row_at branch_slot_key o.branches (branch_of_teller s.teller)))
      o.tellers
  pub accounts : AllByRecursion
      (λ s. IsSome (row_at branch_slot_key o.branches (branch_of_account s.account))) o.accounts
  pub floors : AllByRecursion (λ s. IsSome (row_at floor_slot_key o.floors (branch_of_account s.account)))
      o.accounts

-- nothing is changed yet, and no row is new
pub record HasNoChange (o : Overlay) : Type 0 where
  pub branches : AllByRecursion (λ s. s.changed ≡ None) o.branches
  pub tellers : AllByRecursion (λ s. s.changed ≡ None) o.tellers
  pub accounts : AllByRecursion (λ s. s.changed ≡ None) o.accounts
  pub history : o.history ≡ []
  pub requests : o.requests ≡ []
  pub references : o.references ≡ []

-- ---- it is filled

abbrev pub branch_filled : Tables → BranchSlot → BranchSlot
branch_filled t s = record s { stored = row_at branch_key t.branches s.branch }

abbrev pub floor_filled : Tables → FloorSlot → FloorSlot
floor_filled t s = record s { floor = floor_in t s.branch }

abbrev pub teller_filled : Tables → TellerSlot → TellerSlot
teller_filled t s = record s { stored = option_map balance_of_teller (row_at teller_key t.tellers s.teller) }

abbrev pub account_filled : Tables → AccountSlot → AccountSlot
account_filled t s = record s { stored = account_balance_in t s.account }

abbrev pub request_filled : Tables → RequestSlot → RequestSlot
request_filled t s = record s {
  kept = kept_in t.requests t.references s.teller s.number;
  books = books_of t.closings s.teller s.number;
}

-- each slot with what is in the tables under its key
abbrev pub filled : Tables → Overlay → Overlay
filled t o = record o {
  branches = map (branch_filled t) o.branches;
  floors = map (floor_filled t) o.floors;
  tellers = map (teller_filled t) o.tellers;
  accounts = map (account_filled t) o.accounts;
  kept = map (request_filled t) o.kept;
  decided = t.decided;
}

-- ---- its records are judged

-- a balance is changed only where the row is there
pub record ChangesRows (o : Overlay) (t : Tables) : Type 0 where
  pub branches : AllByRecursion (λ s. IfSome s.changed (λ z. IsSome (row_at branch_key t.branches s.branch)))
      o.branches
  pub tellers : AllByRecursion (λ s. IfSome s.changed (λ z. IsSome (row_at teller_key t.tellers s.teller)))
      o.tellers
  pub accounts : AllByRecursion
      (λ s. IfSome s.changed (λ z. IsSome (row_at account_key t.accounts s.account))) o.accounts

-- rows that are put in one after another, each under a key that is free by then
abbrev pub PutsFree : {R : Type 0} → (R → ℕ) → List R → List R → Type 0
PutsFree key [] rows = Unit {0}
PutsFree key (r ∷ rs) rows = (row_at key rows (key r) ≡ None) × PutsFree key rs (row_put key r rows)

-- the keys of the new rows are free
pub record AddsFreeRows (o : Overlay) (t : Tables) : Type 0 where
  pub history : PutsFree history_key o.history t.history
  pub requests : PutsFree request_key o.requests t.requests
  pub references : PutsFree reference_key o.references t.references

-- each row that is new is under one of them
pub record HasNextOrdinals (decided count : ℕ) (o : Overlay) : Type 0 where
  pub history : AllByRecursion (λ r. IsNextOrdinal decided count r.ordinal) o.history
  pub requests : AllByRecursion (λ r. IsNextOrdinal decided count r.ordinal) o.requests
  pub references : AllByRecursion (λ r. IsNextOrdinal decided count r.ordinal) o.references

-- the records leave these tables and are answered these replies; a balance is changed only where the row is, and
-- the keys of the new rows are free
pub record IsJudged (o : Overlay) (replies : List (List ℕ)) (t : Tables) (moment : ℕ)
    (records : List (List ℕ)) : Type 0 where
  pub tables : tables_over o t ≡ tables_past_all t moment records
  pub answers : replies ≡ replies_past_all t moment records
  pub changes : ChangesRows o t
  pub adds : AddsFreeRows o t

-- ---- it is judged again

-- the slots with nothing in them, and no row that is new
abbrev pub blanked : Overlay → Overlay
blanked o = record {
  branches = map (λ s. empty_branch s.branch) o.branches;
  floors = map (λ s. empty_floor s.branch) o.floors;
  tellers = map (λ s. empty_teller s.teller) o.tellers;
  accounts = map (λ s. empty_account s.account) o.accounts;
  kept = map (λ s. empty_request s.teller s.number) o.kept;
  decided = 0;
  history = [];
  requests = [];
  references = [];
}

-- one of the requests is of the slot's teller, under its number
abbrev pub IsAmong : List RequestRow → RequestSlot → Type 0
IsAmong rows s = IsSome (find (λ r. (r.teller == s.teller) && (r.number == s.number)) rows)

-- each request that is kept is a new one
abbrev pub KeepsNew : Overlay → Type 0
KeepsNew o = AllByRecursion (λ s. IfSome s.kept (λ k. IsAmong o.requests s)) o.kept

-- a slot keeps no request
abbrev pub has_gap : List RequestSlot → Bool
has_gap slots = list_any (λ s. is_none s.kept) slots
