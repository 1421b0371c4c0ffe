-- What the parts of filling a batch say.
use Rattle.std.specs.Prelude.{◌≡◌, ℕ, List, [], ◌∷◌, map, Option, Some, None, IfSome, Result, Ok, Err}
use Rattle.std.specs.List.{AllByRecursion}
use Rattle.message_records.specs.believed.Ranges.{whole_within}
use Rattle.message_records.specs.declared.limits.TheConstants.{MAX_BRANCH}
use Rattle.posting_rules.specs.believed.Damage.{IsUndamaged}
use Rattle.posting_rules.specs.believed.Tables.{Tables, row_at, branch_key}
use Rattle.posting_rules.specs.declared.rows.BranchRow.{BranchRow}
use Rattle.posting_rules.specs.believed.{Closings.books_of, LookUps.kept_in}
use Rattle.posting_rules.specs.declared.judgments.Books.{Books, TheVariants.Closed, TheVariants.Current}
use Rattle.posting_rules.specs.declared.judgments.Books.TheVariants.{Sealed}
use Rattle.posting_rules.specs.declared.rows.ClosingRow.{ClosingRow}
use Rattle.posting_batch.specs.declared.slots.AccountSlot.{AccountSlot}
use Rattle.posting_batch.specs.declared.slots.BranchSlot.{BranchSlot}
use Rattle.posting_batch.specs.declared.slots.FloorSlot.{FloorSlot}
use Rattle.posting_batch.specs.declared.slots.RequestSlot.{RequestSlot}
use Rattle.posting_batch.specs.declared.slots.TellerSlot.{TellerSlot}
use Rattle.posting_batch.specs.Batch.{filled}
use Rattle.posting_batch.specs.Overlay.{Overlay}
use Rattle.posting_batch.specs.Slots.{in_slot, row_of_slot, branch_slot_key, slot_floor}
use Rattle.store_rows.specs.believed.Readings.{read_branch}
use Rattle.sqlite.specs.Effect.{Database}
use Rattle.store_rows.specs.believed.Rules.{OfRows, StoredRows, branch_under}
use Rattle.store_rows.specs.believed.Stored.{FindsStored}
use Rattle.store_rows.specs.declared.fault.TableFault.{TableFault}
use Rattle.bank_transactions.specs.believed.Stored.{HoldsAccount, HoldsDecided, HoldsFloor, HoldsKept, HoldsNumbers}
use Rattle.bank_transactions.specs.Stored.{HoldsTellerRow}

-- this is the answer, where the call was answered
abbrev pub handing : {X Y : Type 0} → Y → Result X TableFault → Result Y TableFault
handing y (Ok x) = Ok y
handing y (Err e) = Err e

-- nothing is damaged, and this is the row of the branch under a number, where it is open
abbrev pub HasBranch : Option BranchRow → ℕ → Tables → Type 0
HasBranch branch n t = IsUndamaged t × (branch ≡ row_at branch_key t.branches n)

-- the slot under a number tells the row of that branch
abbrev pub TellsBranch : List BranchSlot → Tables → ℕ → Type 0
TellsBranch slots t n = in_slot row_of_slot (row_at branch_slot_key slots n) ≡ row_at branch_key t.branches n

-- the slot of a request, with what closed books say of it, and with what is kept of it
abbrev pub books_filled : Tables → RequestSlot → RequestSlot
books_filled t s = record s { books = books_of t.closings s.teller s.number }

abbrev pub kept_filled : Tables → RequestSlot → RequestSlot
kept_filled t s = record s { kept = kept_in t.requests t.references s.teller s.number }

-- the slot says of closed books what these runs say
abbrev pub TellsBooks : List ClosingRow → RequestSlot → Type 0
TellsBooks runs s = s.books ≡ books_of runs s.teller s.number

-- as these runs say
abbrev pub told_by : List ClosingRow → RequestSlot → RequestSlot
told_by runs s = record s { books = books_of runs s.teller s.number }

-- what is said where one run says the first and others the second
abbrev pub books_with : Books → Books → Books
books_with Closed others = Closed
books_with Sealed Current = Sealed
books_with Sealed others = others
books_with Current others = others

-- the slot, with what one run more says
abbrev pub told_more : ClosingRow → RequestSlot → RequestSlot
told_more r s = record s { books = books_with (books_of (r ∷ []) s.teller s.number) s.books }

-- the slot, without what is kept of its request
abbrev pub unkept : RequestSlot → RequestSlot
unkept s = record s { kept = None }

-- the slot, without what closed books say
abbrev pub unbooked : RequestSlot → RequestSlot
unbooked s = record s { books = Current }

-- the rows filled from tables, but for those of requests
abbrev pub with_rows : Tables → Overlay → Overlay
with_rows t o = record (filled t o) { kept = o.kept }

-- and what closed books say of them
abbrev pub known : Tables → Overlay → Overlay
known t o = record (filled t o) { kept = map (books_filled t) o.kept }

-- ---- of whatever rows a file holds

-- the slot, without what it is filled with
abbrev pub emptied_branch : BranchSlot → BranchSlot
emptied_branch s = record s { stored = None }

abbrev pub emptied_floor : FloorSlot → FloorSlot
emptied_floor s = record s { floor = None }

abbrev pub emptied_teller : TellerSlot → TellerSlot
emptied_teller s = record s { stored = None }

abbrev pub emptied_account : AccountSlot → AccountSlot
emptied_account s = record s { stored = None }

abbrev pub emptied_request : RequestSlot → RequestSlot
emptied_request s = record s { kept = None; books = Current }

-- the overlay, without what it is filled with
abbrev pub emptied : Overlay → Overlay
emptied o = record o {
  branches = map emptied_branch o.branches;
  floors = map emptied_floor o.floors;
  tellers = map emptied_teller o.tellers;
  accounts = map emptied_account o.accounts;
  kept = map emptied_request o.kept;
  decided = 0;
}

-- the row of a branch as it is stored, none where it has none
abbrev pub HoldsBranch : StoredRows → ℕ → Option BranchRow → Type 0
HoldsBranch rows n row = FindsStored (branch_under rows n) read_branch (Ok row)

-- the slot has what the rows hold under its key
abbrev pub BranchHeld : StoredRows → BranchSlot → Type 0
BranchHeld rows s = HoldsBranch rows s.branch s.stored

abbrev pub FloorHeld : StoredRows → FloorSlot → Type 0
FloorHeld rows s = HoldsFloor rows s.branch s.floor

abbrev pub TellerHeld : StoredRows → TellerSlot → Type 0
TellerHeld rows s = HoldsTellerRow rows s.teller s.stored

abbrev pub AccountHeld : StoredRows → AccountSlot → Type 0
AccountHeld rows s = HoldsAccount rows s.account s.stored

abbrev pub RequestHeld : StoredRows → RequestSlot → Type 0
RequestHeld rows s = HoldsKept rows s.teller s.number s.kept

-- each slot has, but for those of requests, and the count is that of the rows
pub record RowsAreKnown (rows : StoredRows) (o : Overlay) : Type 0 where
  pub branches : AllByRecursion (BranchHeld rows) o.branches
  pub floors : AllByRecursion (FloorHeld rows) o.floors
  pub tellers : AllByRecursion (TellerHeld rows) o.tellers
  pub accounts : AllByRecursion (AccountHeld rows) o.accounts
  pub decided : HoldsDecided rows o.decided

-- each slot has, and the count is that of the rows
pub record AreHeld (rows : StoredRows) (o : Overlay) : Type 0 where
  pub branches : AllByRecursion (BranchHeld rows) o.branches
  pub floors : AllByRecursion (FloorHeld rows) o.floors
  pub tellers : AllByRecursion (TellerHeld rows) o.tellers
  pub accounts : AllByRecursion (AccountHeld rows) o.accounts
  pub kept : AllByRecursion (RequestHeld rows) o.kept
  pub decided : HoldsDecided rows o.decided

-- what closed books say of the slots is by the numbers that the rows close
abbrev pub Closes : Database → List RequestSlot → Type 0
Closes db slots = (runs : List ClosingRow) × AllByRecursion (TellsBooks runs) slots
    × OfRows (λ rows. HoldsNumbers rows runs) db

-- ---- whatever tables a file has

-- the row is that of a branch, whose number this is
abbrev pub IsRowOf : ℕ → BranchRow → Type 0
IsRowOf n row = (row.branch ≡ n) × (whole_within 1 MAX_BRANCH n ≡ Some n)

-- the row that the slot has is that of its branch
abbrev pub HasOwnRow : BranchSlot → Type 0
HasOwnRow s = IfSome s.stored (IsRowOf s.branch)

-- the slot under a number tells the row of that branch as it is stored
abbrev pub TellsStored : List BranchSlot → StoredRows → ℕ → Type 0
TellsStored slots rows n = HoldsBranch rows n (in_slot row_of_slot (row_at branch_slot_key slots n))

-- the slot under a number tells the floor of that branch as it is stored
abbrev pub TellsFloor : List FloorSlot → StoredRows → ℕ → Type 0
TellsFloor slots rows n = HoldsFloor rows n (slot_floor slots n)
