-- Changes of the tables, and when they may be made.
use Rattle.std.specs.Prelude.{◌≡◌, ℕ, ℤ, List, Option, Some, None, IsSome, IfSome}
use Rattle.std.specs.List.{AllByRecursion}
use Rattle.message_records.specs.believed.Ranges.{whole_within}
use Rattle.message_records.specs.declared.limits.TheConstants.{MAX_BRANCH}
use Rattle.posting_rules.specs.declared.rows.HistoryRow.{HistoryRow}
use Rattle.posting_rules.specs.declared.rows.RequestRow.{RequestRow}
use Rattle.posting_rules.specs.declared.rows.ReferenceRow.{ReferenceRow}
use Rattle.posting_rules.specs.believed.Tables.{Tables, HasKeys, row_at, branch_key, teller_key, account_key}
use Rattle.posting_rules.specs.believed.Tables.{history_key, request_key, reference_key}
use Rattle.posting_batch.specs.declared.slots.AccountSlot.{AccountSlot}
use Rattle.posting_batch.specs.declared.slots.TellerSlot.{TellerSlot}
use Rattle.posting_batch.specs.declared.slots.BranchSlot.{BranchSlot}
use Rattle.posting_batch.specs.Batch.{AddsFreeRows, ChangesRows, HasRisingSlots, PutsFree}
use Rattle.posting_batch.specs.Overlay.{Overlay, accounts_over, branches_over, decided_put, history_put}
use Rattle.posting_batch.specs.Overlay.{references_put, tellers_over}
use Rattle.posting_batch.specs.Slots.{account_slot_key, teller_slot_key, branch_slot_key}

-- the tables with the balance that is changed, where one is
abbrev pub by_change : Option ℤ → (ℤ → Tables) → Tables → Tables
by_change None written t = t
by_change (Some z) written t = written z

-- each slot has a key of its own, and each changed one has its row
abbrev pub MayChange : {A R : Type 0} → (A → ℕ) → (A → Option ℤ) → (R → ℕ) → List R → List A → Type 0
MayChange slot_key changed key rows slots =
    HasKeys slot_key slots
    × AllByRecursion (λ s. IfSome (changed s) (λ z. IsSome (row_at key rows (slot_key s)))) slots

abbrev pub MayChangeAccounts : List AccountSlot → Tables → Type 0
MayChangeAccounts slots t = MayChange account_slot_key (λ s. s.changed) account_key t.accounts slots

abbrev pub MayChangeTellers : List TellerSlot → Tables → Type 0
MayChangeTellers slots t = MayChange teller_slot_key (λ s. s.changed) teller_key t.tellers slots

-- the number of each changed branch is one of branches
abbrev pub AreBranchNumbers : List BranchSlot → Type 0
AreBranchNumbers slots =
    AllByRecursion (λ s. IfSome s.changed (λ z. whole_within 1 MAX_BRANCH s.branch ≡ Some s.branch)) slots

abbrev pub MayChangeBranches : List BranchSlot → Tables → Type 0
MayChangeBranches slots t = MayChange branch_slot_key (λ s. s.changed) branch_key t.branches slots
    × AreBranchNumbers slots

-- the key of each new row is free by then
abbrev pub MayAddPostings : List HistoryRow → Tables → Type 0
MayAddPostings rows t = PutsFree history_key rows t.history

abbrev pub MayAddRequests : List RequestRow → Tables → Type 0
MayAddRequests rows t = PutsFree request_key rows t.requests

abbrev pub MayAddReferences : List ReferenceRow → Tables → Type 0
MayAddReferences rows t = PutsFree reference_key rows t.references

-- ---- a batch

-- the tables with what it changes, but for its requests
abbrev pub after_requests : Overlay → Tables → Tables
after_requests o t =
    decided_put o.decided (references_put o.references (history_put o.history
    (branches_over o.branches (tellers_over o.tellers (accounts_over o.accounts t)))))

-- all that it changes may be written
abbrev pub MayWrite : Overlay → Tables → Type 0
MayWrite o t = AreBranchNumbers o.branches × HasRisingSlots o × ChangesRows o t × AddsFreeRows o t

-- that may be written
abbrev pub MayWriteAfter : Overlay → Tables → Type 0
MayWriteAfter o t = HasRisingSlots o × ChangesRows o t × AreBranchNumbers o.branches
    × MayAddPostings o.history t × MayAddReferences o.references t
