-- The overlay of a batch: what is known of the rows that its records can touch, and the rows that are new.
use Rattle.std.specs.Prelude.{ℕ, ℤ, List, [], ◌∷◌, map, Option, Some, None}
use Rattle.posting_rules.specs.declared.rows.BranchRow.{BranchRow}
use Rattle.posting_rules.specs.declared.rows.TellerRow.{TellerRow}
use Rattle.posting_rules.specs.declared.rows.AccountRow.{AccountRow}
use Rattle.posting_rules.specs.declared.rows.HistoryRow.{HistoryRow}
use Rattle.posting_rules.specs.declared.rows.RequestRow.{RequestRow}
use Rattle.posting_rules.specs.declared.rows.ReferenceRow.{ReferenceRow}
use Rattle.posting_rules.specs.believed.Changes.{row_put}
use Rattle.posting_rules.specs.ChangesByKey.{with_branch_balance, with_teller_balance, with_account_balance}
use Rattle.posting_rules.specs.believed.Tables.{Tables, row_at, branch_key, teller_key, account_key, history_key}
use Rattle.posting_rules.specs.believed.Tables.{request_key, reference_key}
use Rattle.posting_batch.specs.declared.slots.AccountSlot.{AccountSlot}
use Rattle.posting_batch.specs.declared.slots.TellerSlot.{TellerSlot}
use Rattle.posting_batch.specs.declared.slots.BranchSlot.{BranchSlot}
use Rattle.posting_batch.specs.declared.slots.FloorSlot.{FloorSlot}
use Rattle.posting_batch.specs.declared.slots.RequestSlot.{RequestSlot}
use Rattle.posting_batch.specs.Slots.{account_slot_key, teller_slot_key, branch_slot_key}

pub record Overlay : Type 0 where
  pub branches : List BranchSlot
  pub floors : List FloorSlot
  pub tellers : List TellerSlot
  pub accounts : List AccountSlot
  pub kept : List RequestSlot
  -- how many requests are decided
  pub decided : ℕ
  -- the rows that are new, in the order of their ordinals
  pub history : List HistoryRow
  pub requests : List RequestRow
  -- and the references of those that have one
  pub references : List ReferenceRow

-- ---- rows of one table under slots

-- a row with what its slot says
abbrev pub by_slot : {S R : Type 0} → (S → R → R) → Option S → R → R
by_slot put None row = row
by_slot put (Some s) row = put s row

-- rows, of which those with a slot are as it says
abbrev pub over : {S R : Type 0} → (S → ℕ) → (R → ℕ) → (S → R → R) → List S → List R → List R
over slot_key key put slots rows = map (λ row. by_slot put (row_at slot_key slots (key row)) row) rows

-- a row with the balance that it is to have
abbrev pub changed_to : {R : Type 0} → (ℤ → R → R) → Option ℤ → R → R
changed_to set None row = row
changed_to set (Some z) row = set z row

abbrev pub put_account : AccountSlot → AccountRow → AccountRow
put_account s row = changed_to with_account_balance s.changed row

abbrev pub put_teller : TellerSlot → TellerRow → TellerRow
put_teller s row = changed_to with_teller_balance s.changed row

abbrev pub put_branch : BranchSlot → BranchRow → BranchRow
put_branch s row = changed_to with_branch_balance s.changed row

-- rows with new ones put in, one after another
abbrev pub each_put : {R : Type 0} → (R → ℕ) → List R → List R → List R
each_put key [] rows = rows
each_put key (r ∷ rs) rows = each_put key rs (row_put key r rows)

-- ---- tables under an overlay

abbrev pub accounts_over : List AccountSlot → Tables → Tables
accounts_over slots t = record t { accounts = over account_slot_key account_key put_account slots t.accounts }

abbrev pub tellers_over : List TellerSlot → Tables → Tables
tellers_over slots t = record t { tellers = over teller_slot_key teller_key put_teller slots t.tellers }

abbrev pub branches_over : List BranchSlot → Tables → Tables
branches_over slots t = record t { branches = over branch_slot_key branch_key put_branch slots t.branches }

abbrev pub history_put : List HistoryRow → Tables → Tables
history_put rows t = record t { history = each_put history_key rows t.history }

abbrev pub requests_put : List RequestRow → Tables → Tables
requests_put rows t = record t { requests = each_put request_key rows t.requests }

abbrev pub references_put : List ReferenceRow → Tables → Tables
references_put rows t = record t { references = each_put reference_key rows t.references }

abbrev pub decided_put : ℕ → Tables → Tables
decided_put decided t = record t { decided = decided }

-- the tables with the changed rows and the new ones put in, and the count
abbrev pub tables_over : Overlay → Tables → Tables
tables_over o t =
    decided_put o.decided (references_put o.references (requests_put o.requests (history_put o.history
    (branches_over o.branches (tellers_over o.tellers (accounts_over o.accounts t))))))
