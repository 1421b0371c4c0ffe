-- Slots that were placed for records stand in their order, and nothing is changed in them.
use Rattle.std.proofs.Common.{◌≡◌, List, [], ◌∷◌, None, Result, Ok, Err, refl}
use Rattle.message_records.specs.{declared.fault.Bad.Bad, believed.Records.RequestFields}
use Rattle.posting_rules.specs.believed.Numbering.{branch_of_teller, branch_of_account}
use Rattle.posting_batch.specs.Batch.{with_branch_slot, covering, covering_all, no_slots, HasRisingSlots, HasNoChange}
use Rattle.posting_batch.specs.Overlay.{Overlay}
use Rattle.posting_batch.specs.Placed.{number_below, number_same, request_below, request_same}
use Rattle.posting_batch.specs.Slots.{account_slot_key, teller_slot_key, branch_slot_key, empty_account, empty_teller}
use Rattle.posting_batch.specs.Slots.{empty_branch, empty_floor, empty_request, floor_slot_key}
use Rattle.posting_batch.proofs.Orders.{all-placed, placed_rises, number_order, request_order}

-- so are slots that were made
pub record IsMade (o : Overlay) : Type 0 where
  pub unchanged : HasNoChange o
  pub rising : HasRisingSlots o

made_with : (o : Overlay) (read : Result RequestFields Bad) → IsMade o → IsMade (covering o read)
made_with o (Err fault) made = made
made_with o (Ok r) made =
    let home = empty_branch (branch_of_teller r.teller) in
    let its = empty_branch (branch_of_account r.account) in
    let first = with_branch_slot (branch_of_teller r.teller) o.branches in
    record {
      unchanged = record {
        branches = all-placed (number_below branch_slot_key) (number_same branch_slot_key) its
            (λ s. s.changed ≡ None) first refl
            (all-placed (number_below branch_slot_key) (number_same branch_slot_key) home
            (λ s. s.changed ≡ None) o.branches refl made.unchanged.branches);
        tellers = all-placed (number_below teller_slot_key) (number_same teller_slot_key)
            (empty_teller r.teller) (λ s. s.changed ≡ None) o.tellers refl made.unchanged.tellers;
        accounts = all-placed (number_below account_slot_key) (number_same account_slot_key)
            (empty_account r.account) (λ s. s.changed ≡ None) o.accounts refl
            made.unchanged.accounts;
        history = made.unchanged.history;
        requests = made.unchanged.requests;
        references = made.unchanged.references;
      };
      rising = record {
        branches = placed_rises (number_below branch_slot_key) (number_same branch_slot_key)
            (number_order branch_slot_key) its first
            (placed_rises (number_below branch_slot_key) (number_same branch_slot_key)
            (number_order branch_slot_key) home o.branches made.rising.branches);
        floors = placed_rises (number_below floor_slot_key) (number_same floor_slot_key)
            (number_order floor_slot_key) (empty_floor (branch_of_account r.account)) o.floors
            made.rising.floors;
        tellers = placed_rises (number_below teller_slot_key) (number_same teller_slot_key)
            (number_order teller_slot_key) (empty_teller r.teller) o.tellers made.rising.tellers;
        accounts = placed_rises (number_below account_slot_key) (number_same account_slot_key)
            (number_order account_slot_key) (empty_account r.account) o.accounts
            made.rising.accounts;
        kept = placed_rises request_below request_same request_order
            (empty_request r.teller r.number) o.kept made.rising.kept;
      };
    }

made_on : (o : Overlay) (reads : List (Result RequestFields Bad)) → IsMade o → IsMade (covering_all o reads)
made_on o [] made = made
made_on o (read ∷ reads) made = made_on (covering o read) reads (made_with o read made)

pub made_all : (reads : List (Result RequestFields Bad)) → IsMade (covering_all no_slots reads)
made_all reads = made_on no_slots reads (record {
  unchanged = record {
    branches = tt;
    tellers = tt;
    accounts = tt;
    history = refl;
    requests = refl;
    references = refl;
  };
  rising = record { branches = tt; floors = tt; tellers = tt; accounts = tt; kept = tt };
})
