-- Every key that a record can touch has its slot, and keeps it.
use Rattle.std.proofs.Common.{◌≡◌, ℕ, true, eqb, List, [], ◌∷◌, Result, Ok, Err, refl}
use Rattle.std.specs.{Prelude.IsSome, List.find}
use Rattle.std.proofs.lemmas.Bool.{eq-eqb}
use Rattle.message_records.specs.{declared.fault.Bad.Bad, believed.Records.RequestFields}
use Rattle.posting_rules.specs.believed.{Numbering.branch_of_teller, Numbering.branch_of_account, Tables.row_at}
use Rattle.posting_batch.specs.{declared.slots.RequestSlot.RequestSlot, Overlay.Overlay}
use Rattle.posting_batch.specs.Batch.{with_branch_slot, covering, covering_all, CoversRead, CoversAll}
use Rattle.posting_batch.specs.Placed.{placed, number_below, number_same, request_below, request_same}
use Rattle.posting_batch.specs.Slots.{is_for, account_slot_key, teller_slot_key, branch_slot_key, empty_account}
use Rattle.posting_batch.specs.Slots.{empty_teller, empty_branch, empty_floor, empty_request, floor_slot_key}
use Rattle.posting_batch.proofs.Orders.{placed_has, placed_keeps}

-- ---- one slot is placed

module _ {S : Type 0} (key : S → ℕ) (e : S) (xs : List S) where
  pub has_number : IsSome (row_at key (placed (number_below key) (number_same key) e xs) (key e))
  has_number = placed_has (number_below key) (number_same key) e (eq-eqb (key e) (key e) refl) xs

  pub keeps_number : (n : ℕ) → IsSome (row_at key xs n)
      → IsSome (row_at key (placed (number_below key) (number_same key) e xs) n)
  keeps_number n there = placed_keeps (number_below key) (number_same key) e (λ s. eqb (key s) n) xs there

own : (e : RequestSlot) → request_same e e ≡ true
own e =
    let p : eqb e.teller e.teller ≡ true = eq-eqb e.teller e.teller refl in
    let q : eqb e.number e.number ≡ true = eq-eqb e.number e.number refl in
    rw (p, q) refl

has_request : (e : RequestSlot) (xs : List RequestSlot)
    → IsSome (find (is_for e.teller e.number) (placed request_below request_same e xs))
has_request e xs = placed_has request_below request_same e (own e) xs

-- ---- slots for a record

covers_new : (o : Overlay) (read : Result RequestFields Bad) → CoversRead (covering o read) read
covers_new o (Err fault) = tt
covers_new o (Ok r) =
    let first = with_branch_slot (branch_of_teller r.teller) o.branches in
    record {
      branch = keeps_number branch_slot_key (empty_branch (branch_of_account r.account)) first
          (branch_of_teller r.teller)
          (has_number branch_slot_key (empty_branch (branch_of_teller r.teller)) o.branches);
      teller = has_number teller_slot_key (empty_teller r.teller) o.tellers;
      account = has_number account_slot_key (empty_account r.account) o.accounts;
      its_branch = has_number branch_slot_key (empty_branch (branch_of_account r.account)) first;
      its_floor = has_number floor_slot_key (empty_floor (branch_of_account r.account)) o.floors;
      kept = has_request (empty_request r.teller r.number) o.kept;
    }

covers_still : (o : Overlay) (read other : Result RequestFields Bad) → CoversRead o other
    → CoversRead (covering o read) other
covers_still o (Err fault) other covers = covers
covers_still o (Ok r) (Err fault) covers = tt
covers_still o (Ok r) (Ok q) covers =
    let first = with_branch_slot (branch_of_teller r.teller) o.branches in
    let keeps : (n : ℕ) → IsSome (row_at branch_slot_key o.branches n) → IsSome
    (row_at branch_slot_key (covering o (Ok r)).branches n) =
    λ n there. keeps_number branch_slot_key (empty_branch (branch_of_account r.account)) first n
    (keeps_number branch_slot_key (empty_branch (branch_of_teller r.teller)) o.branches n there) in
    record {
      branch = keeps (branch_of_teller q.teller) covers.branch;
      teller = keeps_number teller_slot_key (empty_teller r.teller) o.tellers q.teller covers.teller;
      account = keeps_number account_slot_key (empty_account r.account) o.accounts q.account covers.account;
      its_branch = keeps (branch_of_account q.account) covers.its_branch;
      its_floor = keeps_number floor_slot_key (empty_floor (branch_of_account r.account)) o.floors
          (branch_of_account q.account) covers.its_floor;
      kept = placed_keeps request_below request_same (empty_request r.teller r.number) (is_for q.teller q.number) o.kept covers.kept;
    }

covers_on : (o : Overlay) (reads : List (Result RequestFields Bad)) (other : Result RequestFields Bad)
    → CoversRead o other → CoversRead (covering_all o reads) other
covers_on o [] other covers = covers
covers_on o (read ∷ reads) other covers = covers_on (covering o read) reads other
    (covers_still o read other covers)

pub covers_all : (o : Overlay) (reads : List (Result RequestFields Bad))
    → CoversAll (covering_all o reads) reads
covers_all o [] = tt
covers_all o (read ∷ reads) = (
  covers_on (covering o read) reads read (covers_new o read),
  covers_all (covering o read) reads,
)
