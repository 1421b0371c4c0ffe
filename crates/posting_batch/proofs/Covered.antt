-- Slots that are placed for records, and filled from tables.
use Rattle.std.proofs.Common.{◌≡◌, ℕ, Bool, eqb, List, [], ◌∷◌, map, Option, Some, None, Result, Ok, Err, refl, sym}
use Rattle.std.proofs.Common.{ap, subst, ◌∙◌, inl, inr}
use Rattle.std.specs.{Prelude.IsSome, Prelude.IfSome, List.find, List.AllByRecursion, Option.option_map}
use Rattle.std.proofs.lemmas.Bool.{and_parts, eqb-true}
use Rattle.message_records.specs.{declared.fault.Bad.Bad, believed.Records.RequestFields}
use Rattle.posting_rules.specs.believed.Closings.{books_of}
use Rattle.posting_rules.specs.believed.Numbering.{branch_of_teller, branch_of_account}
use Rattle.posting_rules.specs.believed.LookUps.{kept_in, account_balance_in, balance_of_teller, floor_in}
use Rattle.posting_rules.specs.believed.Tables.{Tables, row_at, branch_key, teller_key, account_key}
use Rattle.posting_rules.proofs.Keyed.{by_test}
use Rattle.posting_batch.specs.declared.slots.RequestSlot.{RequestSlot}
use Rattle.posting_batch.specs.Batch.{with_branch_slot, covering, covering_all, no_slots, CoversRead, CoversAll}
use Rattle.posting_batch.specs.Batch.{HasRisingSlots, HasHomes, HasNoChange, filled, branch_filled, floor_filled}
use Rattle.posting_batch.specs.Batch.{teller_filled, account_filled, request_filled}
use Rattle.posting_batch.specs.Overlay.{Overlay, by_slot, over, put_account, put_teller, put_branch, tables_over}
use Rattle.posting_batch.specs.Placed.{placed, number_below, number_same, request_below}
use Rattle.posting_batch.specs.Slots.{is_for, account_slot_key, teller_slot_key, branch_slot_key, floor_slot_key}
use Rattle.posting_batch.specs.Slots.{empty_account, empty_teller, empty_branch, empty_floor}
use Rattle.posting_batch.proofs.{KeptSlots.find-map, Orders.all-placed, Orders.rising_mapped, KeptSlots.there_mapped}
use Rattle.posting_batch.proofs.{Overlaid.Fits, Overlaid.tables_made, SlotsInOrder.made_all}
use Rattle.posting_batch.proofs.SlotsForRecords.{has_number, keeps_number, covers_all}

-- ---- the branch of each teller and of each account has a slot, and so has the floor of each account's branch

homes_kept : {S T : Type 0} (key : T → ℕ) (branch_of : S → ℕ) (e : T) (slots : List T) (xs : List S)
    → AllByRecursion (λ s. IsSome (row_at key slots (branch_of s))) xs
    → AllByRecursion (λ s. IsSome (row_at key (placed (number_below key) (number_same key) e slots) (branch_of s)))
    xs
homes_kept key branch_of e slots [] all = tt
homes_kept key branch_of e slots (x ∷ xs) all =
    (keeps_number key e slots (branch_of x) all.0, homes_kept key branch_of e slots xs all.1)

homes_with : (o : Overlay) (read : Result RequestFields Bad) → HasHomes o → HasHomes (covering o read)
homes_with o (Err fault) has = has
homes_with o (Ok r) has =
    let home = empty_branch (branch_of_teller r.teller) in
    let its = empty_branch (branch_of_account r.account) in
    let first = with_branch_slot (branch_of_teller r.teller) o.branches in
    record {
      tellers = all-placed (number_below teller_slot_key) (number_same teller_slot_key)
          (empty_teller r.teller)
          (λ s. IsSome (row_at branch_slot_key (covering o (Ok r)).branches (branch_of_teller s.teller)))
          o.tellers
          (keeps_number branch_slot_key its first (branch_of_teller r.teller)
          (has_number branch_slot_key home o.branches))
          (homes_kept branch_slot_key (λ s. branch_of_teller s.teller) its first o.tellers
          (homes_kept branch_slot_key (λ s. branch_of_teller s.teller) home o.branches o.tellers has.tellers));
      accounts = all-placed (number_below account_slot_key) (number_same account_slot_key)
          (empty_account r.account)
          (λ s. IsSome (row_at branch_slot_key (covering o (Ok r)).branches (branch_of_account s.account)))
          o.accounts (has_number branch_slot_key its first)
          (homes_kept branch_slot_key (λ s. branch_of_account s.account) its first o.accounts
          (homes_kept branch_slot_key (λ s. branch_of_account s.account) home o.branches o.accounts
          has.accounts));
      floors = all-placed (number_below account_slot_key) (number_same account_slot_key)
          (empty_account r.account)
          (λ s. IsSome (row_at floor_slot_key (covering o (Ok r)).floors (branch_of_account s.account)))
          o.accounts (has_number floor_slot_key (empty_floor (branch_of_account r.account)) o.floors)
          (homes_kept floor_slot_key (λ s. branch_of_account s.account)
          (empty_floor (branch_of_account r.account)) o.floors o.accounts has.floors);
    }

homes_on : (o : Overlay) (reads : List (Result RequestFields Bad)) → HasHomes o
    → HasHomes (covering_all o reads)
homes_on o [] has = has
homes_on o (read ∷ reads) has = homes_on (covering o read) reads (homes_with o read has)

pub homes_all : (reads : List (Result RequestFields Bad)) → HasHomes (covering_all no_slots reads)
homes_all reads = homes_on no_slots reads (record { tellers = tt; accounts = tt; floors = tt })

-- ---- slots that are filled

found_filled : {S : Type 0} (test : S → Bool) (f : S → S) → ((s : S) → test (f s) ≡ test s) → (slots : List S)
    → IsSome (find test slots) → IsSome (find test (map f slots))
found_filled {S} test f same slots there = subst (λ (o : Option S). IsSome o)
    (sym (find-map test f same slots)) (there_mapped f (find test slots) there)

covers_filled : (o : Overlay) (t : Tables) (read : Result RequestFields Bad) → CoversRead o read
    → CoversRead (filled t o) read
covers_filled o t (Err fault) covers = tt
covers_filled o t (Ok r) covers = record {
  branch = found_filled (λ s. eqb s.branch (branch_of_teller r.teller)) (branch_filled t)
      (λ s. refl) o.branches covers.branch;
  teller = found_filled (λ s. eqb s.teller r.teller) (teller_filled t) (λ s. refl) o.tellers covers.teller;
  account = found_filled (λ s. eqb s.account r.account) (account_filled t)
      (λ s. refl) o.accounts covers.account;
  its_branch = found_filled (λ s. eqb s.branch (branch_of_account r.account)) (branch_filled t)
      (λ s. refl) o.branches covers.its_branch;
  its_floor = found_filled (λ s. eqb s.branch (branch_of_account r.account)) (floor_filled t)
      (λ s. refl) o.floors covers.its_floor;
  kept = found_filled (is_for r.teller r.number) (request_filled t) (λ s. refl) o.kept covers.kept;
}

all_covered : (o : Overlay) (t : Tables) (reads : List (Result RequestFields Bad)) → CoversAll o reads
    → CoversAll (filled t o) reads
all_covered o t [] all = tt
all_covered o t (read ∷ reads) all = (covers_filled o t read all.0, all_covered o t reads all.1)

all_mapped : {S : Type 0} (P : S → Type 0) (f : S → S) → ((s : S) → P s → P (f s)) → (slots : List S)
    → AllByRecursion P slots → AllByRecursion P (map f slots)
all_mapped P f keeps [] all = tt
all_mapped P f keeps (s ∷ slots) all = (keeps s all.0, all_mapped P f keeps slots all.1)

unchanged_filled : (o : Overlay) (t : Tables) → HasNoChange o → HasNoChange (filled t o)
unchanged_filled o t un = record {
  branches = all_mapped (λ s. s.changed ≡ None) (branch_filled t) (λ s h. h) o.branches un.branches;
  tellers = all_mapped (λ s. s.changed ≡ None) (teller_filled t) (λ s h. h) o.tellers un.tellers;
  accounts = all_mapped (λ s. s.changed ≡ None) (account_filled t) (λ s h. h) o.accounts un.accounts;
  history = un.history;
  requests = un.requests;
  references = un.references;
}

rising_filled : (o : Overlay) (t : Tables) → HasRisingSlots o → HasRisingSlots (filled t o)
rising_filled o t rising = record {
  branches = rising_mapped (number_below branch_slot_key) (branch_filled t)
      (λ a b. refl) o.branches rising.branches;
  floors = rising_mapped (number_below floor_slot_key) (floor_filled t)
      (λ a b. refl) o.floors rising.floors;
  tellers = rising_mapped (number_below teller_slot_key) (teller_filled t)
      (λ a b. refl) o.tellers rising.tellers;
  accounts = rising_mapped (number_below account_slot_key) (account_filled t)
      (λ a b. refl) o.accounts rising.accounts;
  kept = rising_mapped request_below (request_filled t) (λ a b. refl) o.kept rising.kept;
}

-- what is so of each slot under its own key is so of the one that is found under a key
pub filled_at : {S : Type 0} (key : S → ℕ) (f : S → S) (P : ℕ → S → Type 0) → ((s : S) → P (key (f s)) (f s))
    → (slots : List S) (n : ℕ)
    → IfSome (row_at key (map f slots) n) (P n)
filled_at key f P makes [] n = tt
filled_at key f P makes (s ∷ slots) n =
    elim (by_test (eqb (key (f s)) n)) [
      | inl t ↦ rw t (subst (λ (j : ℕ). P j (f s)) (eqb-true (key (f s)) n t) (makes s))
      | inr g ↦ rw g (filled_at key f P makes slots n)
    ]

-- what the slot of a teller and a number is filled with is theirs
filled_for : {X : Type 0} (t : Tables) (tells : RequestSlot → X) (of : ℕ → ℕ → X)
    → ((s : RequestSlot) → tells (request_filled t s) ≡ of s.teller s.number)
    → (slots : List RequestSlot) (n m : ℕ)
    → IfSome (find (is_for n m) (map (request_filled t) slots)) (λ s. tells s ≡ of n m)
filled_for t tells of is [] n m = tt
filled_for t tells of is (s ∷ slots) n m =
    elim (by_test (is_for n m s)) [
      | inl h ↦
          let both = and_parts (eqb s.teller n) (eqb s.number m) h in
          rw h (is s ∙ ap (λ (j : ℕ). of j s.number) (eqb-true s.teller n both.0)
          ∙ ap (λ (j : ℕ). of n j) (eqb-true s.number m both.1))
      | inr g ↦ rw g (filled_for t tells of is slots n m)
    ]

-- an overlay in which nothing is changed leaves rows as they are
found_all : {S : Type 0} (P : S → Type 0) (test : S → Bool) (slots : List S) → AllByRecursion P slots
    → IfSome (find test slots) P
found_all P test [] all = tt
found_all P test (s ∷ slots) all =
    elim (by_test (test s)) [ inl t ↦ rw t all.0 | inr f ↦ rw f (found_all P test slots all.1) ]

same_rows : {S R : Type 0} (slot_key : S → ℕ) (key : R → ℕ) (put : S → R → R) (slots : List S)
    → ((n : ℕ) (r : R) → IfSome (row_at slot_key slots n) (λ s. put s r ≡ r))
    → (rows : List R) → over slot_key key put slots rows ≡ rows
same_rows slot_key key put slots same [] = refl
same_rows {S} {R} slot_key key put slots same (r ∷ rows) =
    ap (λ (x : R). x ∷ over slot_key key put slots rows)
    (one (row_at slot_key slots (key r)) (same (key r) r))
    ∙ ap (λ (xs : List R). r ∷ xs) (same_rows slot_key key put slots same rows)
  where
    one : (o : Option S) → IfSome o (λ s. put s r ≡ r) → by_slot put o r ≡ r
    one None is = refl
    one (Some s) is = is

weaker : {S : Type 0} (P Q : S → Type 0) → ((s : S) → P s → Q s) → (o : Option S) → IfSome o P → IfSome o Q
weaker P Q so None h = tt
weaker P Q so (Some s) h = so s h

unchanged_over : (o : Overlay) (t : Tables) → HasNoChange o → o.decided ≡ t.decided → tables_over o t ≡ t
unchanged_over o t un counted =
    tables_made _ _ _ _ _ _ _ _ _ _ _ _ _ _ _ _ counted
    (same_rows branch_slot_key branch_key put_branch o.branches
    (λ n r. weaker (λ s. s.changed ≡ None) (λ s. put_branch s r ≡ r) (λ s h. rw h refl)
    (row_at branch_slot_key o.branches n)
    (found_all (λ s. s.changed ≡ None) (λ s. eqb s.branch n) o.branches un.branches)) t.branches)
    (same_rows teller_slot_key teller_key put_teller o.tellers
    (λ n r. weaker (λ s. s.changed ≡ None) (λ s. put_teller s r ≡ r) (λ s h. rw h refl)
    (row_at teller_slot_key o.tellers n)
    (found_all (λ s. s.changed ≡ None) (λ s. eqb s.teller n) o.tellers un.tellers)) t.tellers)
    (same_rows account_slot_key account_key put_account o.accounts
    (λ n r. weaker (λ s. s.changed ≡ None) (λ s. put_account s r ≡ r) (λ s h. rw h refl)
    (row_at account_slot_key o.accounts n)
    (found_all (λ s. s.changed ≡ None) (λ s. eqb s.account n) o.accounts un.accounts)) t.accounts)
    (rw un.history refl) (rw un.requests refl) (rw un.references refl)

-- ---- slots that were made for records, filled from tables

-- they tell what is in the tables, change nothing yet, stand in order, and cover all that the records can
-- touch
pub record Stands (o : Overlay) (t : Tables) (reads : List (Result RequestFields Bad)) : Type 0 where
  pub fits : Fits o t
  pub same : tables_over o t ≡ t
  pub unchanged : HasNoChange o
  pub rising : HasRisingSlots o
  pub covers : CoversAll o reads

pub stands : (t : Tables) (reads : List (Result RequestFields Bad))
    → Stands (filled t (covering_all no_slots reads)) t reads
stands t reads =
    let o = covering_all no_slots reads in
    let made = made_all reads in
    let un = unchanged_filled o t made.unchanged in
    let is = unchanged_over (filled t o) t un refl in
    record {
      fits = record {
        branches = λ n. filled_at branch_slot_key (branch_filled t)
            (λ k s. s.stored ≡ row_at branch_key t.branches k) (λ s. refl) o.branches n;
        floors = λ n. filled_at floor_slot_key (floor_filled t) (λ k s. s.floor ≡ floor_in t k)
            (λ s. refl) o.floors n;
        tellers = λ n. filled_at teller_slot_key (teller_filled t)
            (λ k s. s.stored ≡ option_map balance_of_teller (row_at teller_key t.tellers k))
            (λ s. refl) o.tellers n;
        accounts = λ n. filled_at account_slot_key (account_filled t)
            (λ k s. s.stored ≡ account_balance_in t k) (λ s. refl) o.accounts n;
        kept = λ n m. subst (λ (u : Tables). IfSome (find (is_for n m) (filled t o).kept)
            (λ s. s.kept ≡ kept_in u.requests u.references n m)) (sym is)
            (filled_for t (λ s. s.kept) (kept_in t.requests t.references) (λ s. refl) o.kept n m);
        books = λ n m. filled_for t (λ s. s.books) (books_of t.closings) (λ s. refl) o.kept n m;
      };
      same = is;
      unchanged = un;
      rising = rising_filled o t made.rising;
      covers = all_covered o t reads (covers_all no_slots reads);
    }
