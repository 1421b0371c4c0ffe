-- Records are judged one after another by slots that fit tables.
use Rattle.std.proofs.Common.{◌≡◌, ℕ, List, [], ◌∷◌, map, length, Option, Result, Ok, Err, refl, sym, ap}
use Rattle.std.proofs.Common.{subst, ◌∙◌, inl, inr}
use Rattle.std.specs.{Prelude.IsSome, List.find}
use Rattle.message_records.specs.declared.fault.Bad.{Bad}
use Rattle.message_records.specs.believed.{Reading.request_of, Records.RequestFields, Spelling.reply_spelling}
use Rattle.posting_rules.specs.declared.judgments.{Found.Found, Verdict.Verdict}
use Rattle.posting_rules.specs.declared.judgments.Verdict.TheVariants.{Unkept, Again, Refused, Posted}
use Rattle.posting_rules.specs.believed.{Cases.case_of, Cases.reply_in, Kept.KeptFields, Tables.Tables, Tables.row_at}
use Rattle.posting_rules.specs.believed.Changes.{row_changed, tables_past_all, reply_read, replies_past_all}
use Rattle.posting_rules.specs.believed.Numbering.{branch_of_teller, branch_of_account}
use Rattle.posting_rules.proofs.Keyed.{by_test}
use Rattle.posting_rules.proofs.RowChanges.{changed_at, key-changed_at, row_at-changed}
use Rattle.posting_batch.specs.{declared.slots.RequestSlot.RequestSlot, Overlay.Overlay, Overlay.tables_over}
use Rattle.posting_batch.specs.Batch.{Covers, CoversRead, CoversAll, HasRisingSlots}
use Rattle.posting_batch.specs.believed.Batch.{HasFreeOrdinals}
use Rattle.posting_batch.specs.Judging.{found_over, overlay_after, overlay_with, overlay_with_all, reply_over}
use Rattle.posting_batch.specs.Judging.{replies_over}
use Rattle.posting_batch.specs.Placed.{number_below, request_below, IsRising}
use Rattle.posting_batch.specs.Slots.{is_for, slots_kept, with_kept, account_slot_key, with_account_changed}
use Rattle.posting_batch.specs.Slots.{teller_slot_key, with_teller_changed, branch_slot_key, with_branch_changed}
use Rattle.posting_batch.proofs.{KeptSlots.slot_for-kept, Orders.rising_mapped, Overlaid.Fits, Overlaid.found_is}
use Rattle.posting_batch.proofs.StillFits.{with_is, with_fits, still_free}
use Rattle.posting_batch.proofs.KeptSlots.{there_mapped}

-- ---- slots go on covering what they covered

still_at : {S : Type 0} (key : S → ℕ) (k : ℕ) (set : S → S) → ((s : S) → key (set s) ≡ key s)
    → (slots : List S) (n : ℕ) → IsSome (row_at key slots n)
    → IsSome (row_at key (row_changed key set k slots) n)
still_at {S} key k set same slots n there =
    subst (λ (x : Option S). IsSome x) (sym (row_at-changed key k set same slots n))
    (there_mapped _ (row_at key slots n) there)

still_for : (n m : ℕ) (k : KeptFields) (slots : List RequestSlot) (a b : ℕ) → IsSome (find (is_for a b) slots)
    → IsSome (find (is_for a b) (slots_kept n m k slots))
still_for n m k slots a b there = subst (λ (x : Option RequestSlot). IsSome x)
    (sym (slot_for-kept n m k slots a b)) (there_mapped (with_kept n m k) (find (is_for a b) slots) there)

covers_after : (o : Overlay) (m : ℕ) (r q : RequestFields) (v : Verdict) → Covers o q
    → Covers (overlay_after o m r v) q
covers_after o m r q (Unkept x) covers = covers
covers_after o m r q (Again x) covers = covers
covers_after o m r q (Refused x) covers = record {
  branch = covers.branch;
  teller = covers.teller;
  account = covers.account;
  its_branch = covers.its_branch;
  its_floor = covers.its_floor;
  kept = still_for r.teller r.number _ o.kept q.teller q.number covers.kept;
}
covers_after o m r q (Posted a te b) covers = record {
  branch = still_at branch_slot_key (branch_of_teller r.teller) (with_branch_changed b) (λ s. refl) o.branches
      (branch_of_teller q.teller) covers.branch;
  teller = still_at teller_slot_key r.teller (with_teller_changed te)
      (λ s. refl) o.tellers q.teller covers.teller;
  account = still_at account_slot_key r.account (with_account_changed a)
      (λ s. refl) o.accounts q.account covers.account;
  its_branch = still_at branch_slot_key (branch_of_teller r.teller) (with_branch_changed b)
      (λ s. refl) o.branches (branch_of_account q.account) covers.its_branch;
  its_floor = covers.its_floor;
  kept = still_for r.teller r.number _ o.kept q.teller q.number covers.kept;
}

covers_with : (o : Overlay) (m : ℕ) (read other : Result RequestFields Bad) → CoversRead o other
    → CoversRead (overlay_with o m read) other
covers_with o m (Err fault) other covers = covers
covers_with o m (Ok r) (Err fault) covers = tt
covers_with o m (Ok r) (Ok q) covers = covers_after o m r q (case_of (found_over o r) r) covers

pub still_covers : (o : Overlay) (m : ℕ) (read : Result RequestFields Bad)
    (reads : List (Result RequestFields Bad)) → CoversAll o reads → CoversAll (overlay_with o m read) reads
still_covers o m read [] all = tt
still_covers o m read (other ∷ reads) all =
    (covers_with o m read other all.0, still_covers o m read reads all.1)

-- ---- and stay in their order

module _ {S : Type 0} (key : S → ℕ) (k : ℕ) (set : S → S) (same : (s : S) → key (set s) ≡ key s) where
  pub rising_changed : (slots : List S) → IsRising (number_below key) slots
      → IsRising (number_below key) (row_changed key set k slots)
  rising_changed slots rises =
      rising_mapped (number_below key) (changed_at key k set)
      (λ a b. rw (key-changed_at key k set same a, key-changed_at key k set same b) refl) slots rises

module _ (n m : ℕ) (k : KeptFields) where
  its_teller : (s : RequestSlot) → (with_kept n m k s).teller ≡ s.teller
  its_teller s = elim (by_test (is_for n m s)) [ inl t ↦ rw t refl | inr f ↦ rw f refl ]

  its_number : (s : RequestSlot) → (with_kept n m k s).number ≡ s.number
  its_number s = elim (by_test (is_for n m s)) [ inl t ↦ rw t refl | inr f ↦ rw f refl ]

  pub rising_kept : (slots : List RequestSlot) → IsRising request_below slots
      → IsRising request_below (slots_kept n m k slots)
  rising_kept slots rises =
      rising_mapped request_below (with_kept n m k)
      (λ a b. rw (its_teller a, its_teller b, its_number a, its_number b) refl) slots rises

rising_after : (o : Overlay) (m : ℕ) (r : RequestFields) (v : Verdict) → HasRisingSlots o
    → HasRisingSlots (overlay_after o m r v)
rising_after o m r (Unkept x) rising = rising
rising_after o m r (Again x) rising = rising
rising_after o m r (Refused x) rising = record {
  branches = rising.branches;
  floors = rising.floors;
  tellers = rising.tellers;
  accounts = rising.accounts;
  kept = rising_kept r.teller r.number _ o.kept rising.kept;
}
rising_after o m r (Posted a te b) rising = record {
  branches = rising_changed branch_slot_key (branch_of_teller r.teller) (with_branch_changed b)
      (λ s. refl) o.branches rising.branches;
  floors = rising.floors;
  tellers = rising_changed teller_slot_key r.teller (with_teller_changed te)
      (λ s. refl) o.tellers rising.tellers;
  accounts = rising_changed account_slot_key r.account (with_account_changed a)
      (λ s. refl) o.accounts rising.accounts;
  kept = rising_kept r.teller r.number _ o.kept rising.kept;
}

pub all_rising : (o : Overlay) (m : ℕ) (reads : List (Result RequestFields Bad)) → HasRisingSlots o
    → HasRisingSlots (overlay_with_all o m reads)
all_rising o m [] rising = rising
all_rising o m (Err fault ∷ reads) rising = all_rising o m reads rising
all_rising o m (Ok r ∷ reads) rising = all_rising (overlay_with o m (Ok r)) m reads
    (rising_after o m r (case_of (found_over o r) r) rising)

-- ---- the tables and the replies

pub all_tables : (o : Overlay) (t : Tables) (m : ℕ) (records : List (List ℕ))
    → HasFreeOrdinals (tables_over o t) (length records) → Fits o t → CoversAll o (map request_of records)
    → tables_over (overlay_with_all o m (map request_of records)) t ≡ tables_past_all
    (tables_over o t) m records
all_tables o t m [] free fits covers = refl
all_tables o t m (bytes ∷ records) free fits covers =
    let read = request_of bytes in
    all_tables (overlay_with o m read) t m records (still_free o t m read (length records) free fits covers.0)
    (with_fits o t m read (length records) free fits covers.0)
    (still_covers o m read (map request_of records) covers.1)
    ∙ ap (λ (u : Tables). tables_past_all u m records) (with_is o t m read fits covers.0)

pub reply_is : (o : Overlay) (t : Tables) (read : Result RequestFields Bad) → Fits o t → CoversRead o read
    → reply_spelling (reply_over o read) ≡ reply_read (tables_over o t) read
reply_is o t (Err fault) fits covers = refl
reply_is o t (Ok r) fits covers = ap (λ (f : Found). reply_spelling (reply_in (case_of f r) r))
    (found_is o t r fits covers)

pub all_replies : (o : Overlay) (t : Tables) (m : ℕ) (records : List (List ℕ))
    → HasFreeOrdinals (tables_over o t) (length records) → Fits o t → CoversAll o (map request_of records)
    → map reply_spelling (replies_over o m (map request_of records)) ≡ replies_past_all
    (tables_over o t) m records
all_replies o t m [] free fits covers = refl
all_replies o t m (bytes ∷ records) free fits covers =
    let read = request_of bytes in
    let next = overlay_with o m read in
    ap (λ (x : List ℕ). x ∷ map reply_spelling (replies_over next m (map request_of records)))
    (reply_is o t read fits covers.0)
    ∙ ap (λ (rest : List (List ℕ)). reply_read (tables_over o t) read ∷ rest)
    (all_replies next t m records (still_free o t m read (length records) free fits covers.0)
    (with_fits o t m read (length records) free fits covers.0)
    (still_covers o m read (map request_of records) covers.1)
    ∙ ap (λ (u : Tables). replies_past_all u m records) (with_is o t m read fits covers.0))

-- what is made of an overlay and its records is made of what they are
pub judged : {before after old : Overlay} {reads items : List (Result RequestFields Bad)} (m : ℕ)
    → after ≡ overlay_with_all before m items → items ≡ reads → before ≡ old
    → after ≡ overlay_with_all old m reads
judged {before = before} {reads = reads} m is same start =
    is ∙ ap (overlay_with_all before m) same ∙ ap (λ (o : Overlay). overlay_with_all o m reads) start
