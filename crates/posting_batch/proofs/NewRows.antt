-- The rows that a batch changes are there, and the keys of its new rows are free.
use Rattle.std.proofs.Common.{◌≡◌, ℕ, ◌+◌, eqb, List, [], ◌∷◌, ◌++◌, length, Option, Some, None, Result, Ok, Err}
use Rattle.std.proofs.Common.{refl, suc, sym, ap, subst, ◌∙◌, inl, inr, arith}
use Rattle.std.specs.{Prelude.ℤ, Prelude.IsSome, Prelude.IfSome, List.AllByRecursion, Option.option_map}
use Rattle.std.proofs.lemmas.Bool.{eqb-true}
use Rattle.message_records.specs.{declared.fault.Bad.Bad, believed.Records.RequestFields}
use Rattle.posting_rules.specs.{declared.judgments.Found.Found, declared.judgments.Verdict.Verdict}
use Rattle.posting_rules.specs.{declared.rows.BranchRow.BranchRow, declared.rows.TellerRow.TellerRow}
use Rattle.posting_rules.specs.{declared.rows.AccountRow.AccountRow, declared.rows.ReferenceRow.ReferenceRow}
use Rattle.posting_rules.specs.{believed.Cases.case_of, Changes.HasRowsOf, believed.Numbering.branch_of_teller}
use Rattle.posting_rules.specs.declared.judgments.Verdict.TheVariants.{Unkept, Again, Refused, Posted}
use Rattle.posting_rules.specs.believed.{Changes.row_changed, Changes.row_put}
use Rattle.posting_rules.specs.believed.Entries.{refused_entry, posted_entry}
use Rattle.posting_rules.specs.believed.LookUps.{balance_of_branch, balance_of_teller, balance_of_account}
use Rattle.posting_rules.specs.ChangesByKey as steps
use Rattle.posting_rules.specs.believed.Tables.{Tables, row_at, branch_key, teller_key, account_key}
use Rattle.posting_rules.specs.believed.Tables.{history_key, request_key, request_row_of, history_row_of}
use Rattle.posting_rules.specs.believed.Tables.{reference_key, reference_row_of}
use Rattle.posting_rules.proofs.{Keyed.by_test, ChangesByKey.posted_rows}
use Rattle.posting_batch.specs.declared.slots.{AccountSlot.AccountSlot, TellerSlot.TellerSlot, BranchSlot.BranchSlot}
use Rattle.posting_batch.specs.Batch.{CoversRead, CoversAll, HasNoChange, ChangesRows, PutsFree, AddsFreeRows}
use Rattle.posting_batch.specs.believed.Batch.{HasFreeOrdinals}
use Rattle.posting_batch.specs.Judging.{found_over, reference_after, overlay_after, overlay_with, overlay_with_all}
use Rattle.posting_batch.specs.Overlay.{Overlay, by_slot, over, put_account, put_teller, put_branch, each_put}
use Rattle.posting_batch.specs.Overlay.{tables_over}
use Rattle.posting_batch.specs.Slots.{account_slot_key, with_account_changed, teller_slot_key, with_teller_changed}
use Rattle.posting_batch.specs.Slots.{branch_slot_key, with_branch_changed}
use Rattle.posting_batch.proofs.{InOrder.still_covers, Overlaid.Fits, Overlaid.found_is}
use Rattle.posting_batch.proofs.StillFits.{with_fits, still_free}
use Rattle.posting_batch.proofs.OverlaidRows.{row_at-over, put_same}

-- ---- what leaves a row its key

pub account_same : (s : AccountSlot) (r : AccountRow) → account_key (put_account s r) ≡ account_key r
account_same = put_same account_slot_key (λ s. None)
    (λ s. s.changed) account_key balance_of_account steps.with_account_balance (λ z r. refl) (λ z r. refl)
    (λ z y r. refl)

pub teller_same : (s : TellerSlot) (r : TellerRow) → teller_key (put_teller s r) ≡ teller_key r
teller_same = put_same teller_slot_key (λ s. None)
    (λ s. s.changed) teller_key balance_of_teller steps.with_teller_balance (λ z r. refl) (λ z r. refl)
    (λ z y r. refl)

pub branch_same : (s : BranchSlot) (r : BranchRow) → branch_key (put_branch s r) ≡ branch_key r
branch_same = put_same branch_slot_key (λ s. None)
    (λ s. s.changed) branch_key balance_of_branch steps.with_branch_balance (λ z r. refl) (λ z r. refl)
    (λ z y r. refl)

-- ---- the rows that a posting changes, in the tables under the overlay

there_unmapped : {A B : Type 0} (f : A → B) (o : Option A) → IsSome (option_map f o) → IsSome o
there_unmapped f (Some x) h = refl
there_unmapped f None h = absurd cc

under : {S R : Type 0} (slot_key : S → ℕ) (key : R → ℕ) (put : S → R → R) (slots : List S)
    → ((s : S) (r : R) → key (put s r) ≡ key r) → (rows : List R) (n : ℕ)
    → IsSome (row_at key (over slot_key key put slots rows) n) → IsSome (row_at key rows n)
under {S} {R} slot_key key put slots same rows n there =
    there_unmapped (by_slot put (row_at slot_key slots n)) (row_at key rows n)
    (subst (λ (o : Option R). IsSome o) (row_at-over slot_key key put same slots rows n) there)

rows_under : (o : Overlay) (t : Tables) (r : RequestFields) → HasRowsOf (tables_over o t) r → HasRowsOf t r
rows_under o t r has = record {
  account = under account_slot_key account_key put_account o.accounts account_same t.accounts r.account
      has.account;
  teller = under teller_slot_key teller_key put_teller o.tellers teller_same t.tellers r.teller has.teller;
  branch = under branch_slot_key branch_key put_branch o.branches branch_same t.branches r.branch has.branch;
  its_branch = has.its_branch;
}

all-changed : {S : Type 0} (key : S → ℕ) (k : ℕ) (set : S → S) (P : S → Type 0)
    → ((s : S) → key s ≡ k → P (set s)) → (slots : List S) → AllByRecursion P slots
    → AllByRecursion P (row_changed key set k slots)
all-changed key k set P sets [] all = tt
all-changed key k set P sets (s ∷ slots) all = (
  elim (by_test (eqb (key s) k)) [ inl t ↦ rw t (sets s (eqb-true (key s) k t)) | inr f ↦ rw f all.0 ],
  all-changed key k set P sets slots all.1,
)

changes_after : (o : Overlay) (t : Tables) (m : ℕ) (r : RequestFields) (v : Verdict) → ChangesRows o t
    → ((a te b : ℤ) → v ≡ Posted a te b → HasRowsOf t r) → ChangesRows (overlay_after o m r v) t
changes_after o t m r (Unkept x) there has = there
changes_after o t m r (Again x) there has = there
changes_after o t m r (Refused x) there has = record {
  branches = there.branches;
  tellers = there.tellers;
  accounts = there.accounts;
}
changes_after o t m r (Posted a te b) there has =
    let rows = has a te b refl in
    let home : IsSome (row_at branch_key t.branches (branch_of_teller r.teller)) = subst
    (λ (n : ℕ). IsSome (row_at branch_key t.branches n)) rows.its_branch rows.branch in
    record {
      branches = all-changed branch_slot_key (branch_of_teller r.teller) (with_branch_changed b)
          (λ s. IfSome s.changed (λ z. IsSome (row_at branch_key t.branches s.branch)))
          (λ s is. subst (λ (n : ℕ). IsSome (row_at branch_key t.branches n)) (sym is) home) o.branches
          there.branches;
      tellers = all-changed teller_slot_key r.teller (with_teller_changed te)
          (λ s. IfSome s.changed (λ z. IsSome (row_at teller_key t.tellers s.teller)))
          (λ s is. subst (λ (n : ℕ). IsSome (row_at teller_key t.tellers n)) (sym is) rows.teller) o.tellers
          there.tellers;
      accounts = all-changed account_slot_key r.account (with_account_changed a)
          (λ s. IfSome s.changed (λ z. IsSome (row_at account_key t.accounts s.account)))
          (λ s is. subst (λ (n : ℕ). IsSome (row_at account_key t.accounts n)) (sym is) rows.account)
          o.accounts there.accounts;
    }

pub changes_with : (o : Overlay) (t : Tables) (m : ℕ) (read : Result RequestFields Bad) → Fits o t
    → CoversRead o read → ChangesRows o t → ChangesRows (overlay_with o m read) t
changes_with o t m (Err fault) fits covers there = there
changes_with o t m (Ok r) fits covers there =
    changes_after o t m r (case_of (found_over o r) r) there
    (λ a te b e. rows_under o t r (posted_rows (tables_over o t) r a te b
    (ap (λ (f : Found). case_of f r) (sym (found_is o t r fits covers)) ∙ e)))

changes_on : (o : Overlay) (t : Tables) (m : ℕ) (reads : List (Result RequestFields Bad))
    → HasFreeOrdinals (tables_over o t) (length reads) → Fits o t → CoversAll o reads → ChangesRows o t
    → ChangesRows (overlay_with_all o m reads) t
changes_on o t m [] free fits covers there = there
changes_on o t m (read ∷ reads) free fits covers there =
    changes_on (overlay_with o m read) t m reads (still_free o t m read (length reads) free fits covers.0)
    (with_fits o t m read (length reads) free fits covers.0)
    (still_covers o m read reads covers.1) (changes_with o t m read fits covers.0 there)

none_changed : {S : Type 0} (change_of : S → Option ℤ) (P : S → Type 0) (slots : List S)
    → AllByRecursion (λ s. change_of s ≡ None) slots
    → AllByRecursion (λ s. IfSome (change_of s) (λ z. P s)) slots
none_changed change_of P [] all = tt
none_changed change_of P (s ∷ slots) all =
    (let e : change_of s ≡ None = all.0 in rw e tt, none_changed change_of P slots all.1)

-- no row is changed that isn't there
pub changes_none : (o : Overlay) (t : Tables) → HasNoChange o → ChangesRows o t
changes_none o t un = record {
  branches = none_changed (λ s. s.changed)
      (λ s. IsSome (row_at branch_key t.branches s.branch)) o.branches un.branches;
  tellers = none_changed (λ s. s.changed)
      (λ s. IsSome (row_at teller_key t.tellers s.teller)) o.tellers un.tellers;
  accounts = none_changed (λ s. s.changed)
      (λ s. IsSome (row_at account_key t.accounts s.account)) o.accounts un.accounts;
}

-- the rows that a batch changes are there
pub all_changes : (o : Overlay) (t : Tables) (m : ℕ) (reads : List (Result RequestFields Bad))
    → HasFreeOrdinals (tables_over o t) (length reads) → Fits o t → HasNoChange o → CoversAll o reads
    → ChangesRows (overlay_with_all o m reads) t
all_changes o t m reads free fits un covers =
    changes_on o t m reads free fits covers (changes_none o t un)

-- ---- the new rows

puts_more : {R : Type 0} (key : R → ℕ) (rs : List R) (r : R) (rows : List R) → PutsFree key rs rows
    → row_at key (each_put key rs rows) (key r) ≡ None
    → PutsFree key (rs ++ r ∷ []) rows
puts_more key [] r rows free next = (next, tt)
puts_more key (x ∷ rs) r rows free next = (free.0, puts_more key rs r (row_put key x rows) free.1 next)

references_more : (ordinal : ℕ) (reference : Option (List ℕ)) (rs rows : List ReferenceRow)
    → PutsFree reference_key rs rows → row_at reference_key (each_put reference_key rs rows) ordinal ≡ None
    → PutsFree reference_key (reference_after ordinal reference rs) rows
references_more ordinal None rs rows free next = free
references_more ordinal (Some text) rs rows free next =
    puts_more reference_key rs (reference_row_of ordinal text) rows free next

-- the first of them
first_free : (t : Tables) (count : ℕ) → HasFreeOrdinals t (suc count) → HasFreeOrdinals t 1
first_free t count free = record {
  requests = λ o is. free.requests o (is.0, omega (arith, is.1));
  postings = λ o is. free.postings o (is.0, omega (arith, is.1));
  references = λ o is. free.references o (is.0, omega (arith, is.1));
}

adds_after : (o : Overlay) (t : Tables) (m : ℕ) (r : RequestFields) (v : Verdict)
    → HasFreeOrdinals (tables_over o t) 1 → AddsFreeRows o t → AddsFreeRows (overlay_after o m r v) t
adds_after o t m r (Unkept x) free adds = adds
adds_after o t m r (Again x) free adds = adds
adds_after o t m r (Refused x) free adds = record {
  history = adds.history;
  requests = puts_more request_key o.requests
      (request_row_of (o.decided + 1) (refused_entry m r x)) t.requests adds.requests (free.requests (o.decided + 1) (omega arith, omega arith));
  references = references_more (o.decided + 1) r.reference o.references t.references adds.references
      (free.references (o.decided + 1) (omega arith, omega arith));
}
adds_after o t m r (Posted a te b) free adds = record {
  history = puts_more history_key o.history
      (history_row_of (o.decided + 1) (posted_entry m r a)) t.history adds.history (free.postings (o.decided + 1) (omega arith, omega arith));
  requests = puts_more request_key o.requests
      (request_row_of (o.decided + 1) (posted_entry m r a)) t.requests adds.requests (free.requests (o.decided + 1) (omega arith, omega arith));
  references = references_more (o.decided + 1) r.reference o.references t.references adds.references
      (free.references (o.decided + 1) (omega arith, omega arith));
}

pub adds_with : (o : Overlay) (t : Tables) (m : ℕ) (read : Result RequestFields Bad) (count : ℕ)
    → HasFreeOrdinals (tables_over o t) (suc count) → AddsFreeRows o t → AddsFreeRows (overlay_with o m read) t
adds_with o t m (Err fault) count free adds = adds
adds_with o t m (Ok r) count free adds =
    adds_after o t m r (case_of (found_over o r) r) (first_free (tables_over o t) count free) adds

adds_on : (o : Overlay) (t : Tables) (m : ℕ) (reads : List (Result RequestFields Bad))
    → HasFreeOrdinals (tables_over o t) (length reads) → Fits o t → CoversAll o reads → AddsFreeRows o t
    → AddsFreeRows (overlay_with_all o m reads) t
adds_on o t m [] free fits covers adds = adds
adds_on o t m (read ∷ reads) free fits covers adds =
    adds_on (overlay_with o m read) t m reads (still_free o t m read (length reads) free fits covers.0)
    (with_fits o t m read (length reads) free fits covers.0)
    (still_covers o m read reads covers.1) (adds_with o t m read (length reads) free adds)

-- no new row is under a key that is taken
pub adds_none : (o : Overlay) (t : Tables) → HasNoChange o → AddsFreeRows o t
adds_none o t un = record {
  history = rw un.history tt;
  requests = rw un.requests tt;
  references = rw un.references tt;
}

-- the keys of the new rows of a batch are free
pub all_adds : (o : Overlay) (t : Tables) (m : ℕ) (reads : List (Result RequestFields Bad))
    → HasFreeOrdinals (tables_over o t) (length reads) → Fits o t → HasNoChange o → CoversAll o reads
    → AddsFreeRows (overlay_with_all o m reads) t
all_adds o t m reads free fits un covers = adds_on o t m reads free fits covers (adds_none o t un)
