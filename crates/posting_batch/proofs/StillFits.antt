-- The slots of a batch go on telling what is in the tables, record by record.
use Rattle.std.proofs.Common.{◌≡◌, ℕ, suc, ◌+◌, Bool, true, false, cond, eqb, List, Option, Some, None, Result, Ok}
use Rattle.std.proofs.Common.{Err, refl, sym, ap, subst, ◌∙◌, arith}
use Rattle.std.specs.{Prelude.IfSome, List.find, Option.option_map}
use Rattle.message_records.specs.{declared.fault.Bad.Bad, believed.Records.RequestFields}
use Rattle.posting_rules.specs.declared.{judgments.Found.Found, judgments.Verdict.Verdict, rows.RequestRow.RequestRow}
use Rattle.posting_rules.specs.declared.judgments.Verdict.TheVariants.{Unkept, Again, Refused, Posted}
use Rattle.posting_rules.specs.declared.rows.ReferenceRow.{ReferenceRow}
use Rattle.posting_rules.specs.believed.{Cases.case_of, Numbering.branch_of_teller}
use Rattle.posting_rules.specs.believed.Changes.{row_changed, row_put, tables_after, tables_read}
use Rattle.posting_rules.specs.believed.Closings.{books_of}
use Rattle.posting_rules.specs.believed.Entries.{DecidedRequest, kept_fields, refused_entry, posted_entry}
use Rattle.posting_rules.specs.believed.LookUps.{kept_in, account_balance_in, balance_of_teller, found_in}
use Rattle.posting_rules.specs.believed.Tables.{Tables, row_at, branch_key, teller_key, request_key, request_row_of}
use Rattle.posting_rules.specs.believed.Tables.{reference_key}
use Rattle.posting_rules.proofs.RowChanges.{row_at-changed}
use Rattle.posting_rules.proofs.Verdicts.{by_case}
use Rattle.posting_batch.specs.{Batch.CoversRead, believed.Batch.HasFreeOrdinals, Overlay.Overlay, Overlay.tables_over}
use Rattle.posting_batch.specs.Judging.{found_over, overlay_kept, overlay_after, overlay_with}
use Rattle.posting_batch.specs.Slots.{is_for, account_slot_key, with_account_changed, teller_slot_key}
use Rattle.posting_batch.specs.Slots.{with_teller_changed, branch_slot_key, with_branch_changed}
use Rattle.posting_batch.proofs.{FreeOrdinals.free_read, KeptSlots.books_fit, KeptSlots.kept_fits}
use Rattle.posting_batch.proofs.Overlaid.{Fits, found_is, each_put-append, reference_put-append, after_is}

-- ---- the slots go on telling what is in the tables

-- what was not kept before
abbrev pub IsNewIn : Found → Verdict → Type 0
IsNewIn f (Unkept outcome) = Unit {0}
IsNewIn f (Again reply) = Unit {0}
IsNewIn f (Refused outcome) = f.kept ≡ None
IsNewIn f (Posted account teller branch) = f.kept ≡ None

-- what is decided now was not
pub new_case_of : (f : Found) (r : RequestFields) → IsNewIn f (case_of f r)
new_case_of f r =
    by_case (λ v. IsNewIn f v) f r (λ o. tt) (λ reply. tt) (λ o kept unposted new room. new) (λ x y w h. h.new)

-- a change of a slot that keeps a property
module _ {S : Type 0} (key : S → ℕ) (k : ℕ) (set : S → S) (kept : (s : S) → key (set s) ≡ key s)
    (P : S → Type 0) (keeps : (s : S) → P s → P (set s)) where
  mapped : (b : Bool) (o : Option S) → IfSome o P → IfSome (option_map (λ s. cond b (set s) s) o) P
  mapped b None is = tt
  mapped true (Some s) is = keeps s is
  mapped false (Some s) is = is

  fits_changed : (slots : List S) (n : ℕ) → IfSome (row_at key slots n) P
      → IfSome (row_at key (row_changed key set k slots) n) P
  fits_changed slots n is =
      subst (λ (x : Option S). IfSome x P) (sym (row_at-changed key k set kept slots n))
      (mapped (eqb k n) (row_at key slots n) is)

-- the next ordinal has no request, and no reference
record IsFreeNext (t : Tables) : Type 0 where
  pub request : row_at request_key t.requests (t.decided + 1) ≡ None
  pub reference : row_at reference_key t.references (t.decided + 1) ≡ None

next_free : (t : Tables) (count : ℕ) → HasFreeOrdinals t (suc count) → IsFreeNext t
next_free t count free = record {
  request = free.requests (t.decided + 1) (omega arith, omega arith);
  reference = free.references (t.decided + 1) (omega arith, omega arith);
}

more_kept : (o : Overlay) (t : Tables) (e : DecidedRequest) → Fits o t → IsFreeNext (tables_over o t)
    → kept_in (tables_over o t).requests (tables_over o t).references e.request.teller e.request.number ≡ None
    → (n m : ℕ)
    → IfSome (find (is_for n m) (overlay_kept o e).kept)
    (λ s. s.kept ≡ kept_in (tables_over (overlay_kept o e) t).requests
    (tables_over (overlay_kept o e) t).references n m)
more_kept o t e fits free none n m =
    let over = tables_over o t in
    let row = request_row_of (o.decided + 1) e in
    let requests = sym (each_put-append request_key o.requests row t.requests) in
    let references = sym
    (reference_put-append (o.decided + 1) e.request.reference o.references t.references) in
    subst (λ (rows : List RequestRow). IfSome (find (is_for n m) (overlay_kept o e).kept)
    (λ s. s.kept ≡ kept_in rows (tables_over (overlay_kept o e) t).references n m)) requests
    (subst (λ (rows : List ReferenceRow). IfSome (find (is_for n m) (overlay_kept o e).kept)
    (λ s. s.kept ≡ kept_in (row_put request_key row over.requests) rows n m))
    references
    (kept_fits o.kept over.requests over.references row e.request.reference free.request free.reference none
    fits.kept n m))

more_books : (o : Overlay) (t : Tables) (e : DecidedRequest) → Fits o t → (n m : ℕ)
    → IfSome (find (is_for n m) (overlay_kept o e).kept) (λ s. s.books ≡ books_of t.closings n m)
more_books o t e fits n m = books_fit e.request.teller e.request.number (kept_fields e) o.kept n m
    (books_of t.closings n m) (fits.books n m)

-- a verdict on what was looked up leaves slots that tell what is in the tables
after_fits : (o : Overlay) (t : Tables) (m : ℕ) (r : RequestFields) (v : Verdict) → Fits o t
    → IsFreeNext (tables_over o t) → IsNewIn (found_in (tables_over o t) r) v → Fits (overlay_after o m r v) t
after_fits o t m r (Unkept x) fits free new = fits
after_fits o t m r (Again x) fits free new = fits
after_fits o t m r (Refused x) fits free new =
    record {
      branches = fits.branches;
      floors = fits.floors;
      tellers = fits.tellers;
      accounts = fits.accounts;
      kept = more_kept o t (refused_entry m r x) fits free new;
      books = more_books o t (refused_entry m r x) fits;
    }
after_fits o t m r (Posted a te b) fits free new = record {
  branches = λ n. fits_changed branch_slot_key (branch_of_teller r.teller) (with_branch_changed b) (λ s. refl)
      (λ s. s.stored ≡ row_at branch_key t.branches n) (λ s h. h) o.branches n (fits.branches n);
  floors = fits.floors;
  tellers = λ n. fits_changed teller_slot_key r.teller (with_teller_changed te) (λ s. refl)
      (λ s. s.stored ≡ option_map balance_of_teller (row_at teller_key t.tellers n)) (λ s h. h) o.tellers n
      (fits.tellers n);
  accounts = λ n. fits_changed account_slot_key r.account (with_account_changed a) (λ s. refl)
      (λ s. s.stored ≡ account_balance_in t n) (λ s h. h) o.accounts n (fits.accounts n);
  kept = more_kept o t (posted_entry m r a) fits free new;
  books = more_books o t (posted_entry m r a) fits;
}

-- ---- a record

-- the tables with the overlay after a record are those that the record leaves
pub with_is : (o : Overlay) (t : Tables) (m : ℕ) (read : Result RequestFields Bad) → Fits o t
    → CoversRead o read
    → tables_over (overlay_with o m read) t ≡ tables_read (tables_over o t) m read
with_is o t m (Err fault) fits covers = refl
with_is o t m (Ok r) fits covers =
    after_is o t m r (case_of (found_over o r) r) covers
    ∙ ap (λ (f : Found). tables_after (tables_over o t) m r (case_of f r)) (found_is o t r fits covers)

-- where the next ordinal is free, the slots go on telling what is in the tables
pub with_fits : (o : Overlay) (t : Tables) (m : ℕ) (read : Result RequestFields Bad) (count : ℕ)
    → HasFreeOrdinals (tables_over o t) (suc count) → Fits o t → CoversRead o read
    → Fits (overlay_with o m read) t
with_fits o t m (Err fault) count free fits covers = fits
with_fits o t m (Ok r) count free fits covers =
    after_fits o t m r (case_of (found_over o r) r) fits (next_free (tables_over o t) count free)
    (subst (λ (f : Found). IsNewIn (found_in (tables_over o t) r) (case_of f r))
    (sym (found_is o t r fits covers)) (new_case_of (found_in (tables_over o t) r) r))

-- and the ordinals after it are as free as before
pub still_free : (o : Overlay) (t : Tables) (m : ℕ) (read : Result RequestFields Bad) (count : ℕ)
    → HasFreeOrdinals (tables_over o t) (suc count) → Fits o t → CoversRead o read
    → HasFreeOrdinals (tables_over (overlay_with o m read) t) count
still_free o t m read count free fits covers =
    subst (λ (u : Tables). HasFreeOrdinals u count) (sym (with_is o t m read fits covers))
    (free_read (tables_over o t) m read count free)
