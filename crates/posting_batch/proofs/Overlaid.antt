-- Over tables that its slots fit, an overlay tells what the tables with it tell, and a record changes both
-- alike.
use Rattle.std.proofs.Common.{◌≡◌, ℕ, ◌+◌, List, [], ◌∷◌, ◌++◌, Option, Some, None, refl, ap, ◌∙◌}
use Rattle.std.specs.{Prelude.ℤ, Prelude.IsSome, Prelude.IfSome, List.find, Option.option_map, Option.unwrap_or}
use Rattle.message_records.specs.believed.Records.{RequestFields}
use Rattle.posting_rules.specs.declared.{judgments.Found.Found, judgments.Verdict.Verdict, rows.BranchRow.BranchRow}
use Rattle.posting_rules.specs.declared.{rows.TellerRow.TellerRow, rows.AccountRow.AccountRow}
use Rattle.posting_rules.specs.declared.{rows.HistoryRow.HistoryRow, rows.RequestRow.RequestRow}
use Rattle.posting_rules.specs.declared.{rows.FloorRow.FloorRow, rows.ReferenceRow.ReferenceRow}
use Rattle.posting_rules.specs.declared.judgments.Verdict.TheVariants.{Unkept, Again, Refused, Posted}
use Rattle.posting_rules.specs.believed.Changes.{row_put, with_decided, with_branch_balance, with_teller_balance}
use Rattle.posting_rules.specs.believed.Changes.{with_account_balance, with_history, with_request, with_reference}
use Rattle.posting_rules.specs.believed.Changes.{reference_put, tables_kept, tables_posted, tables_after}
use Rattle.posting_rules.specs.believed.{Numbering.branch_of_teller, Numbering.branch_of_account, Kept.KeptFields}
use Rattle.posting_rules.specs.believed.Entries.{DecidedRequest, refused_entry, posted_entry}
use Rattle.posting_rules.specs.believed.LookUps.{both_of, kept_in, account_balance_in, balance_of_account}
use Rattle.posting_rules.specs.believed.LookUps.{balance_of_teller, balance_of_branch, floor_in, found_in}
use Rattle.posting_rules.specs.ChangesByKey as steps
use Rattle.posting_rules.specs.believed.Tables.{Tables, row_at, branch_key, teller_key, account_key, history_key}
use Rattle.posting_rules.specs.believed.Tables.{request_key, request_row_of, history_row_of, reference_key}
use Rattle.posting_rules.specs.believed.Tables.{reference_row_of}
use Rattle.posting_batch.specs.declared.slots.{AccountSlot.AccountSlot, TellerSlot.TellerSlot, BranchSlot.BranchSlot}
use Rattle.posting_batch.specs.declared.slots.{FloorSlot.FloorSlot, RequestSlot.RequestSlot}
use Rattle.posting_batch.specs.Batch.{Covers}
use Rattle.posting_batch.specs.Judging.{found_over, reference_after, overlay_kept, overlay_posted, overlay_after}
use Rattle.posting_batch.specs.Overlay.{Overlay, changed_to, each_put, tables_over}
use Rattle.posting_batch.specs.Slots.{books_in_slots, books_of_slot, in_slot, slot_balance, kept_in_slots, kept_of_slot, is_for, account_slot_key}
use Rattle.posting_batch.specs.Slots.{account_slot_balance, with_account_changed, teller_slot_key}
use Rattle.posting_batch.specs.Slots.{teller_slot_balance, with_teller_changed, branch_slot_key, branch_slot_balance}
use Rattle.posting_batch.specs.Slots.{with_branch_changed, floor_of_slot, floor_slot_key, slot_floor}
use Rattle.posting_batch.proofs.OverlaidRows.{over-changed, put_same, put_again, balance_is}
use Rattle.posting_rules.specs.declared.rows.ClosingRow.{ClosingRow}
use Rattle.posting_rules.specs.declared.judgments.Books.{Books, TheVariants.Current}
use Rattle.posting_rules.specs.believed.Closings.{books_of}

-- each slot tells what is in the tables under its key
pub record Fits (o : Overlay) (t : Tables) : Type 0 where
  pub branches : (n : ℕ)
      → IfSome (row_at branch_slot_key o.branches n) (λ s. s.stored ≡ row_at branch_key t.branches n)
  pub floors : (n : ℕ) → IfSome (row_at floor_slot_key o.floors n) (λ s. s.floor ≡ floor_in t n)
  pub tellers : (n : ℕ)
      → IfSome (row_at teller_slot_key o.tellers n)
      (λ s. s.stored ≡ option_map balance_of_teller (row_at teller_key t.tellers n))
  pub accounts : (n : ℕ)
      → IfSome (row_at account_slot_key o.accounts n) (λ s. s.stored ≡ account_balance_in t n)
  -- and, of kept requests, those that are new too
  pub kept : (n m : ℕ)
      → IfSome (find (is_for n m) o.kept)
      (λ s. s.kept ≡ kept_in (tables_over o t).requests (tables_over o t).references n m)
  -- and what closed books say
  pub books : (n m : ℕ) → IfSome (find (is_for n m) o.kept) (λ s. s.books ≡ books_of t.closings n m)

account_now : (o : Overlay) (t : Tables) (n : ℕ) → Fits o t → IsSome (row_at account_slot_key o.accounts n)
    → slot_balance account_slot_key account_slot_balance o.accounts n ≡ option_map balance_of_account
    (row_at account_key (tables_over o t).accounts n)
account_now o t n fits there =
    balance_is account_slot_key (λ s. s.stored)
    (λ s. s.changed) account_key balance_of_account steps.with_account_balance
    (λ z r. refl) (λ z r. refl) (λ z y r. refl) o.accounts t.accounts n (fits.accounts n) there

teller_now : (o : Overlay) (t : Tables) (n : ℕ) → Fits o t → IsSome (row_at teller_slot_key o.tellers n)
    → slot_balance teller_slot_key teller_slot_balance o.tellers n ≡ option_map balance_of_teller
    (row_at teller_key (tables_over o t).tellers n)
teller_now o t n fits there =
    balance_is teller_slot_key (λ s. s.stored)
    (λ s. s.changed) teller_key balance_of_teller steps.with_teller_balance
    (λ z r. refl) (λ z r. refl) (λ z y r. refl) o.tellers t.tellers n (fits.tellers n) there

branch_now : (o : Overlay) (t : Tables) (n : ℕ) → Fits o t → IsSome (row_at branch_slot_key o.branches n)
    → slot_balance branch_slot_key branch_slot_balance o.branches n ≡ option_map balance_of_branch
    (row_at branch_key (tables_over o t).branches n)
branch_now o t n fits there =
    balance_is branch_slot_key (λ s. option_map balance_of_branch s.stored)
    (λ s. s.changed) branch_key balance_of_branch steps.with_branch_balance
    (λ z r. refl) (λ z r. refl) (λ z y r. refl) o.branches t.branches n
    (by_slots (row_at branch_slot_key o.branches n) (fits.branches n)) there
  where
    by_slots : (at : Option BranchSlot) → IfSome at (λ s. s.stored ≡ row_at branch_key t.branches n)
        → IfSome at (λ s. option_map balance_of_branch s.stored ≡ option_map balance_of_branch
        (row_at branch_key t.branches n))
    by_slots None is = tt
    by_slots (Some s) is = ap (option_map balance_of_branch) is

floor_now : (o : Overlay) (t : Tables) (n : ℕ) → Fits o t → IsSome (row_at floor_slot_key o.floors n)
    → slot_floor o.floors n ≡ floor_in t n
floor_now o t n fits there = by_slots (row_at floor_slot_key o.floors n) there (fits.floors n)
  where
    by_slots : (at : Option FloorSlot) → IsSome at → IfSome at (λ s. s.floor ≡ floor_in t n)
        → in_slot floor_of_slot at ≡ floor_in t n
    by_slots None there is = absurd cc
    by_slots (Some s) there is = is

kept_now : (o : Overlay) (t : Tables) (n m : ℕ) → Fits o t → IsSome (find (is_for n m) o.kept)
    → kept_in_slots o.kept n m ≡ kept_in (tables_over o t).requests (tables_over o t).references n m
kept_now o t n m fits there = by_slots (find (is_for n m) o.kept) there (fits.kept n m)
  where
    by_slots : (at : Option RequestSlot) → IsSome at
        → IfSome at (λ s. s.kept ≡ kept_in (tables_over o t).requests (tables_over o t).references n m)
        → in_slot kept_of_slot at ≡ kept_in (tables_over o t).requests (tables_over o t).references n m
    by_slots None there is = absurd cc
    by_slots (Some s) there is = is

books_now : (o : Overlay) (t : Tables) (n m : ℕ) → Fits o t → IsSome (find (is_for n m) o.kept)
    → books_in_slots o.kept n m ≡ books_of t.closings n m
books_now o t n m fits there = by_slots (find (is_for n m) o.kept) there (fits.books n m)
  where
    by_slots : (at : Option RequestSlot) → IsSome at → IfSome at (λ s. s.books ≡ books_of t.closings n m)
        → unwrap_or (option_map books_of_slot at) Current ≡ books_of t.closings n m
    by_slots None there is = absurd cc
    by_slots (Some s) there is = is

-- all that is looked up for a request whose keys have their slots
pub found_is : (o : Overlay) (t : Tables) (r : RequestFields) → Fits o t → Covers o r
    → found_over o r ≡ found_in (tables_over o t) r
found_is o t r fits covers =
    made _ _ _ _ _ _ _ _ _ _ (
    ap (λ x. both_of x (slot_balance branch_slot_key branch_slot_balance o.branches
    (branch_of_teller r.teller))) (teller_now o t r.teller fits covers.teller)
    ∙ ap (both_of (option_map balance_of_teller (row_at teller_key (tables_over o t).tellers r.teller)))
    (branch_now o t (branch_of_teller r.teller) fits covers.branch)
    )
    (kept_now o t r.teller r.number fits covers.kept)
    (books_now o t r.teller r.number fits covers.kept)
    (account_now o t r.account fits covers.account)
    (floor_now o t (branch_of_account r.account) fits covers.its_floor)
  where
    made : (a a' : Option (ℤ × ℤ)) (k k' : Option KeptFields) (c c' : Books) (b b' l l' : Option ℤ) → a ≡ a'
        → k ≡ k' → c ≡ c' → b ≡ b' → l ≡ l'
        → (let f : Found = record {
          teller = a;
          kept = k;
          books = c;
          decided = o.decided;
          account = b;
          floor = l;
        } in f) ≡ record { teller = a'; kept = k'; books = c'; decided = o.decided; account = b'; floor = l' }
    made a a' k k' c c' b b' l l' ea ek ec eb el = rw (ea, ek, ec, eb, el) refl

-- ---- a verdict

-- one row more that is put in after the others
pub each_put-append : {R : Type 0} (key : R → ℕ) (rs : List R) (r : R) (rows : List R)
    → each_put key (rs ++ r ∷ []) rows ≡ row_put key r (each_put key rs rows)
each_put-append key [] r rows = refl
each_put-append key (x ∷ rs) r rows = each_put-append key rs r (row_put key x rows)

-- the reference of one request more
pub reference_put-append : (ordinal : ℕ) (reference : Option (List ℕ)) (rs rows : List ReferenceRow)
    → each_put reference_key (reference_after ordinal reference rs) rows ≡ reference_put ordinal reference
    (each_put reference_key rs rows)
reference_put-append ordinal None rs rows = refl
reference_put-append ordinal (Some text) rs rows = each_put-append reference_key rs
    (reference_row_of ordinal text) rows

-- tables whose parts are equal
pub tables_made : (n n' : ℕ) (b b' : List BranchRow) (e e' : List TellerRow) (a a' : List AccountRow)
    (h h' : List HistoryRow) (q q' : List RequestRow) (l : List FloorRow) (f f' : List ReferenceRow)
    (c : List ClosingRow)
    → n ≡ n' → b ≡ b' → e ≡ e' → a ≡ a' → h ≡ h' → q ≡ q' → f ≡ f'
    → (let t : Tables = record {
      decided = n;
      branches = b;
      tellers = e;
      accounts = a;
      history = h;
      requests = q;
      floors = l;
      references = f;
      closings = c;
    } in t)
    ≡ record {
      decided = n';
      branches = b';
      tellers = e';
      accounts = a';
      history = h';
      requests = q';
      floors = l;
      references = f';
      closings = c;
    }
tables_made n n' b b' e e' a a' h h' q q' l f f' c en eb ee ea eh eq ef = rw (en, eb, ee, ea, eh, eq, ef) refl

refused_over : (o : Overlay) (t : Tables) (e : DecidedRequest)
    → tables_over (overlay_kept o e) t ≡ tables_kept (tables_over o t) (o.decided + 1) e
unfolding with_decided with_request with_reference
refused_over o t e =
    tables_made _ _ _ _ _ _ _ _ _ _ _ _ _ _ _ _ refl refl refl refl refl
    (each_put-append request_key o.requests (request_row_of (o.decided + 1) e) t.requests)
    (reference_put-append (o.decided + 1) e.request.reference o.references t.references)

-- the slots of a posting are there
record HasSlotsOf (o : Overlay) (r : RequestFields) : Type 0 where
  pub account : IsSome (row_at account_slot_key o.accounts r.account)
  pub teller : IsSome (row_at teller_slot_key o.tellers r.teller)
  pub branch : IsSome (row_at branch_slot_key o.branches (branch_of_teller r.teller))

posted_over : (o : Overlay) (t : Tables) (e : DecidedRequest) (teller branch : ℤ) → HasSlotsOf o e.request
    → tables_over (overlay_posted o e teller branch) t ≡ tables_posted (tables_over o t)
    (o.decided + 1) e teller branch
unfolding with_decided with_request with_reference with_history
    with_branch_balance with_teller_balance with_account_balance
posted_over o t e teller branch there =
    tables_made _ _ _ _ _ _ _ _ _ _ _ _ _ _ _ _ refl
    (over-changed branch_slot_key branch_key (λ s r. changed_to steps.with_branch_balance s.changed r)
    (put_same branch_slot_key (λ s. None) (λ (s : BranchSlot). s.changed) branch_key balance_of_branch
    steps.with_branch_balance (λ z r. refl) (λ z r. refl) (λ z y r. refl))
    (branch_of_teller e.request.teller) (with_branch_changed branch) (steps.with_branch_balance branch)
    (put_again branch_slot_key (λ s. None) (λ (s : BranchSlot). s.changed) branch_key balance_of_branch
    steps.with_branch_balance (λ z r. refl) (λ z r. refl) (λ z y r. refl) branch)
    o.branches (λ s. refl) there.branch t.branches)
    (over-changed teller_slot_key teller_key (λ s r. changed_to steps.with_teller_balance s.changed r)
    (put_same teller_slot_key (λ s. None) (λ (s : TellerSlot). s.changed) teller_key balance_of_teller
    steps.with_teller_balance (λ z r. refl) (λ z r. refl) (λ z y r. refl))
    e.request.teller (with_teller_changed teller) (steps.with_teller_balance teller)
    (put_again teller_slot_key (λ s. None) (λ (s : TellerSlot). s.changed) teller_key balance_of_teller
    steps.with_teller_balance (λ z r. refl) (λ z r. refl) (λ z y r. refl) teller)
    o.tellers (λ s. refl) there.teller t.tellers)
    (over-changed account_slot_key account_key (λ s r. changed_to steps.with_account_balance s.changed r)
    (put_same account_slot_key (λ s. None) (λ (s : AccountSlot). s.changed) account_key balance_of_account
    steps.with_account_balance (λ z r. refl) (λ z r. refl) (λ z y r. refl))
    e.request.account (with_account_changed e.balance) (steps.with_account_balance e.balance)
    (put_again account_slot_key (λ s. None) (λ (s : AccountSlot). s.changed) account_key balance_of_account
    steps.with_account_balance (λ z r. refl) (λ z r. refl) (λ z y r. refl) e.balance)
    o.accounts (λ s. refl) there.account t.accounts)
    (each_put-append history_key o.history (history_row_of (o.decided + 1) e) t.history)
    (each_put-append request_key o.requests (request_row_of (o.decided + 1) e) t.requests)
    (reference_put-append (o.decided + 1) e.request.reference o.references t.references)

-- what a verdict makes of the overlay is what it makes of the tables with it
pub after_is : (o : Overlay) (t : Tables) (m : ℕ) (r : RequestFields) (v : Verdict) → Covers o r
    → tables_over (overlay_after o m r v) t ≡ tables_after (tables_over o t) m r v
after_is o t m r (Unkept x) covers = refl
after_is o t m r (Again x) covers = refl
after_is o t m r (Refused x) covers = refused_over o t (refused_entry m r x)
after_is o t m r (Posted a te b) covers =
    posted_over o t (posted_entry m r a) te b
    (record { account = covers.account; teller = covers.teller; branch = covers.branch })
