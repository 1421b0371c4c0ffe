-- Records whose slots have what the rows hold are answered in tables that have what the rows hold, whatever rows
-- a file holds.
use Rattle.std.proofs.Common.{◌≡◌, ℕ, Bool, eqb, List, [], ◌∷◌, map, Option, Some, None, Result, Ok, Err, refl}
use Rattle.std.proofs.Common.{true, sym, ap, subst, ◌∙◌, inl, inr, arith}
use Rattle.std.specs.Prelude.{◌⊎◌, ℤ, length, IfOk, IfSome, IsSome, IsTrue, option_map}
use Rattle.std.specs.List.{AllByRecursion, find}
use Rattle.std.proofs.lemmas.{Bool.and_parts, Bool.eqb-true, Result.IfOk-weaker}
use Rattle.message_records.specs.{believed.Ranges.whole_within, declared.limits.TheConstants.MAX_BRANCH}
use Rattle.message_records.specs.{believed.Reading.request_of, believed.Records.RequestFields, declared.fault.Bad.Bad}
use Rattle.posting_rules.specs.believed.LookUps.{account_balance_in, balance_of_teller}
use Rattle.posting_rules.specs.believed.LookUps.{floor_in, kept_in}
use Rattle.posting_rules.specs.believed.Kept.{KeptFields}
use Rattle.posting_rules.specs.believed.Numbering.{branch_of_account, branch_of_teller}
use Rattle.posting_rules.specs.believed.Changes.{tables_past_all}
use Rattle.posting_rules.specs.believed.Tables.{Tables, branch_key, row_at, teller_key}
use Rattle.posting_rules.specs.declared.rows.{BranchRow.BranchRow, ClosingRow.ClosingRow}
use Rattle.posting_rules.proofs.Keyed.{by_test}
use Rattle.posting_batch.specs.{declared.batch.Batch.Batch, declared.slots.RequestSlot.RequestSlot}
use Rattle.posting_batch.specs.{Overlay.Overlay, Placed.IsRising, Placed.number_below}
use Rattle.posting_batch.specs.{Placed.request_below, View.IsFilledFrom, View.IsMadeOf, View.reads_of, View.view}
use Rattle.posting_batch.specs.Batch.{CoversAll, CoversRead, HasHomes, HasRisingSlots, account_filled}
use Rattle.posting_batch.specs.believed.Batch.{HasFreeOrdinals}
use Rattle.posting_batch.specs.Batch.{IsJudged, branch_filled, covering_all, filled}
use Rattle.posting_batch.specs.Batch.{floor_filled, no_slots, request_filled, teller_filled}
use Rattle.posting_batch.specs.Slots.{account_slot_key, branch_slot_key, floor_slot_key, is_for, teller_slot_key}
use Rattle.posting_batch.proofs.Covered.{Stands, homes_all, stands}
use Rattle.posting_batch.proofs.{Orders.rising_mapped, SlotsInOrder.made_all}
use Rattle.posting_batch.specs.declared.slots.BranchSlot.{BranchSlot}
use Rattle.posting_batch.proofs.ToldTables.{IsOwn, rows_told, tables_told, told_filled, told_free, with_told}
use Rattle.sqlite.specs.{Effect.Database, Held.Held, Held.state, State.HasCleanDisk}
use Rattle.sqlite_trees.specs.declared.store.Store.{Ghosts}
use Rattle.sqlite_trees.proofs.ListLemmas.{all_weaker, map-map}
use Rattle.store_rows.specs.believed.Rules.{OfRows, StoredRows}
use Rattle.store_rows.specs.declared.fault.TableFault.{TableFault}
use Rattle.bank_transactions.specs.{Doing.Ends, Stored.HoldsTellerRow}
use Rattle.bank_transactions.specs.Filling.{AreHeld, HasOwnRow, HoldsBranch, IsRowOf}
use Rattle.bank_transactions.specs.Filling.{emptied, emptied_account, emptied_branch, emptied_floor, emptied_request}
use Rattle.bank_transactions.specs.Filling.{Closes, TellsBooks, emptied_teller}
use Rattle.bank_transactions.specs.believed.Stored.{HasRead, HasStored, HoldsAccount, HoldsFloor}
use Rattle.bank_transactions.specs.believed.Stored.{HoldsKept, RepliesToAllStored}
use Rattle.bank_transactions.specs.{Running.Leads, Writing.AreBranchNumbers, Writing.MayWrite}
use Rattle.bank_transactions.specs.believed.{Additions.AddsForRecords, Answered.AnswersAll, Ran.LeadTo, Ran.Runs}
use Rattle.bank_transactions.proofs.{HeldRows.both_held, HeldSlots.at_key}
use Rattle.bank_transactions.proofs.Running.{runs_for, runs_same}
use Rattle.posting_batch.specs.Overlay.{tables_over}

-- ---- an overlay that is filled again

-- what slots were filled with before doesn't count
module _ (t : Tables) where
  filled_again : (o : Overlay) → filled t (emptied o) ≡ filled t o
  filled_again o = rw (
    map-map (branch_filled t) emptied_branch o.branches,
    map-map (floor_filled t) emptied_floor o.floors,
    map-map (teller_filled t) emptied_teller o.tellers,
    map-map (account_filled t) emptied_account o.accounts,
    map-map (request_filled t) emptied_request o.kept,
  ) refl

  pub filled_over : (o p : Overlay) → emptied o ≡ emptied p → filled t o ≡ filled t p
  filled_over o p same = sym (filled_again o) ∙ ap (filled t) same ∙ filled_again p

-- slots that change and keep their keys stood in the same order
module _ {S : Type 0} (below : S → S → Bool) (f : S → S)
    (same : (a b : S) → below (f a) (f b) ≡ below a b) where
  above_back : (a : S) (xs : List S) → AllByRecursion (λ x. IsTrue (below (f a) x)) (map f xs)
      → AllByRecursion (λ x. IsTrue (below a x)) xs
  above_back a [] all = tt
  above_back a (x ∷ xs) all = (sym (same a x) ∙ all.0, above_back a xs all.1)

  rising_back : (xs : List S) → IsRising below (map f xs) → IsRising below xs
  rising_back [] rises = tt
  rising_back (x ∷ xs) rises = (above_back x xs rises.0, rising_back xs rises.1)

rising_emptied : (o : Overlay) → HasRisingSlots o → HasRisingSlots (emptied o)
rising_emptied o rises = record {
  branches = rising_mapped (number_below branch_slot_key) emptied_branch (λ a b. refl) o.branches rises.branches;
  floors = rising_mapped (number_below floor_slot_key) emptied_floor (λ a b. refl) o.floors rises.floors;
  tellers = rising_mapped (number_below teller_slot_key) emptied_teller (λ a b. refl) o.tellers rises.tellers;
  accounts = rising_mapped (number_below account_slot_key) emptied_account (λ a b. refl) o.accounts
      rises.accounts;
  kept = rising_mapped request_below emptied_request (λ a b. refl) o.kept rises.kept;
}

rising_filled : (o : Overlay) → HasRisingSlots (emptied o) → HasRisingSlots o
rising_filled o rises = record {
  branches = rising_back (number_below branch_slot_key) emptied_branch (λ a b. refl) o.branches rises.branches;
  floors = rising_back (number_below floor_slot_key) emptied_floor (λ a b. refl) o.floors rises.floors;
  tellers = rising_back (number_below teller_slot_key) emptied_teller (λ a b. refl) o.tellers rises.tellers;
  accounts = rising_back (number_below account_slot_key) emptied_account (λ a b. refl) o.accounts
      rises.accounts;
  kept = rising_back request_below emptied_request (λ a b. refl) o.kept rises.kept;
}

-- ---- what the tables tell of a record

answers : {S X : Type 0} (content : S → X) (P : X → Type 0) (x : X) (o : Option S) → IsSome o
    → IfSome o (λ s. P (content s)) → IfSome o (λ s. content s ≡ x) → P x
answers content P x None there held is = absurd cc
answers content P x (Some s) there held is = subst P is held

-- what is so of what is kept in the slot of a request
kept_at : (P : ℕ → ℕ → Option KeptFields → Type 0) (slots : List RequestSlot)
    → AllByRecursion (λ s. P s.teller s.number s.kept) slots → (n m : ℕ)
    → IfSome (find (is_for n m) slots) (λ s. P n m s.kept)
kept_at P [] all n m = tt
kept_at P (s ∷ slots) all n m =
    elim (by_test (is_for n m s)) [
      | inl t ↦
          let both = and_parts (eqb s.teller n) (eqb s.number m) t in
          rw t (subst (λ (j : ℕ). P j m s.kept) (eqb-true s.teller n both.0)
          (subst (λ (j : ℕ). P s.teller j s.kept) (eqb-true s.number m both.1) all.0))
      | inr f ↦ rw f (kept_at P slots all.1 n m)
    ]

-- what the tables tell to be kept of a request is so
told_kept : (P : ℕ → ℕ → Option KeptFields → Type 0) (o : Overlay) (t : Tables)
    (reads : List (Result RequestFields Bad)) → Stands o t reads
    → AllByRecursion (λ s. P s.teller s.number s.kept) o.kept → (r : RequestFields) → CoversRead o (Ok r)
    → P r.teller r.number (kept_in t.requests t.references r.teller r.number)
told_kept P o t reads stand all r covers =
    answers (λ s. s.kept) (λ k. P r.teller r.number k) (kept_in t.requests t.references r.teller r.number)
    _ covers.kept (kept_at P o.kept all r.teller r.number)
    (subst (λ (u : Tables). IfSome (find (is_for r.teller r.number) o.kept)
    (λ s. s.kept ≡ kept_in u.requests u.references r.teller r.number)) stand.same
    (stand.fits.kept r.teller r.number))

module _ (rows : StoredRows) where
  module _ (o : Overlay) (t : Tables) (reads : List (Result RequestFields Bad)) (stand : Stands o t reads)
      (held : AreHeld rows o) where
    has_request : (r : RequestFields) → CoversRead o (Ok r) → HasStored rows t r
    has_request r covers =
        let b = branch_of_teller r.teller in
        let a = branch_of_account r.account in
        let teller : HoldsTellerRow rows r.teller
        (option_map balance_of_teller (row_at teller_key t.tellers r.teller)) =
        answers (λ s. s.stored) (λ z. HoldsTellerRow rows r.teller z) _ _ covers.teller
        (at_key teller_slot_key (λ k s. HoldsTellerRow rows k s.stored) o.tellers held.tellers r.teller)
        (stand.fits.tellers r.teller) in
        let branch : HoldsBranch rows b (row_at branch_key t.branches b) =
        answers (λ s. s.stored) (λ row. HoldsBranch rows b row) _ _ covers.branch
        (at_key branch_slot_key (λ k s. HoldsBranch rows k s.stored) o.branches held.branches b)
        (stand.fits.branches b) in
        record {
          teller = both_held rows r.teller _ _ teller branch;
          teller_fits = teller.fits;
          account =
              answers (λ s. s.stored) (λ z. HoldsAccount rows r.account z) (account_balance_in t r.account) _
              covers.account
              (at_key account_slot_key (λ k s. HoldsAccount rows k s.stored) o.accounts held.accounts r.account)
              (stand.fits.accounts r.account);
          branch =
              answers (λ s. s.stored) (λ row. HoldsBranch rows a row) (row_at branch_key t.branches a) _
              covers.its_branch
              (at_key branch_slot_key (λ k s. HoldsBranch rows k s.stored) o.branches held.branches a)
              (stand.fits.branches a);
          floor =
              answers (λ s. s.floor) (λ z. HoldsFloor rows a z) (floor_in t a) _ covers.its_floor
              (at_key floor_slot_key (λ k s. HoldsFloor rows k s.floor) o.floors held.floors a)
              (stand.fits.floors a);
          kept = told_kept (HoldsKept rows) o t reads stand held.kept r covers;
        }

    has_read : (read : Result RequestFields Bad) → CoversRead o read → HasRead rows t read
    has_read (Err fault) covers = tt
    has_read (Ok r) covers = has_request r covers

    has_records : (records : List (List ℕ)) → CoversAll o (map request_of records)
        → AllByRecursion (λ bytes. HasRead rows t (request_of bytes)) records
    has_records [] covers = tt
    has_records (bytes ∷ records) covers =
        (has_read (request_of bytes) covers.0, has_records records covers.1)

-- ---- slots that are made for records, and filled

is_own : (n : ℕ) (o : Option BranchRow) → IfSome o (IsRowOf n) → IfSome o (λ b. b.branch ≡ n)
is_own n None own = tt
is_own n (Some b) own = own.0

module _ (free : ℕ) (runs : List ClosingRow) (reads : List (Result RequestFields Bad)) (slots : Overlay)
    (same : emptied slots ≡ emptied (covering_all no_slots reads)) (own : AllByRecursion HasOwnRow slots.branches)
    (books : AllByRecursion (TellsBooks runs) slots.kept) where
  -- tables that have what the slots tell, with these closings, and so many ordinals free
  abbrev its_tables : Tables
  its_tables = tables_told free runs slots

  rises : HasRisingSlots slots
  rises = rising_filled slots (subst HasRisingSlots (sym same)
      (rising_emptied (covering_all no_slots reads) (made_all reads).rising))

  filled_so : slots ≡ filled its_tables (covering_all no_slots reads)
  filled_so =
      sym (told_filled free runs slots rises
      (all_weaker HasOwnRow IsOwn (λ s. is_own s.branch s.stored) slots.branches own) books)
      ∙ filled_over its_tables slots (covering_all no_slots reads) same

  they_stand : Stands slots its_tables reads
  they_stand = subst (λ (o : Overlay). Stands o its_tables reads) (sym filled_so) (stands its_tables reads)

-- ---- the branches among them

abbrev IsBranch : ℕ → Type 0
IsBranch n = whole_within 1 MAX_BRANCH n ≡ Some n

-- what is so of the key of each row that slots tell is so of a key that has a row
told_key : {S R : Type 0} (row : S → Option R) (key : R → ℕ) (P : ℕ → Type 0) (slots : List S)
    → AllByRecursion (λ s. IfSome (row s) (λ r. P (key r))) slots → (n : ℕ)
    → IsSome (row_at key (rows_told row slots) n) → P n
told_key row key P [] all n there = absurd cc
told_key {S} {R} row key P (s ∷ slots) all n there =
    one (row s) (rows_told row slots) all.0 (told_key row key P slots all.1 n) there
  where
    one : (o : Option R) (rows : List R) → IfSome o (λ r. P (key r)) → (IsSome (row_at key rows n) → P n)
        → IsSome (row_at key (with_told o rows) n) → P n
    one None rows own rest there = rest there
    one (Some r) rows own rest there = elim (by_test (eqb (key r) n)) [
      | inl t ↦ subst P (eqb-true (key r) n t) own
      | inr f ↦ rest (rw f at there)
    ]

is_within : (n : ℕ) (o : Option BranchRow) → IfSome o (IsRowOf n)
    → IfSome (option_map (λ (b : BranchRow). record b { branch = n }) o) (λ r. IsBranch (branch_key r))
is_within n None own = tt
is_within n (Some b) own = own.1

numbers_of : (rows : List BranchRow) → ((n : ℕ) → IsSome (row_at branch_key rows n) → IsBranch n)
    → (slots : List BranchSlot)
    → AllByRecursion (λ s. IfSome s.changed (λ z. IsSome (row_at branch_key rows s.branch))) slots
    → AreBranchNumbers slots
numbers_of rows within slots changes =
    all_weaker (λ s. IfSome s.changed (λ z. IsSome (row_at branch_key rows s.branch)))
    (λ s. IfSome s.changed (λ z. IsBranch s.branch)) (λ s. one s s.changed) slots changes
  where
    one : (s : BranchSlot) (c : Option ℤ) → IfSome c (λ z. IsSome (row_at branch_key rows s.branch))
        → IfSome c (λ z. IsBranch s.branch)
    one s None it = tt
    one s (Some z) it = within s.branch it

-- a batch that is judged answers in turn, and where nothing is decided it leaves all as it was
pub in_turn : (old new : Database) (b b' : Batch) (records : List (List ℕ)) (m : ℕ) (o : Overlay)
    (items : List (List ℕ)) → IsMadeOf b records → reads_of b' ≡ reads_of b
    → emptied (view b'.overlay) ≡ emptied (view b.overlay)
    → AllByRecursion HasOwnRow (view b'.overlay).branches
    → OfRows (λ rows. AreHeld rows (view b'.overlay)) old → Closes old (view b'.overlay).kept
    → ((t : Tables) (rs : List (List ℕ)) → IsFilledFrom b' t rs → HasFreeOrdinals t (length rs)
    → IsJudged o items t m rs)
    → (o.decided ≡ (view b'.overlay).decided → new ≡ old)
    → RepliesToAllStored old new m records items
in_turn old new b b' records m o items made reads same own held closed judged idle =
    let its : List (Result RequestFields Bad) = map request_of records in
    let slots = view b'.overlay in
    let so = same ∙ ap emptied made.overlay in
    let free = length records in
    let t : Tables = its_tables free closed.0 its slots so own closed.1 in
    let stand = they_stand free closed.0 its slots so own closed.1 in
    let is = judged t records (record {
      reads = reads ∙ made.reads;
      overlay = filled_so free closed.0 its slots so own closed.1;
    }) (told_free free closed.0 slots) in
    record {
      tables = t;
      stored = λ rows has.
          (has_records rows slots t its stand (held rows has) records stand.covers, (held rows has).decided);
      free = told_free free closed.0 slots;
      closed = closed.2;
      are = is.answers;
      stays = λ none. idle (ap (λ (u : Tables). u.decided) is.tables ∙ none);
    }

-- what was run leads to what the records leave of those tables: nothing was where nothing is changed
pub answers_all : (old new : Database) (b b' : Batch) (records : List (List ℕ)) (m : ℕ) (o : Overlay)
    (items : List (List ℕ)) → IsMadeOf b records → reads_of b' ≡ reads_of b
    → emptied (view b'.overlay) ≡ emptied (view b.overlay)
    → AllByRecursion HasOwnRow (view b'.overlay).branches
    → OfRows (λ rows. AreHeld rows (view b'.overlay)) old → Closes old (view b'.overlay).kept
    → ((t : Tables) (rs : List (List ℕ)) → IsFilledFrom b' t rs → HasFreeOrdinals t (length rs)
    → IsJudged o items t m rs)
    → (o.decided ≡ (view b'.overlay).decided → new ≡ old)
    → (HasRisingSlots (view b'.overlay) → HasRisingSlots o)
    → ((o ≡ view b'.overlay) × (new ≡ old)) ⊎ Runs (AddsForRecords old records) (Leads (MayWrite o) (tables_over o)) old new
    → AnswersAll old new m records items
unfolding in_turn
answers_all old new b b' records m o items made reads same own held closed judged idle rising wrote =
    let its : List (Result RequestFields Bad) = map request_of records in
    let slots = view b'.overlay in
    let so = same ∙ ap emptied made.overlay in
    let free = length records in
    let t : Tables = its_tables free closed.0 its slots so own closed.1 in
    let filled_from = filled_so free closed.0 its slots so own closed.1 in
    let is = judged t records (record { reads = reads ∙ made.reads; overlay = filled_from }) (told_free free closed.0 slots) in
    record {
      answers = in_turn old new b b' records m o items made reads same own held closed judged idle;
      wrote = elim wrote [
        | inl none ↦
            let back : tables_past_all t m records ≡ t = sym is.tables
            ∙ ap (λ (p : Overlay). tables_over p t) (none.0 ∙ filled_from) ∙ (stands t its).same in
            runs_same _ _ old new none.1 back
        | inr ran ↦
            let within = numbers_of t.branches (told_key _ branch_key IsBranch slots.branches
            (all_weaker HasOwnRow _ (λ s. is_within s.branch s.stored) slots.branches own)) o.branches is.changes.branches in
            let may : MayWrite o t = (within, rising (rises free closed.0 its slots so own closed.1), is.changes, is.adds) in
            runs_for (λ text values adds. adds)
            (λ statements lead. subst (λ (u : Tables). LeadTo t u statements) is.tables (lead t may)) ran
      ];
    }

-- every branch that a batch asks for has its slot
pub homes_made : (b : Batch) (records : List (List ℕ)) → IsMadeOf b records → HasHomes (view b.overlay)
homes_made b records made = subst HasHomes (sym made.overlay) (homes_all (map request_of records))

-- ---- the whole transaction

-- what an answer says of the rows that were there as its transaction began, and of those at its end, is so of those
-- before it and after it
pub stored_after : {S X : Type 0} (g : Ghosts S) (Made : List (List ℕ) → Type 0)
    (Q : Database → Database → List (List ℕ) → X → Type 0) (old begun last end new : Held S)
    (answer result : Result X TableFault) → begun ≡ record old { in_transaction = true }
    → Ends g last end answer result → ((records : List (List ℕ)) → Made records → end ≡ new)
    → IfOk answer (λ x. HasCleanDisk (state g last) → (records : List (List ℕ)) → Made records
    → Q (state g begun).now (state g last).now records x)
    → IfOk result (λ x. HasCleanDisk (state g new) → (records : List (List ℕ)) → Made records
    → Q (state g old).now (state g new).now records x)
stored_after g Made Q old begun last end new answer (Err fault) is ends same stored = tt
stored_after g Made Q old begun last end new (Err fault) (Ok y) is ends same stored =
    absurd (let no = ends.given in cc)
stored_after {S} {X} g Made Q old begun last end new (Ok x) (Ok y) is ends same stored = λ clean records made.
    let ended : HasCleanDisk (state g end) = subst (λ (h : Held S). HasCleanDisk (state g h))
    (sym (same records made)) clean in
    let before : HasCleanDisk (state g last) = omega (arith, ends.survives.clean) in
    let given : x ≡ y = (let it = ends.given in cc) in
    subst (λ (h : Held S). Q (state g old).now (state g h).now records y) (same records made)
    (subst (λ (z : X). Q (state g old).now (state g end).now records z) given
    (subst (λ (db : Database). Q (state g old).now db records x) (sym (ends.answers ended).0)
    (subst (λ (db : Database). Q db (state g last).now records x) (ap (λ (h : Held S). (state g h).now) is)
    (stored before records made))))

-- and so is what it says of a transaction that went on
pub answered_after : {S X : Type 0} (g : Ghosts S) (Made : List (List ℕ) → Type 0)
    (Q : Database → Database → List (List ℕ) → X → Type 0) (old begun last end new : Held S)
    (answer result : Result X TableFault) → begun ≡ record old { in_transaction = true }
    → Ends g last end answer result → ((records : List (List ℕ)) → Made records → end ≡ new)
    → IfOk answer (λ x. HasCleanDisk (state g last) → IsTrue (state g begun).in_transaction
    → (records : List (List ℕ)) → Made records → Q (state g begun).now (state g last).now records x)
    → IfOk result (λ x. HasCleanDisk (state g new) → (records : List (List ℕ)) → Made records
    → Q (state g old).now (state g new).now records x)
answered_after g Made Q old begun last end new answer result is ends same answered =
    stored_after g Made Q old begun last end new answer result is ends same
    (IfOk-weaker answer _ _ (λ x it clean. it clean (rw is refl)) answered)
