-- Slots that are emptied are those that were made.
use Rattle.std.proofs.Common.{◌≡◌, ℕ, eqb, List, [], ◌∷◌, ◌++◌, map, Option, Some, None, Result, Ok, Err, refl, Bool}
use Rattle.std.proofs.Common.{true, sym, ap, ◌∙◌, inl, inr}
use Rattle.std.specs.Prelude.{IfSome, IsSome, ◌&&◌}
use Rattle.std.specs.List.{find, AllByRecursion}
use Rattle.std.proofs.lemmas.Bool.{and_parts}
use Rattle.message_records.specs.{declared.fault.Bad.Bad, believed.Records.RequestFields}
use Rattle.posting_rules.specs.{believed.Cases.case_of, believed.Changes.row_changed, believed.Kept.KeptFields}
use Rattle.posting_rules.specs.{declared.judgments.Verdict.Verdict, declared.rows.HistoryRow.HistoryRow}
use Rattle.posting_rules.specs.{declared.rows.ReferenceRow.ReferenceRow, declared.rows.RequestRow.RequestRow}
use Rattle.posting_rules.specs.believed.Numbering.{branch_of_teller, branch_of_account}
use Rattle.posting_rules.specs.declared.judgments.Verdict.TheVariants.{Unkept, Again, Refused, Posted}
use Rattle.posting_rules.proofs.{Keyed.by_test, RowChanges.eqb-flip}
use Rattle.posting_batch.specs.declared.slots.{AccountSlot.AccountSlot, BranchSlot.BranchSlot, FloorSlot.FloorSlot}
use Rattle.posting_batch.specs.declared.slots.{RequestSlot.RequestSlot, TellerSlot.TellerSlot}
use Rattle.posting_batch.specs.Batch.{IsAmong, KeepsNew, blanked, covering, covering_all, no_slots, with_branch_slot}
use Rattle.posting_batch.specs.Judging.{found_over, overlay_after, overlay_with, overlay_with_all}
use Rattle.posting_batch.specs.Overlay.{Overlay}
use Rattle.posting_batch.specs.Placed.{number_below, number_same, request_below, request_same}
use Rattle.posting_batch.specs.Slots.{account_slot_key, branch_slot_key, floor_slot_key, teller_slot_key}
use Rattle.posting_batch.specs.Slots.{empty_account, empty_branch, empty_floor, empty_request, empty_teller, is_for}
use Rattle.posting_batch.specs.Slots.{slots_kept, with_account_changed, with_branch_changed, with_teller_changed}
use Rattle.posting_batch.proofs.Orders.{all-placed}

abbrev branch_blank : BranchSlot → BranchSlot
branch_blank s = empty_branch s.branch

abbrev floor_blank : FloorSlot → FloorSlot
floor_blank s = empty_floor s.branch

abbrev teller_blank : TellerSlot → TellerSlot
teller_blank s = empty_teller s.teller

abbrev account_blank : AccountSlot → AccountSlot
account_blank s = empty_account s.account

abbrev request_blank : RequestSlot → RequestSlot
request_blank s = empty_request s.teller s.number

-- ---- records that are judged keep the keys

blank_changed : {S : Type 0} (key : S → ℕ) (change blank : S → S) → ((s : S) → blank (change s) ≡ blank s) → (n : ℕ)
    → (slots : List S) → map blank (row_changed key change n slots) ≡ map blank slots
blank_changed key change blank same n [] = refl
blank_changed {S} key change blank same n (s ∷ slots) =
    elim (by_test (eqb (key s) n)) [
      | inl t ↦ rw t (ap (λ (x : S). x ∷ map blank (row_changed key change n slots)) (same s)
          ∙ ap (λ (xs : List S). blank s ∷ xs) (blank_changed key change blank same n slots))
      | inr f ↦ rw f (ap (λ (xs : List S). blank s ∷ xs) (blank_changed key change blank same n slots))
    ]

blank_kept : (n m : ℕ) (k : KeptFields) (slots : List RequestSlot)
    → map request_blank (slots_kept n m k slots) ≡ map request_blank slots
blank_kept n m k [] = refl
blank_kept n m k (s ∷ slots) =
    elim (by_test (is_for n m s)) [
      | inl t ↦ rw t (ap (λ (xs : List RequestSlot). request_blank s ∷ xs) (blank_kept n m k slots))
      | inr f ↦ rw f (ap (λ (xs : List RequestSlot). request_blank s ∷ xs) (blank_kept n m k slots))
    ]

blank_after : (o : Overlay) (m : ℕ) (r : RequestFields) (v : Verdict)
    → blanked (overlay_after o m r v) ≡ blanked o
blank_after o m r (Unkept x) = refl
blank_after o m r (Again x) = refl
blank_after o m r (Refused x) = rw (blank_kept r.teller r.number _ o.kept) refl
blank_after o m r (Posted account teller branch) = rw (
  blank_changed branch_slot_key (with_branch_changed branch) branch_blank (λ s. refl) (branch_of_teller r.teller)
      o.branches,
  blank_changed teller_slot_key (with_teller_changed teller) teller_blank (λ s. refl) r.teller o.tellers,
  blank_changed account_slot_key (with_account_changed account) account_blank (λ s. refl) r.account o.accounts,
  blank_kept r.teller r.number _ o.kept,
) refl

blank_with : (o : Overlay) (m : ℕ) (read : Result RequestFields Bad) → blanked (overlay_with o m read) ≡ blanked o
blank_with o m (Err fault) = refl
blank_with o m (Ok r) = blank_after o m r (case_of (found_over o r) r)

pub blank_all : (o : Overlay) (m : ℕ) (reads : List (Result RequestFields Bad))
    → blanked (overlay_with_all o m reads) ≡ blanked o
blank_all o m [] = refl
blank_all o m (read ∷ reads) = blank_all (overlay_with o m read) m reads ∙ blank_with o m read

-- ---- slots that were made have their keys alone

abbrev IsBare : {S : Type 0} → (S → S) → S → Type 0
IsBare blank s = blank s ≡ s

record AreBare (o : Overlay) : Type 0 where
  pub branches : AllByRecursion (IsBare branch_blank) o.branches
  pub floors : AllByRecursion (IsBare floor_blank) o.floors
  pub tellers : AllByRecursion (IsBare teller_blank) o.tellers
  pub accounts : AllByRecursion (IsBare account_blank) o.accounts
  pub kept : AllByRecursion (IsBare request_blank) o.kept
  pub undecided : o.decided ≡ 0
  pub history : o.history ≡ []
  pub requests : o.requests ≡ []
  pub references : o.references ≡ []

bare_with : (o : Overlay) (read : Result RequestFields Bad) → AreBare o → AreBare (covering o read)
bare_with o (Err fault) bare = bare
bare_with o (Ok r) bare =
    let home = empty_branch (branch_of_teller r.teller) in
    let its = empty_branch (branch_of_account r.account) in
    let first = with_branch_slot (branch_of_teller r.teller) o.branches in
    record {
      branches = all-placed (number_below branch_slot_key) (number_same branch_slot_key) its (IsBare branch_blank)
          first refl
          (all-placed (number_below branch_slot_key) (number_same branch_slot_key) home (IsBare branch_blank)
          o.branches refl bare.branches);
      floors = all-placed (number_below floor_slot_key) (number_same floor_slot_key)
          (empty_floor (branch_of_account r.account)) (IsBare floor_blank) o.floors refl bare.floors;
      tellers = all-placed (number_below teller_slot_key) (number_same teller_slot_key) (empty_teller r.teller)
          (IsBare teller_blank) o.tellers refl bare.tellers;
      accounts = all-placed (number_below account_slot_key) (number_same account_slot_key)
          (empty_account r.account) (IsBare account_blank) o.accounts refl bare.accounts;
      kept = all-placed request_below request_same (empty_request r.teller r.number) (IsBare request_blank) o.kept
          refl bare.kept;
      undecided = bare.undecided;
      history = bare.history;
      requests = bare.requests;
      references = bare.references;
    }

bare_on : (o : Overlay) (reads : List (Result RequestFields Bad)) → AreBare o → AreBare (covering_all o reads)
bare_on o [] bare = bare
bare_on o (read ∷ reads) bare = bare_on (covering o read) reads (bare_with o read bare)

bare_all : (reads : List (Result RequestFields Bad)) → AreBare (covering_all no_slots reads)
bare_all reads = bare_on no_slots reads (record {
  branches = tt;
  floors = tt;
  tellers = tt;
  accounts = tt;
  kept = tt;
  undecided = refl;
  history = refl;
  requests = refl;
  references = refl;
})

map_bare : {S : Type 0} (blank : S → S) (slots : List S) → AllByRecursion (IsBare blank) slots
    → map blank slots ≡ slots
map_bare blank [] bare = refl
map_bare {S} blank (s ∷ slots) bare =
    ap (λ (x : S). x ∷ map blank slots) bare.0 ∙ ap (λ (xs : List S). s ∷ xs) (map_bare blank slots bare.1)

-- overlays with the same fields
same_fields : (b b' : List BranchSlot) (f f' : List FloorSlot) (e e' : List TellerSlot) (a a' : List AccountSlot)
    (k k' : List RequestSlot) (d d' : ℕ) (h h' : List HistoryRow) (q q' : List RequestRow) (r r' : List ReferenceRow)
    → b ≡ b' → f ≡ f' → e ≡ e' → a ≡ a' → k ≡ k' → d ≡ d' → h ≡ h' → q ≡ q' → r ≡ r'
    → ◌≡◌ {A = Overlay} (record {
      branches = b;
      floors = f;
      tellers = e;
      accounts = a;
      kept = k;
      decided = d;
      history = h;
      requests = q;
      references = r;
    }) (record {
      branches = b';
      floors = f';
      tellers = e';
      accounts = a';
      kept = k';
      decided = d';
      history = h';
      requests = q';
      references = r';
    })
same_fields b b' f f' e e' a a' k k' d d' h h' q q' r r' eb ef ee ea ek ed eh eq er =
    rw (eb, ef, ee, ea, ek, ed, eh, eq, er) refl

-- so that they are as they were made
pub blank_made : (reads : List (Result RequestFields Bad))
    → blanked (covering_all no_slots reads) ≡ covering_all no_slots reads
blank_made reads =
    let o = covering_all no_slots reads in
    let bare = bare_all reads in
    same_fields _ _ _ _ _ _ _ _ _ _ _ _ _ _ _ _ _ _
    (map_bare branch_blank o.branches bare.branches) (map_bare floor_blank o.floors bare.floors)
    (map_bare teller_blank o.tellers bare.tellers) (map_bare account_blank o.accounts bare.accounts)
    (map_bare request_blank o.kept bare.kept) (sym bare.undecided) (sym bare.history) (sym bare.requests)
    (sym bare.references)

bare_unkept : (slots : List RequestSlot) → AllByRecursion (IsBare request_blank) slots
    → AllByRecursion (λ s. s.kept ≡ None) slots
bare_unkept [] bare = tt
bare_unkept (s ∷ slots) bare = (sym (ap (λ (x : RequestSlot). x.kept) bare.0), bare_unkept slots bare.1)

-- and keep nothing
pub made_unkept : (reads : List (Result RequestFields Bad))
    → AllByRecursion (λ s. s.kept ≡ None) (covering_all no_slots reads).kept
made_unkept reads = bare_unkept (covering_all no_slots reads).kept (bare_all reads).kept

-- ---- what is kept is new

if_weaker : {X A B : Type 0} → (A → B) → (o : Option X) → IfSome o (λ x. A) → IfSome o (λ x. B)
if_weaker so None h = tt
if_weaker so (Some x) h = so h

found_more : {R : Type 0} (p : R → Bool) (rows : List R) (r : R) → IsSome (find p rows)
    → IsSome (find p (rows ++ r ∷ []))
found_more p [] r there = absurd cc
found_more p (x ∷ rows) r there = elim (by_test (p x)) [
  | inl t ↦ rw t refl
  | inr f ↦ rw f (found_more p rows r (let h = rw f at there in h))
]

found_last : {R : Type 0} (p : R → Bool) (rows : List R) (r : R) → p r ≡ true → IsSome (find p (rows ++ r ∷ []))
found_last p [] r is = rw is refl
found_last p (x ∷ rows) r is = elim (by_test (p x)) [
  | inl t ↦ rw t refl
  | inr f ↦ rw f (found_last p rows r is)
]

abbrev asks : RequestSlot → RequestRow → Bool
asks s r = (eqb r.teller s.teller) && (eqb r.number s.number)

keeps_more : (rows : List RequestRow) (row : RequestRow) (k : KeptFields) (slots : List RequestSlot)
    → AllByRecursion (λ s. IfSome s.kept (λ k. IsAmong rows s)) slots
    → AllByRecursion (λ s. IfSome s.kept (λ k. IsAmong (rows ++ row ∷ []) s)) (slots_kept row.teller row.number k slots)
keeps_more rows row k [] all = tt
keeps_more rows row k (s ∷ slots) all = (
  elim (by_test (is_for row.teller row.number s)) [
    | inl t ↦
        let both = and_parts (eqb s.teller row.teller) (eqb s.number row.number) t in
        let teller : eqb row.teller s.teller ≡ true = eqb-flip row.teller s.teller ∙ both.0 in
        let number : eqb row.number s.number ≡ true = eqb-flip row.number s.number ∙ both.1 in
        let is : asks s row ≡ true = rw (teller, number) refl in
        rw t (found_last (asks s) rows row is)
    | inr f ↦ rw f (if_weaker (found_more (asks s) rows row) s.kept all.0)
  ],
  keeps_more rows row k slots all.1,
)

keeps_after : (o : Overlay) (m : ℕ) (r : RequestFields) (v : Verdict) → KeepsNew o
    → KeepsNew (overlay_after o m r v)
keeps_after o m r (Unkept x) keeps = keeps
keeps_after o m r (Again x) keeps = keeps
keeps_after o m r (Refused x) keeps = keeps_more o.requests _ _ o.kept keeps
keeps_after o m r (Posted account teller branch) keeps = keeps_more o.requests _ _ o.kept keeps

keeps_with : (o : Overlay) (m : ℕ) (read : Result RequestFields Bad) → KeepsNew o → KeepsNew (overlay_with o m read)
keeps_with o m (Err fault) keeps = keeps
keeps_with o m (Ok r) keeps = keeps_after o m r (case_of (found_over o r) r) keeps

pub keeps_all : (o : Overlay) (m : ℕ) (reads : List (Result RequestFields Bad)) → KeepsNew o
    → KeepsNew (overlay_with_all o m reads)
keeps_all o m [] keeps = keeps
keeps_all o m (read ∷ reads) keeps = keeps_all (overlay_with o m read) m reads (keeps_with o m read keeps)
