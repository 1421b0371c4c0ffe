-- Tables that have what the slots of an overlay tell: the overlay is filled from them.
use Rattle.std.proofs.Common.{◌≡◌, ℕ, suc, ◌+◌, ◌<◌, Bool, true, false, eqb, ltb, List, [], ◌∷◌, map, Option, Some}
use Rattle.std.proofs.Common.{None, refl, sym, ap, ◌∙◌, arith}
use Rattle.std.specs.Prelude.{◌&&◌, ◌||◌, ℤ, IsTrue, IfSome, option_and_then}
use Rattle.std.specs.{List.find, List.AllByRecursion, Option.option_map}
use Rattle.std.proofs.lemmas.Bool.Decides.{nat_tests}
use Rattle.posting_rules.specs.believed.Kept.{KeptFields, kept_with}
use Rattle.posting_rules.specs.believed.LookUps.{balance_of_account, balance_of_teller, kept_in, kept_of_row}
use Rattle.posting_rules.specs.believed.LookUps.{lowest_of, text_of_reference}
use Rattle.posting_rules.specs.believed.Tables.{Tables, row_at, account_key, account_row_of, branch_key, floor_key}
use Rattle.posting_rules.specs.believed.Tables.{floor_row_of, reference_key, reference_row_of, request_key}
use Rattle.posting_rules.specs.believed.Tables.{teller_key, teller_row_of}
use Rattle.posting_rules.specs.{believed.Closings.books_of, declared.judgments.Books.Books, declared.rows.ClosingRow.ClosingRow}
use Rattle.posting_rules.specs.declared.rows.{AccountRow.AccountRow, BranchRow.BranchRow, FloorRow.FloorRow}
use Rattle.posting_rules.specs.declared.rows.{ReferenceRow.ReferenceRow, RequestRow.RequestRow, TellerRow.TellerRow}
use Rattle.posting_batch.specs.declared.slots.{AccountSlot.AccountSlot, BranchSlot.BranchSlot, FloorSlot.FloorSlot}
use Rattle.posting_batch.specs.declared.slots.{RequestSlot.RequestSlot, TellerSlot.TellerSlot}
use Rattle.posting_batch.specs.Batch.{HasRisingSlots, account_filled, branch_filled, filled, request_filled}
use Rattle.posting_batch.specs.Batch.{floor_filled, teller_filled}
use Rattle.posting_batch.specs.believed.Batch.{HasFreeOrdinals}
use Rattle.posting_batch.specs.{Overlay.Overlay, Placed.IsRising, Placed.number_below, Placed.request_below}
use Rattle.posting_batch.specs.Slots.{account_slot_key, branch_slot_key, floor_slot_key, teller_slot_key}

-- ---- the rows that slots tell, found again

abbrev pub with_told : {R : Type 0} → Option R → List R → List R
with_told None rows = rows
with_told (Some r) rows = r ∷ rows

abbrev pub rows_told : {S R : Type 0} → (S → Option R) → List S → List R
rows_told row [] = []
rows_told row (s ∷ slots) = with_told (row s) (rows_told row slots)

-- a slot tells a row, and looks for a row
module _ {S R : Type 0} (row : S → Option R) (is : S → R → Bool) where
  abbrev Misses : S → S → Type 0
  Misses s x = IfSome (row x) (λ r. is s r ≡ false)

  passes_one : (s : S) (o : Option R) (rows : List R) → IfSome o (λ r. is s r ≡ false)
      → find (is s) (with_told o rows) ≡ find (is s) rows
  passes_one s None rows misses = refl
  passes_one s (Some r) rows misses = rw misses refl

  passes_all : (s : S) (slots : List S) → AllByRecursion (Misses s) slots
      → find (is s) (rows_told row slots) ≡ None
  passes_all s [] all = refl
  passes_all s (x ∷ slots) all = passes_one s (row x) (rows_told row slots) all.0 ∙ passes_all s slots all.1

  first_found : (s : S) (o : Option R) (rows : List R) → IfSome o (λ r. is s r ≡ true)
      → find (is s) rows ≡ None → find (is s) (with_told o rows) ≡ o
  first_found s None rows hits none = none
  first_found s (Some r) rows hits none = rw hits refl

  module _ (below : S → S → Bool) (own : (s : S) → IfSome (row s) (λ r. is s r ≡ true))
      (apart : (a b : S) → IsTrue (below a b) → Misses a b × Misses b a) where
    misses_all : (x : S) (slots : List S) → AllByRecursion (λ s. IsTrue (below x s)) slots
        → AllByRecursion (Misses x) slots
    misses_all x [] above = tt
    misses_all x (s ∷ slots) above = ((apart x s above.0).0, misses_all x slots above.1)

    after_one : (x : S) (rows : List R) (slots : List S) → AllByRecursion (λ s. IsTrue (below x s)) slots
        → AllByRecursion (λ s. find (is s) rows ≡ row s) slots
        → AllByRecursion (λ s. find (is s) (with_told (row x) rows) ≡ row s) slots
    after_one x rows [] above all = tt
    after_one x rows (s ∷ slots) above all =
        (passes_one s (row x) rows (apart x s above.0).1 ∙ all.0, after_one x rows slots above.1 all.1)

    -- each slot finds the row that it tells
    pub all_found : (slots : List S) → IsRising below slots
        → AllByRecursion (λ s. find (is s) (rows_told row slots) ≡ row s) slots
    all_found [] rises = tt
    all_found (x ∷ slots) rises = (
      first_found x (row x) (rows_told row slots) (own x) (passes_all x slots (misses_all x slots rises.0)),
      after_one x (rows_told row slots) slots rises.0 (all_found slots rises.1),
    )

-- ---- slots under a number

same_number : (a b : ℕ) → a ≡ b → eqb a b ≡ true
same_number a b h = grind (arith, nat_tests)

other_number : (a b c : ℕ) → c ≡ b → ltb a b ≡ true → eqb c a ≡ false
other_number a b c is h = grind (arith, nat_tests)

lower_number : (a b c : ℕ) → c ≡ a → ltb a b ≡ true → eqb c b ≡ false
lower_number a b c is h = grind (arith, nat_tests)

told_again : {A R : Type 0} (make : A → R) (back : R → A) → ((a : A) → back (make a) ≡ a) → (o : Option A)
    → option_map back (option_map make o) ≡ o
told_again make back same None = refl
told_again make back same (Some a) = ap (λ x. Some x) (same a)

if_made : {A R : Type 0} (make : A → R) (P : R → Type 0) → ((a : A) → P (make a)) → (o : Option A)
    → IfSome (option_map make o) P
if_made make P all None = tt
if_made make P all (Some a) = all a

-- what slots tell of the row under their number
module _ {S A R : Type 0} (key : S → ℕ) (content : S → Option A) (make : S → A → R) (row_key : R → ℕ)
    (same : (s : S) (a : A) → row_key (make s a) ≡ key s) where
  abbrev row_of : S → Option R
  row_of s = option_map (make s) (content s)

  pub numbered_found : (slots : List S) → IsRising (number_below key) slots
      → AllByRecursion (λ s. row_at row_key (rows_told row_of slots) (key s) ≡ row_of s) slots
  numbered_found slots rises = all_found row_of (λ s r. eqb (row_key r) (key s)) (number_below key)
      (λ s. if_made (make s) (λ r. eqb (row_key r) (key s) ≡ true)
      (λ a. same_number (row_key (make s a)) (key s) (same s a)) (content s))
      (λ a b lt. (
        if_made (make b) (λ r. eqb (row_key r) (key a) ≡ false)
            (λ x. other_number (key a) (key b) (row_key (make b x)) (same b x) lt) (content b),
        if_made (make a) (λ r. eqb (row_key r) (key b) ≡ false)
            (λ x. lower_number (key a) (key b) (row_key (make a x)) (same a x) lt) (content a),
      )) slots rises

-- ---- slots of requests

abbrev asks_for : RequestSlot → RequestRow → Bool
asks_for s r = (eqb r.teller s.teller) && (eqb r.number s.number)

abbrev pair_below : ℕ → ℕ → ℕ → ℕ → Bool
pair_below a n b m = ltb a b || (eqb a b && ltb n m)

both_same : (a n : ℕ) → (eqb a a && eqb n n) ≡ true
both_same a n = grind (arith, nat_tests)

pair_other : (a n b m : ℕ) → pair_below a n b m ≡ true → (eqb b a && eqb m n) ≡ false
pair_other a n b m h = grind (arith, nat_tests)

pair_lower : (a n b m : ℕ) → pair_below a n b m ≡ true → (eqb a b && eqb n m) ≡ false
pair_lower a n b m h = grind (arith, nat_tests)

-- a slot with a number of its own, under which its request and its reference stand
abbrev Numbered : Type 0
Numbered = ℕ × RequestSlot

abbrev numbered : ℕ → List RequestSlot → List Numbered
numbered n [] = []
numbered n (s ∷ slots) = (n, s) ∷ numbered (suc n) slots

-- the reference of what is kept, where it has one
abbrev referring_of : Option KeptFields → Option (List ℕ)
referring_of o = option_and_then (λ (k : KeptFields). k.reference) o

abbrev make_request : ℕ → RequestSlot → KeptFields → RequestRow
make_request n s kept = record { ordinal = n; teller = s.teller; number = s.number; decision = kept.decision }

abbrev request_told : Numbered → Option RequestRow
request_told p = option_map (make_request p.0 p.1) p.1.kept

abbrev reference_told : Numbered → Option ReferenceRow
reference_told p = option_map (reference_row_of p.0) (referring_of p.1.kept)

slots_above : (s : RequestSlot) (n m : ℕ) (slots : List RequestSlot)
    → AllByRecursion (λ x. IsTrue (request_below s x)) slots
    → AllByRecursion (λ (p : Numbered). IsTrue (request_below s p.1)) (numbered m slots)
slots_above s n m [] all = tt
slots_above s n m (x ∷ slots) all = (all.0, slots_above s n (suc m) slots all.1)

slots_rise : (n : ℕ) (slots : List RequestSlot) → IsRising request_below slots
    → IsRising (λ (p q : Numbered). request_below p.1 q.1) (numbered n slots)
slots_rise n [] rises = tt
slots_rise n (s ∷ slots) rises =
    (slots_above s n (suc n) slots rises.0, slots_rise (suc n) slots rises.1)

lower : (n m : ℕ) → n < m → ltb n m ≡ true
lower n m lt = grind (arith, nat_tests)

numbers_above : (n m : ℕ) (slots : List RequestSlot) → n < m
    → AllByRecursion (λ (p : Numbered). IsTrue (ltb n p.0)) (numbered m slots)
numbers_above n m [] lt = tt
numbers_above n m (x ∷ slots) lt = (lower n m lt, numbers_above n (suc m) slots (omega arith))

numbers_rise : (n : ℕ) (slots : List RequestSlot)
    → IsRising (λ (p q : Numbered). ltb p.0 q.0) (numbered n slots)
numbers_rise n [] = tt
numbers_rise n (s ∷ slots) = (numbers_above n (suc n) slots (omega arith), numbers_rise (suc n) slots)

requests_found : (n : ℕ) (slots : List RequestSlot) → IsRising request_below slots
    → AllByRecursion (λ (p : Numbered).
    find (asks_for p.1) (rows_told request_told (numbered n slots)) ≡ request_told p) (numbered n slots)
requests_found n slots rises = all_found request_told (λ (p : Numbered). asks_for p.1)
    (λ (p q : Numbered). request_below p.1 q.1)
    (λ p. if_made (make_request p.0 p.1) (λ r. asks_for p.1 r ≡ true)
    (λ k. both_same p.1.teller p.1.number) p.1.kept)
    (λ a b lt. (
      if_made (make_request b.0 b.1) (λ r. asks_for a.1 r ≡ false)
          (λ k. pair_other a.1.teller a.1.number b.1.teller b.1.number lt) b.1.kept,
      if_made (make_request a.0 a.1) (λ r. asks_for b.1 r ≡ false)
          (λ k. pair_lower a.1.teller a.1.number b.1.teller b.1.number lt) a.1.kept,
    )) (numbered n slots) (slots_rise n slots rises)

references_found : (n : ℕ) (slots : List RequestSlot)
    → AllByRecursion (λ (p : Numbered).
    row_at reference_key (rows_told reference_told (numbered n slots)) p.0 ≡ reference_told p)
    (numbered n slots)
references_found n slots = numbered_found (λ (p : Numbered). p.0)
    (λ p. referring_of p.1.kept) (λ p text. reference_row_of p.0 text)
    reference_key (λ p text. refl) (numbered n slots) (numbers_rise n slots)

-- what is kept of a request is found with its reference
its_reference : (n : ℕ) (k : KeptFields) (rows : List ReferenceRow)
    → row_at reference_key rows n ≡ option_map (reference_row_of n) k.reference
    → option_map text_of_reference (row_at reference_key rows n) ≡ k.reference
its_reference n k rows is =
    ap (option_map text_of_reference) is
    ∙ told_again (reference_row_of n) text_of_reference (λ text. refl) k.reference

kept_again : (n : ℕ) (s : RequestSlot) (o : Option KeptFields) (rows : List ReferenceRow)
    → row_at reference_key rows n ≡ option_map (reference_row_of n) (referring_of o)
    → option_map (kept_of_row rows) (option_map (make_request n s) o) ≡ o
kept_again n s None rows is = refl
kept_again n s (Some k) rows is =
    ap (λ (reference : Option (List ℕ)). Some (kept_with reference k.decision)) (its_reference n k rows is)

kept_found : (n : ℕ) (slots : List RequestSlot) (requests : List RequestRow) (references : List ReferenceRow)
    → AllByRecursion (λ (p : Numbered). find (asks_for p.1) requests ≡ request_told p) (numbered n slots)
    → AllByRecursion (λ (p : Numbered). row_at reference_key references p.0 ≡ reference_told p)
    (numbered n slots)
    → AllByRecursion (λ (s : RequestSlot). kept_in requests references s.teller s.number ≡ s.kept) slots
kept_found n [] requests references found referenced = tt
kept_found n (s ∷ slots) requests references found referenced = (
  ap (option_map (kept_of_row references)) found.0 ∙ kept_again n s s.kept references referenced.0,
  kept_found (suc n) slots requests references found.1 referenced.1,
)

-- ---- and stand under ordinals that no request comes to

above_told : {R : Type 0} (key : R → ℕ) (row : Numbered → Option R)
    → ((p : Numbered) → IfSome (row p) (λ r. key r ≡ p.0)) → (n k : ℕ) (slots : List RequestSlot) → k < n
    → row_at key (rows_told row (numbered n slots)) k ≡ None
above_told key row own n k [] lt = refl
above_told {R} key row own n k (s ∷ slots) lt =
    passed (row (n, s)) (own (n, s)) ∙ above_told key row own (suc n) k slots (omega arith)
  where
    others : List R
    others = rows_told row (numbered (suc n) slots)

    passed : (o : Option R) → IfSome o (λ r. key r ≡ n)
        → row_at key (with_told o others) k ≡ row_at key others k
    passed None is = refl
    passed (Some r) is =
        let miss : eqb (key r) k ≡ false = other_number k n (key r) is (lower k n lt) in
        rw miss refl

-- ---- the tables

abbrev make_account : AccountSlot → ℤ → AccountRow
make_account s z = account_row_of s.account z

abbrev account_told : AccountSlot → Option AccountRow
account_told s = option_map (make_account s) s.stored

abbrev make_teller : TellerSlot → ℤ → TellerRow
make_teller s z = teller_row_of s.teller z

abbrev teller_told : TellerSlot → Option TellerRow
teller_told s = option_map (make_teller s) s.stored

abbrev make_branch : BranchSlot → BranchRow → BranchRow
make_branch s b = record b { branch = s.branch }

abbrev branch_told : BranchSlot → Option BranchRow
branch_told s = option_map (make_branch s) s.stored

abbrev make_floor : FloorSlot → ℤ → FloorRow
make_floor s z = floor_row_of s.branch z

abbrev floor_told : FloorSlot → Option FloorRow
floor_told s = option_map (make_floor s) s.floor

-- the tables that have what the slots tell, with these closings, and nothing else; so many ordinals from the next on are
-- free
abbrev pub tables_told : ℕ → List ClosingRow → Overlay → Tables
tables_told free closings o = let slots = numbered (suc (o.decided + free)) o.kept in record {
  decided = o.decided;
  branches = rows_told branch_told o.branches;
  tellers = rows_told teller_told o.tellers;
  accounts = rows_told account_told o.accounts;
  history = [];
  requests = rows_told request_told slots;
  floors = rows_told floor_told o.floors;
  references = rows_told reference_told slots;
  closings = closings;
}

pub told_free : (free : ℕ) (closings : List ClosingRow) (o : Overlay)
    → HasFreeOrdinals (tables_told free closings o) free
told_free free closings o = record {
  requests = λ k is. above_told request_key request_told
      (λ p. if_made (make_request p.0 p.1) (λ r. request_key r ≡ p.0) (λ a. refl) p.1.kept)
      (suc (o.decided + free)) k o.kept (omega (arith, is.1));
  postings = λ k is. refl;
  references = λ k is. above_told reference_key reference_told
      (λ p. if_made (reference_row_of p.0) (λ r. reference_key r ≡ p.0) (λ a. refl)
      (referring_of p.1.kept))
      (suc (o.decided + free)) k o.kept (omega (arith, is.1));
}

-- ---- the overlay is filled from them

-- a slot tells what these closings say of its number
abbrev pub TellsBooks : List ClosingRow → RequestSlot → Type 0
TellsBooks closings s = s.books ≡ books_of closings s.teller s.number

-- the row that a slot of a branch is filled with is that branch's
abbrev pub IsOwn : BranchSlot → Type 0
IsOwn s = IfSome s.stored (λ b. b.branch ≡ s.branch)

own_row : (n : ℕ) (b : BranchRow) → b.branch ≡ n → ◌≡◌ {A = BranchRow} (record b { branch = n }) b
own_row n b own = rw (sym own) refl

branch_again : (s : BranchSlot) (o : Option BranchRow) → IfSome o (λ b. b.branch ≡ s.branch)
    → option_map (make_branch s) o ≡ o
branch_again s None own = refl
branch_again s (Some b) own = ap (λ (x : BranchRow). Some x) (own_row s.branch b own)

all_same : {S : Type 0} (f : S → S) (P Q : S → Type 0) → ((s : S) → P s → Q s → f s ≡ s) → (slots : List S)
    → AllByRecursion P slots → AllByRecursion Q slots → map f slots ≡ slots
all_same f P Q same [] all more = refl
all_same {S} f P Q same (s ∷ slots) all more =
    ap (λ (x : S). x ∷ map f slots) (same s all.0 more.0)
    ∙ ap (λ (xs : List S). s ∷ xs) (all_same f P Q same slots all.1 more.1)

every : {S : Type 0} (slots : List S) → AllByRecursion (λ _. Unit {0}) slots
every [] = tt
every (s ∷ slots) = (tt, every slots)

branch_is : (s : BranchSlot) (row : Option BranchRow) → row ≡ s.stored
    → ◌≡◌ {A = BranchSlot} (record s { stored = row }) s
branch_is s row same = rw same refl

floor_is : (s : FloorSlot) (floor : Option ℤ) → floor ≡ s.floor
    → ◌≡◌ {A = FloorSlot} (record s { floor = floor }) s
floor_is s floor same = rw same refl

teller_is : (s : TellerSlot) (balance : Option ℤ) → balance ≡ s.stored
    → ◌≡◌ {A = TellerSlot} (record s { stored = balance }) s
teller_is s balance same = rw same refl

account_is : (s : AccountSlot) (balance : Option ℤ) → balance ≡ s.stored
    → ◌≡◌ {A = AccountSlot} (record s { stored = balance }) s
account_is s balance same = rw same refl

request_is : (s : RequestSlot) (kept : Option KeptFields) (books : Books) → kept ≡ s.kept → s.books ≡ books
    → ◌≡◌ {A = RequestSlot} (record s { kept = kept; books = books }) s
request_is s kept books same its = rw (same, sym its) refl

overlay_is : (o : Overlay) (b : List BranchSlot) (f : List FloorSlot) (t : List TellerSlot)
    (a : List AccountSlot) (k : List RequestSlot) → b ≡ o.branches → f ≡ o.floors → t ≡ o.tellers
    → a ≡ o.accounts → k ≡ o.kept
    → ◌≡◌ {A = Overlay} (record o { branches = b; floors = f; tellers = t; accounts = a; kept = k }) o
overlay_is o b f t a k eb ef et ea ek = rw (eb, ef, et, ea, ek) refl

pub told_filled : (free : ℕ) (closings : List ClosingRow) (o : Overlay) → HasRisingSlots o
    → AllByRecursion IsOwn o.branches → AllByRecursion (TellsBooks closings) o.kept
    → filled (tables_told free closings o) o ≡ o
told_filled free closings o rises own books =
    let t = tables_told free closings o in
    let first = suc (o.decided + free) in
    overlay_is o _ _ _ _ _
    (all_same (branch_filled t) (λ s. row_at branch_key t.branches s.branch ≡ branch_told s) IsOwn
    (λ s is its. branch_is s _ (is ∙ branch_again s s.stored its)) o.branches
    (numbered_found branch_slot_key (λ s. s.stored) make_branch branch_key (λ s b. refl) o.branches
    rises.branches)
    own)
    (all_same (floor_filled t) (λ s. row_at floor_key t.floors s.branch ≡ floor_told s) (λ _. Unit {0})
    (λ s is its. floor_is s _
    (ap (option_map lowest_of) is ∙ told_again (make_floor s) lowest_of (λ z. refl) s.floor))
    o.floors
    (numbered_found floor_slot_key (λ s. s.floor) make_floor floor_key (λ s z. refl) o.floors rises.floors)
    (every o.floors))
    (all_same (teller_filled t) (λ s. row_at teller_key t.tellers s.teller ≡ teller_told s) (λ _. Unit {0})
    (λ s is its. teller_is s _
    (ap (option_map balance_of_teller) is ∙ told_again (make_teller s) balance_of_teller (λ z. refl) s.stored))
    o.tellers
    (numbered_found teller_slot_key (λ s. s.stored) make_teller teller_key (λ s z. refl) o.tellers
    rises.tellers)
    (every o.tellers))
    (all_same (account_filled t) (λ s. row_at account_key t.accounts s.account ≡ account_told s)
    (λ _. Unit {0})
    (λ s is its. account_is s _
    (ap (option_map balance_of_account) is
    ∙ told_again (make_account s) balance_of_account (λ z. refl) s.stored))
    o.accounts
    (numbered_found account_slot_key (λ s. s.stored) make_account account_key (λ s z. refl) o.accounts
    rises.accounts)
    (every o.accounts))
    (all_same (request_filled t) (λ s. kept_in t.requests t.references s.teller s.number ≡ s.kept)
    (TellsBooks closings) (λ s is its. request_is s _ _ is its) o.kept
    (kept_found first o.kept t.requests t.references (requests_found first o.kept rises.kept)
    (references_found first o.kept))
    books)
