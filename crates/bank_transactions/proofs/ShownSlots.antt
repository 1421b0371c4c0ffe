-- Slots that have what the rows hold have what the tables show that a file shows, damaged or not: a row that is read
-- at all is read as it is.
use Rattle.std.proofs.Common.{◌≡◌, ◌∙◌, ℕ, ℤ, pos, Bool, true, false, cond, List, [], ◌∷◌, map, find, Option, Some, None}
use Rattle.std.proofs.Common.{Result, Ok, Err, refl, sym, ap, subst, inl, inr, arith, ◌≤◌}
use Rattle.std.proofs.lemmas.Bool.Decides.{nat_tests}
use Rattle.std.specs.Prelude.{◌&&◌, nat_le, option_and_then}
use Rattle.std.proofs.lemmas.Iterator.Adapters.{option_map_id}
use Rattle.sqlite.specs.{Effect.Database, Order.Row, Order.column, declared.types.Value.TheVariants.Int}
use Rattle.std.specs.{List.AllByRecursion, Option.ok_or, Option.option_map}
use Rattle.message_records.specs.believed.{Ranges.cents_within, Ranges.whole_within, Reading.◌>>=◌}
use Rattle.message_records.specs.believed.{Outcomes.code_of, Records.is_reference}
use Rattle.message_records.specs.declared.limits.TheConstants.{MAX_ACCOUNT, MAX_BALANCE, MAX_BRANCH, MAX_DELTA}
use Rattle.message_records.specs.declared.limits.TheConstants.{MAX_NUMBER, MAX_TELLER}
use Rattle.message_records.specs.declared.records.Outcome.{Outcome}
use Rattle.message_records.proofs.SpelledReplies.{outcome_with-code}
use Rattle.posting_rules.specs.believed.Kept.{DecisionFields, KeptFields, is_kept_with, kept_with}
use Rattle.posting_rules.specs.believed.Commands.{Terms}
use Rattle.posting_rules.specs.believed.LookUps.{balance_of_account, balance_of_teller, floor_in}
use Rattle.posting_rules.specs.believed.LookUps.{count_of_branch, terms_in, terms_of_branch}
use Rattle.posting_rules.specs.believed.LookUps.{kept_of_row, lowest_of, reference_in, text_of_reference}
use Rattle.posting_rules.specs.believed.Tables.{Tables, row_at, account_key, branch_key, floor_key, reference_key}
use Rattle.posting_rules.specs.believed.Tables.{request_key, teller_key}
use Rattle.posting_rules.specs.declared.fault.Rule.{Rule}
use Rattle.posting_rules.specs.declared.fault.Rule.TheVariants.{Reference, Request, Value as OfValue}
use Rattle.posting_rules.specs.declared.limits.TheConstants.{MAX_DECIDED}
use Rattle.posting_rules.specs.declared.rows.{AccountRow.AccountRow, BranchRow.BranchRow, FloorRow.FloorRow}
use Rattle.posting_rules.specs.declared.rows.{ReferenceRow.ReferenceRow, RequestRow.RequestRow, TellerRow.TellerRow}
use Rattle.posting_batch.specs.declared.slots.{AccountSlot.AccountSlot, BranchSlot.BranchSlot, FloorSlot.FloorSlot}
use Rattle.posting_batch.specs.declared.slots.{RequestSlot.RequestSlot, TellerSlot.TellerSlot}
use Rattle.posting_batch.specs.Batch.{account_filled, branch_filled, filled, floor_filled, request_filled, teller_filled}
use Rattle.posting_batch.specs.Overlay.{Overlay}
use Rattle.sql_meanings.specs.believed.Entries.{Entry, has_two}
use Rattle.store_rows.specs.{Columns.request_in, Rules.stored_rows}
use Rattle.store_rows.specs.believed.Readings.{cents, decision_of, outcome_of, reference, request_of, whole}
use Rattle.store_rows.specs.believed.Readings.{read_balance, read_branch, read_floor, read_reference, read_request}
use Rattle.store_rows.specs.believed.SeveralRows.{given}
use Rattle.store_rows.specs.believed.Rules.{OfRows, branch_under, floor_under, row_under}
use Rattle.store_rows.specs.believed.{Stored.FindsStored, View.Shows}
use Rattle.store_rows.specs.believed.View.{account_entry, branch_entry, floor_entry, meta_entry, reference_entry}
use Rattle.store_rows.specs.believed.View.{request_entry, teller_entry}
use Rattle.store_rows.specs.believed.Columns.{meta_in}
use Rattle.store_rows.specs.declared.{metas.StoredMeta.StoredMeta, metas.TheConstants.VERSION}
use Rattle.store_rows.proofs.{GetRequest.has_both, RowLists.found_by, RowLists.found_row, StoredRows.holds_shown}
use Rattle.store_rows.proofs.Readings.{balance_is, branch_is, floor_is}
use Rattle.bank_transactions.specs.believed.Batches.{HasRoomFor}
use Rattle.bank_transactions.specs.believed.Stored.{HoldsDecided, HoldsKept, HoldsPart, HoldsReference}
use Rattle.bank_transactions.specs.believed.Stored.{HoldsTerms}
use Rattle.bank_transactions.specs.Filling.{AccountHeld, AreHeld, BranchHeld, FloorHeld, RequestHeld}
use Rattle.bank_transactions.specs.Filling.{TellerHeld, emptied}
use Rattle.bank_transactions.proofs.{HeldBatch.filled_over, SoundRows.within_or_none}
use Rattle.bank_transactions.specs.Filling.{Closes, TellsBooks}
use Rattle.bank_transactions.proofs.ToldBooks.{tells_shown}

-- ---- a row that is read at all is read as it is

-- what comes next was read too
then_ok : {A B : Type 0} (r : Result A Rule) (f : A → Result B Rule) (b : B) → r >>= f ≡ Ok b
    → (a : A) × (r ≡ Ok a) × (f a ≡ Ok b)
then_ok (Ok a) f b is = (a, refl, is)
then_ok (Err rule) f b is = absurd cc

-- one of two choices
kept_so : {A : Type 0} (test : Bool) (a b : A) (rule : Rule) → ok_or (cond test (Some a) None) rule ≡ Ok b → a ≡ b
kept_so true a b rule is = cc
kept_so false a b rule is = absurd cc

whole_same : (least most n m : ℕ) (rule : Rule) → ok_or (whole_within least most n) rule ≡ Ok m → n ≡ m
whole_same least most n m rule = kept_so (nat_le least n && nat_le n most) n m rule

cents_same : (limit : ℕ) (z y : ℤ) (rule : Rule) → ok_or (cents_within limit z) rule ≡ Ok y → z ≡ y
cents_same limit z y rule = kept_so _ z y rule

same_branch : (r x : BranchRow) → read_branch (branch_entry r) ≡ Ok x → x ≡ r
same_branch r x is =
    let parts = branch_is (branch_entry r) x is in
    let branch : r.branch ≡ x.branch = (let it = parts.0 in cc) in
    let accounts : r.accounts ≡ x.accounts = (let it = parts.1 in cc) in
    all x.branch x.accounts x.balance branch accounts parts.2
  where
    all : (b a : ℕ) (z : ℤ) → r.branch ≡ b → r.accounts ≡ a → r.balance ≡ z
        → ◌≡◌ {A = BranchRow} (record { branch = b; accounts = a; balance = z }) r
    all b a z one two three = rw (sym one, sym two, sym three) refl

same_account : (r : AccountRow) (z : ℤ) → read_balance (account_entry r) ≡ Ok z → z ≡ balance_of_account r
same_account r z is = sym (balance_is (account_entry r) z is)

same_teller : (r : TellerRow) (z : ℤ) → read_balance (teller_entry r) ≡ Ok z → z ≡ balance_of_teller r
same_teller r z is = sym (balance_is (teller_entry r) z is)

same_floor : (r x : FloorRow) → read_floor (floor_entry r) ≡ Ok x → lowest_of x ≡ lowest_of r
same_floor r x is = sym (floor_is (floor_entry r) x is)

-- a decision, part by part
chosen : (test : Bool) (a d : DecisionFields) → cond test (Ok a) (Err Request) ≡ Ok d → a ≡ d
chosen true a d is = cc
chosen false a d is = absurd cc

decision_parts : (row : Row) (d : DecisionFields) → decision_of row ≡ Ok d
    → (whole 1 MAX_ACCOUNT Request (column row 3) ≡ Ok d.account)
    × (whole 1 MAX_BRANCH Request (column row 4) ≡ Ok d.branch) × (cents MAX_DELTA Request (column row 5) ≡ Ok d.delta)
    × (outcome_of (column row 6) ≡ Ok d.outcome) × (cents MAX_BALANCE Request (column row 7) ≡ Ok d.balance)
decision_parts row d is =
    let one = then_ok (whole 1 MAX_ACCOUNT Request (column row 3)) _ d is in
    let two = then_ok (whole 1 MAX_BRANCH Request (column row 4)) _ d one.2 in
    let three = then_ok (cents MAX_DELTA Request (column row 5)) _ d two.2 in
    let four = then_ok (outcome_of (column row 6)) _ d three.2 in
    let five = then_ok (cents MAX_BALANCE Request (column row 7)) _ d four.2 in
    let its : DecisionFields = record {
      account = one.0;
      branch = two.0;
      delta = three.0;
      outcome = four.0;
      balance = five.0;
    } in
    subst (λ (e : DecisionFields). (whole 1 MAX_ACCOUNT Request (column row 3) ≡ Ok e.account)
    × (whole 1 MAX_BRANCH Request (column row 4) ≡ Ok e.branch) × (cents MAX_DELTA Request (column row 5) ≡ Ok e.delta)
    × (outcome_of (column row 6) ≡ Ok e.outcome) × (cents MAX_BALANCE Request (column row 7) ≡ Ok e.balance))
    (chosen (is_kept_with four.0 five.0) its d five.2) (one.1, two.1, three.1, four.1, five.1)

request_parts : (row : Row) (x : RequestRow) → request_of row ≡ Ok x
    → (whole 1 MAX_DECIDED OfValue (column row 0) ≡ Ok x.ordinal) × (decision_of row ≡ Ok x.decision)
request_parts row x is =
    let one = then_ok (whole 1 MAX_DECIDED OfValue (column row 0)) _ x is in
    let two = then_ok (whole 1 MAX_TELLER Request (column row 1)) _ x one.2 in
    let three = then_ok (whole 1 MAX_NUMBER Request (column row 2)) _ x two.2 in
    let four = then_ok (decision_of row) _ x three.2 in
    let its : RequestRow = record { ordinal = one.0; teller = two.0; number = three.0; decision = four.0 } in
    let same : its ≡ x = (let last = four.2 in cc) in
    subst (λ (y : RequestRow). (whole 1 MAX_DECIDED OfValue (column row 0) ≡ Ok y.ordinal)
    × (decision_of row ≡ Ok y.decision)) same (one.1, four.1)

same_outcome : (o e : Outcome) → outcome_of (Int (pos (code_of o))) ≡ Ok e → o ≡ e
same_outcome o e is = let read : ◌≡◌ {A = Result Outcome Rule} (Ok o) (Ok e) = rw (outcome_with-code o) at is in cc

same_decision : (r : RequestRow) (d : DecisionFields) → decision_of (given (request_entry r)) ≡ Ok d → d ≡ r.decision
same_decision r d is =
    let parts = decision_parts (given (request_entry r)) d is in
    all d.account d.branch d.delta d.outcome d.balance
    (whole_same 1 MAX_ACCOUNT r.decision.account d.account Request parts.0)
    (whole_same 1 MAX_BRANCH r.decision.branch d.branch Request parts.1)
    (cents_same MAX_DELTA r.decision.delta d.delta Request parts.2)
    (same_outcome r.decision.outcome d.outcome parts.3)
    (cents_same MAX_BALANCE r.decision.balance d.balance Request parts.4)
  where
    all : (a b : ℕ) (z : ℤ) (o : Outcome) (y : ℤ) → r.decision.account ≡ a → r.decision.branch ≡ b
        → r.decision.delta ≡ z → r.decision.outcome ≡ o → r.decision.balance ≡ y
        → ◌≡◌ {A = DecisionFields} (record { account = a; branch = b; delta = z; outcome = o; balance = y }) r.decision
    all a b z o y one two three four five = rw (sym one, sym two, sym three, sym four, sym five) refl

same_request : (r x : RequestRow) → read_request (request_entry r) ≡ Ok x
    → (x.ordinal ≡ r.ordinal) × (x.decision ≡ r.decision)
same_request r x is =
    let parts = request_parts (given (request_entry r)) x is in
    (sym (whole_same 1 MAX_DECIDED r.ordinal x.ordinal OfValue parts.0), same_decision r x.decision parts.1)

same_reference : (r x : ReferenceRow) → read_reference (reference_entry r) ≡ Ok x
    → text_of_reference x ≡ text_of_reference r
same_reference r x is =
    let one = then_ok (whole 1 MAX_DECIDED OfValue (column (given (reference_entry r)) 0)) _ x is in
    let two = then_ok (reference (column (given (reference_entry r)) 1)) _ x one.2 in
    let text : two.0 ≡ x.reference = (let last = two.2 in cc) in
    sym (kept_so (is_reference r.reference) r.reference two.0 Reference two.1 ∙ text)

-- ---- what was found is what is shown

-- a row
found_if : {R X : Type 0} (entry : R → Entry) (value : R → X) (read : Entry → Result X Rule)
    → ((r : R) (x : X) → read (entry r) ≡ Ok x → x ≡ value r) → (o : Option R) (stored : Option Entry)
    → stored ≡ option_map entry o → (found : Option X) → FindsStored stored read (Ok found)
    → found ≡ option_map value o
found_if entry value read back None stored is None finds = refl
found_if entry value read back None stored is (Some x) finds = absurd (let no = finds.1 in cc)
found_if entry value read back (Some r) stored is None finds = absurd cc
found_if entry value read back (Some r) stored is (Some x) finds =
    let same : entry r ≡ finds.0 = (let there = finds.1 in cc) in
    ap Some (back r x (ap read same ∙ finds.2))

-- a part of one
part_if : {R X Y : Type 0} (entry : R → Entry) (value : R → Y) (read : Entry → Result X Rule) (part : X → Y)
    → ((r : R) (x : X) → read (entry r) ≡ Ok x → part x ≡ value r) → (o : Option R) (stored : Option Entry)
    → stored ≡ option_map entry o → (found : Option Y) → HoldsPart stored read part found
    → found ≡ option_map value o
part_if entry value read part back None stored is None holds = refl
part_if entry value read part back None stored is (Some y) holds = absurd (let no = holds.2 in cc)
part_if entry value read part back (Some r) stored is None holds = absurd cc
part_if entry value read part back (Some r) stored is (Some y) holds =
    let same : entry r ≡ holds.0 = (let there = holds.2 in cc) in
    ap Some (holds.4 ∙ back r holds.1 (ap read same ∙ holds.3))

-- slots that have what the tables have are those that are filled from them
all_same : {S : Type 0} (P : S → Type 0) (fill : S → S) → ((s : S) → P s → s ≡ fill s) → (slots : List S)
    → AllByRecursion P slots → slots ≡ map fill slots
all_same P fill same [] all = refl
all_same P fill same (s ∷ slots) all =
    ap (λ x. x ∷ slots) (same s all.0) ∙ ap (λ xs. fill s ∷ xs) (all_same P fill same slots all.1)

both_all : {S : Type 0} (P Q : S → Type 0) (slots : List S) → AllByRecursion P slots → AllByRecursion Q slots
    → AllByRecursion (λ s. P s × Q s) slots
both_all P Q [] one other = tt
both_all P Q (s ∷ slots) one other = ((one.0, other.0), both_all P Q slots one.1 other.1)

-- the count in the one row of these tables
count_is : (m : StoredMeta) (n : ℕ) → Some m ≡ meta_in (meta_entry VERSION n ∷ []) → m.decided ≡ pos n
count_is m n is = cc

pos_same : (n m : ℕ) → ◌≡◌ {A = ℤ} (pos n) (pos m) → n ≡ m
pos_same n m is = cc

module _ (t : Tables) where
  account_same : (s : AccountSlot) → AccountHeld (stored_rows t) s → s ≡ account_filled t s
  account_same s held =
      let is = found_if account_entry balance_of_account read_balance same_account
      (row_at account_key t.accounts s.account) _
      (found_row account_key account_entry (λ _. refl) s.account t.accounts) s.stored held.found in
      rw (sym is) refl

  teller_same : (s : TellerSlot) → TellerHeld (stored_rows t) s → s ≡ teller_filled t s
  teller_same s held =
      let is = found_if teller_entry balance_of_teller read_balance same_teller
      (row_at teller_key t.tellers s.teller) _
      (found_row teller_key teller_entry (λ _. refl) s.teller t.tellers) s.stored held.found in
      rw (sym is) refl

  reference_same : (ordinal : ℕ) (text : Option (List ℕ)) → HoldsReference (stored_rows t) ordinal text
      → text ≡ reference_in t.references ordinal
  reference_same ordinal text =
      part_if reference_entry text_of_reference read_reference text_of_reference same_reference
      (row_at reference_key t.references ordinal) _
      (found_row reference_key reference_entry (λ _. refl) ordinal t.references) text

  -- what is kept of a request in the row that was found
  abbrev HoldsOne : Option Entry → Option KeptFields → Type 0
  HoldsOne stored None = stored ≡ None
  HoldsOne stored (Some kept) = (r : Entry) × (row : RequestRow) × (stored ≡ Some r) × (read_request r ≡ Ok row)
      × (kept.decision ≡ row.decision) × HoldsReference (stored_rows t) row.ordinal kept.reference

  as_one : (a b : ℕ) (kept : Option KeptFields) → HoldsKept (stored_rows t) a b kept
      → HoldsOne (find (has_two (pos a) (pos b)) (map request_entry t.requests)) kept
  as_one a b None holds = holds
  as_one a b (Some kept) holds = holds

  both_same : (k : KeptFields) (d : DecisionFields) (x : Option (List ℕ)) → k.decision ≡ d → k.reference ≡ x
      → k ≡ kept_with x d
  both_same k d x one two = rw (sym one, sym two) refl

  kept_is : (o : Option RequestRow) (stored : Option Entry) → stored ≡ option_map request_entry o
      → (kept : Option KeptFields) → HoldsOne stored kept → kept ≡ option_map (kept_of_row t.references) o
  kept_is None stored is None holds = refl
  kept_is None stored is (Some kept) holds = absurd (let no = holds.2 in cc)
  kept_is (Some r) stored is None holds = absurd cc
  kept_is (Some r) stored is (Some kept) holds =
      let same : request_entry r ≡ holds.0 = (let there = holds.2 in cc) in
      let its = same_request r holds.1 (ap read_request same ∙ holds.3) in
      ap Some (both_same kept r.decision (reference_in t.references r.ordinal) (holds.4 ∙ its.1)
      (reference_same holds.1.ordinal kept.reference holds.5 ∙ ap (reference_in t.references) its.0))

  -- what is kept of its request, and what closed books say
  abbrev Told : RequestSlot → Type 0
  Told s = RequestHeld (stored_rows t) s × TellsBooks t.closings s

  request_same : (s : RequestSlot) → Told s → s ≡ request_filled t s
  request_same s (held, tells) =
      let is = kept_is (request_in t s.teller s.number) _
      (found_by request_key request_entry (λ _. refl) (has_two (pos s.teller) (pos s.number)) _
      (has_both s.teller s.number) t.requests) s.kept (as_one s.teller s.number s.kept held) in
      rw (sym is, sym tells) refl

  decided_same : (n : ℕ) → HoldsDecided (stored_rows t) n → n ≡ t.decided
  decided_same n holds = pos_same n t.decided
      (count_is (record { version = holds.0; decided = pos n }) t.decided (sym holds.1))

  module _ {count : ℕ} (room : HasRoomFor count t) where
    branch_there : (n : ℕ) → branch_under (stored_rows t) n ≡ option_map branch_entry (row_at branch_key t.branches n)
    branch_there n = elim (within_or_none n) [
      | inl is ↦ ap (option_and_then (row_under (stored_rows t).branches)) is
          ∙ found_row branch_key branch_entry (λ _. refl) n t.branches
      | inr none ↦ ap (option_and_then (row_under (stored_rows t).branches)) none
          ∙ sym (ap (option_map branch_entry) (room.branches n none))
    ]

    floor_there : (n : ℕ) → floor_under (stored_rows t) n ≡ option_map floor_entry (row_at floor_key t.floors n)
    floor_there n = elim (within_or_none n) [
      | inl is ↦ ap (option_and_then (row_under (stored_rows t).floors)) is
          ∙ found_row floor_key floor_entry (λ _. refl) n t.floors
      | inr none ↦ ap (option_and_then (row_under (stored_rows t).floors)) none
          ∙ sym (ap (option_map floor_entry) (room.floors n none))
    ]

    branch_same : (s : BranchSlot) → BranchHeld (stored_rows t) s → s ≡ branch_filled t s
    branch_same s held =
        let is = found_if branch_entry (λ r. r) read_branch same_branch (row_at branch_key t.branches s.branch) _
        (branch_there s.branch) s.stored held ∙ option_map_id (row_at branch_key t.branches s.branch) in
        rw (sym is) refl

    floor_same : (s : FloorSlot) → FloorHeld (stored_rows t) s → s ≡ floor_filled t s
    floor_same s held =
        let is = part_if floor_entry lowest_of read_floor lowest_of same_floor (row_at floor_key t.floors s.branch) _
        (floor_there s.branch) s.floor held in
        rw (sym is) refl

    -- so they are filled from those tables
    pub held_filled : (o : Overlay) → AreHeld (stored_rows t) o → AllByRecursion (TellsBooks t.closings) o.kept
        → o ≡ filled t o
    held_filled o held tells = rw (
      sym (all_same (BranchHeld (stored_rows t)) (branch_filled t) branch_same o.branches held.branches),
      sym (all_same (FloorHeld (stored_rows t)) (floor_filled t) floor_same o.floors held.floors),
      sym (all_same (TellerHeld (stored_rows t)) (teller_filled t) teller_same o.tellers held.tellers),
      sym (all_same (AccountHeld (stored_rows t)) (account_filled t) account_same o.accounts held.accounts),
      sym (all_same Told (request_filled t) request_same o.kept (both_all (RequestHeld (stored_rows t))
          (TellsBooks t.closings) o.kept held.kept tells)),
      sym (decided_same o.decided held.decided),
    ) refl

-- slots that were filled, of a file that shows these tables
pub shown_filled : (db : Database) (t : Tables) (count : ℕ) (p' p : Overlay) → Shows db t → HasRoomFor count t
    → emptied p' ≡ emptied p → OfRows (λ rows. AreHeld rows p') db → Closes db p'.kept → p' ≡ filled t p
shown_filled db t count p' p shows room same held closed =
    let stored = holds_shown db t shows in
    held_filled t room p' (held (stored_rows t) stored)
    (tells_shown closed.0 t.closings p'.kept (closed.2 (stored_rows t) stored) closed.1)
    ∙ filled_over t p' p same

-- what a branch was opened with, of a file that shows these tables
pub shown_terms : (db : Database) (t : Tables) (b : ℕ) → 1 ≤ b → b ≤ MAX_BRANCH → (terms : Option Terms) → Shows db t
    → OfRows (λ rows. HoldsTerms rows b terms) db → terms ≡ terms_in t b
shown_terms db t b low high terms shows held =
    of_terms terms (held (stored_rows t) (holds_shown db t shows))
  where
    within : whole_within 1 MAX_BRANCH b ≡ Some b
    within = let test : (nat_le 1 b && nat_le b MAX_BRANCH) ≡ true = grind (arith, nat_tests) in rw test refl

    branch_is_at : branch_under (stored_rows t) b ≡ option_map branch_entry (row_at branch_key t.branches b)
    branch_is_at = ap (option_and_then (row_under (stored_rows t).branches)) within
        ∙ found_row branch_key branch_entry (λ _. refl) b t.branches

    floor_is_at : floor_under (stored_rows t) b ≡ option_map floor_entry (row_at floor_key t.floors b)
    floor_is_at = ap (option_and_then (row_under (stored_rows t).floors)) within
        ∙ found_row floor_key floor_entry (λ _. refl) b t.floors

    count_same : (r x : BranchRow) → read_branch (branch_entry r) ≡ Ok x → x.accounts ≡ count_of_branch r
    count_same r x is = ap count_of_branch (same_branch r x is)

    no_row : (o : Option BranchRow) → None ≡ option_map branch_entry o → o ≡ None
    no_row None is = refl
    no_row (Some r) is = absurd cc

    with_count : (o : Option BranchRow) (terms : Terms) → Some terms.accounts ≡ option_map count_of_branch o
        → terms.floor ≡ floor_in t b → Some terms ≡ option_map (terms_of_branch (floor_in t b)) o
    with_count None terms count floor = absurd cc
    with_count (Some r) terms count floor =
        let same : terms.accounts ≡ count_of_branch r = cc in
        rw (sym same, sym floor) refl

    of_terms : (terms : Option Terms) → HoldsTerms (stored_rows t) b terms → terms ≡ terms_in t b
    of_terms None none = sym (ap (option_map (terms_of_branch (floor_in t b)))
        (no_row (row_at branch_key t.branches b) (sym none.0 ∙ branch_is_at)))
    of_terms (Some terms) holds = with_count (row_at branch_key t.branches b) terms
        (part_if branch_entry count_of_branch read_branch (λ r. r.accounts) count_same
        (row_at branch_key t.branches b) _ branch_is_at (Some terms.accounts) holds.0)
        (part_if floor_entry lowest_of read_floor lowest_of same_floor (row_at floor_key t.floors b) _
        floor_is_at terms.floor holds.1)
