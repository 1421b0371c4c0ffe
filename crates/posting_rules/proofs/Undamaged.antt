-- The tables of a log of commands are undamaged.
use Rattle.std.proofs.Common.{◌≡◌, ℕ, ◌+◌, ◌*◌, ◌<◌, ◌≤◌, true, cond, eqb, leb, List, [], ◌∷◌, length, Option, Some}
use Rattle.std.proofs.Common.{None, sym, ap, subst, ◌∙◌, arith, inl, inr}
use Rattle.std.specs.Prelude.{ℤ, ◌≤ℤ◌, nat_abs, is_some, ◌&&◌, IfSome, option_and_then}
use Rattle.std.specs.{List.Contains, Option.option_map}
use Rattle.std.proofs.lemmas.Bool.{and_parts, eqb-true, leb-true}
use Rattle.std.proofs.lemmas.List.Elements.{All-contains, All-from_recursion}
use Rattle.posting_rules.specs.declared.limits.TheConstants.{MAX_DECIDED, LAST_BRANCH, ACCOUNTS_PER_BRANCH}
use Rattle.posting_rules.specs.declared.limits.TheConstants.{TELLERS_PER_BRANCH}
use Rattle.message_records.specs.{declared.limits.TheConstants.MAX_BALANCE, Records.IsRequest}
use Rattle.message_records.specs.believed.Records.{RequestFields}
use Rattle.message_records.specs.Records.{IsReference}
use Rattle.posting_rules.specs.{declared.rows.BranchRow.BranchRow, believed.LookUps.floor_in}
use Rattle.posting_rules.specs.declared.rows.{TellerRow.TellerRow, AccountRow.AccountRow, HistoryRow.HistoryRow}
use Rattle.posting_rules.specs.declared.rows.{RequestRow.RequestRow, FloorRow.FloorRow, ReferenceRow.ReferenceRow}
use Rattle.posting_rules.specs.believed.Commands.{Command, Open, IsCommand, AreCommands, opened, is_within}
use Rattle.posting_rules.specs.believed.Commands.{is_teller_open, is_account_open, Terms, IsFloor}
use Rattle.posting_rules.specs.believed.Numbering.{branch_of_teller, branch_of_account, place_of_account}
use Rattle.posting_rules.specs.believed.Entries.{DecidedRequest, is_posted, account_balance, teller_balance}
use Rattle.posting_rules.specs.believed.Entries.{branch_balance, decided}
use Rattle.posting_rules.specs.believed.Tables.{Tables, AreTablesOf, HasKeys, row_at, branch_key, teller_key}
use Rattle.posting_rules.specs.believed.Tables.{account_key, history_key, request_key, branch_row_of, teller_row_of}
use Rattle.posting_rules.specs.believed.Tables.{account_row_of, history_row, history_row_of, request_row}
use Rattle.posting_rules.specs.believed.Tables.{request_row_of, floor_key, floor_row_of, reference_key, reference_row}
use Rattle.posting_rules.specs.believed.Tables.{closing_key, reference_row_of}
use Rattle.posting_rules.specs.believed.Damage.{IsSoundBranch, IsSoundTeller, IsSoundAccount, IsSoundRequest, IsSoundPosting}
use Rattle.posting_rules.specs.believed.Damage.{IsSoundFloor, IsSoundReference, FieldsAreInRange, IsUndamaged}
use Rattle.posting_rules.proofs.{Keyed.by_test, Verdicts.when, Ready.ready_shown, Looked.floor_shown}
use Rattle.posting_rules.proofs.{AboveFloors.stays_above, Totals.each_under_its_key, BalanceLimits.stays_within}
use Rattle.posting_rules.proofs.{NamedOpen.some_within, SoundClosings.closing_sound}
use Rattle.posting_rules.proofs.SoundEntries.{IsSoundEntry, AreSound, few_enough, open_within, are_sound}

-- a row of a table is the row under its key
pub row_at-contained : {R : Type 0} (key : R → ℕ) (rows : List R) (r : R) → HasKeys key rows → Contains rows r
    → row_at key rows (key r) ≡ Some r
row_at-contained {R} key rows r keys has =
    All-contains (λ (x : R). row_at key rows (key x) ≡ Some x) rows r
    (All-from_recursion (λ (x : R). row_at key rows (key x) ≡ Some x) rows
    (each_under_its_key key rows keys)) has

-- ---- branches, tellers and accounts

-- the row of an open branch
branch_sound : (o : Option Terms) (b : ℕ) (z : ℤ) (r : BranchRow)
    → IfSome o (λ n. IsCommand (Open b n)) → nat_abs z ≤ MAX_BALANCE
    → option_map (branch_row_of b z) o ≡ Some r → IsSoundBranch r
branch_sound None b z r h limit e = absurd cc
branch_sound (Some n) b z r h limit e =
    let is : branch_row_of b z n ≡ r = cc in
    subst IsSoundBranch is (record { some = h.0; most = h.1; few = h.2; many = h.3; balance = limit })

-- a branch that is open has one of the numbers of branches
number_within : (o : Option Terms) (b : ℕ) → IfSome o (λ n. IsCommand (Open b n)) → is_some o ≡ true
    → b ≤ LAST_BRANCH
number_within (Some n) b h e = h.1
number_within None b h e = absurd cc

-- the last teller, and the last account, of the last branch
last_teller : (n : ℕ) → branch_of_teller n ≤ LAST_BRANCH → n ≤ TELLERS_PER_BRANCH * LAST_BRANCH
last_teller n h = omega arith

last_account : (n : ℕ) → branch_of_account n ≤ LAST_BRANCH → n ≤ ACCOUNTS_PER_BRANCH * LAST_BRANCH
last_account n h = omega arith

-- the row of an open teller
teller_sound : (opened : ℕ → Option Terms) (n : ℕ) (z : ℤ) (r : TellerRow)
    → ((b : ℕ) → IfSome (opened b) (λ k. IsCommand (Open b k))) → nat_abs z ≤ MAX_BALANCE
    → cond (is_teller_open opened n) (Some (teller_row_of n z)) None ≡ Some r → IsSoundTeller r
teller_sound opened n z r open_ limit e =
    let is = when (is_teller_open opened n) (teller_row_of n z) r e in
    let two = and_parts (leb 1 n) (is_some (opened (branch_of_teller n))) is.0 in
    let home = number_within (opened (branch_of_teller n)) (branch_of_teller n)
    (open_ (branch_of_teller n)) two.1 in
    subst IsSoundTeller is.1 (record {
      some = leb-true _ _ two.0;
      most = last_teller n home;
      balance = limit;
    })

-- the row of an open account
account_sound : (opened : ℕ → Option Terms) (n : ℕ) (z : ℤ) (r : AccountRow)
    → ((b : ℕ) → IfSome (opened b) (λ k. IsCommand (Open b k))) → nat_abs z ≤ MAX_BALANCE
    → cond (is_account_open opened n) (Some (account_row_of n z)) None ≡ Some r → IsSoundAccount r
account_sound opened n z r open_ limit e =
    let is = when (is_account_open opened n) (account_row_of n z) r e in
    let two = and_parts (leb 1 n) (is_within (place_of_account n) (opened (branch_of_account n))) is.0 in
    let some = some_within (place_of_account n) (opened (branch_of_account n)) two.1 in
    let home = number_within (opened (branch_of_account n)) (branch_of_account n)
    (open_ (branch_of_account n)) some in
    subst IsSoundAccount is.1 (record {
      some = leb-true _ _ two.0;
      most = last_account n home;
      balance = limit;
    })

-- the account of an open account's row isn't below the floor of its branch
account_above : (t : Tables) (log : List Command) (r : AccountRow) → AreCommands log → AreTablesOf t log
    → row_at account_key t.accounts r.account ≡ Some r
    → IfSome (floor_in t (branch_of_account r.account)) (λ floor. floor ≤ℤ r.balance)
account_above t log r are shows e =
    let n = r.account in
    let open_ = λ (b : ℕ). opened log b in
    let z = account_balance (decided log) n in
    let is = when (is_account_open open_ n) (account_row_of n z) r (sym (shows.rows.accounts n) ∙ e) in
    let floor = floor_shown t open_ (decided log) (branch_of_account n) shows.rows in
    let balance : z ≡ r.balance = ap (λ (x : AccountRow). x.balance) is.1 in
    subst (λ (x : ℤ). IfSome (floor_in t (branch_of_account n)) (λ floor. floor ≤ℤ x)) balance
    (subst (λ (o : Option ℤ). IfSome o (λ floor. floor ≤ℤ z)) (sym floor) (stays_above log are n))

-- the row of a floor
floor_sound : (o : Option Terms) (b : ℕ) (r : FloorRow) → IfSome o (λ n. IsCommand (Open b n))
    → option_map (floor_row_of b) (option_and_then (λ n. n.floor) o) ≡ Some r → IsSoundFloor r
floor_sound None b r h e = absurd cc
floor_sound (Some n) b r h e = by_floor n.floor h.4 e
  where
    by_floor : (floor : Option ℤ) → IfSome floor IsFloor → option_map (floor_row_of b) floor ≡ Some r
        → IsSoundFloor r
    by_floor None its same = absurd cc
    by_floor (Some z) its same =
        let is : floor_row_of b z ≡ r = cc in
        subst IsSoundFloor is (record { some = h.0; most = h.1; lowest = its })

-- ---- requests, history and references

-- a request's account, teller, branch and amount are in their ranges
in_range : (r : RequestFields) → IsRequest r → FieldsAreInRange r.account r.teller r.branch r.delta
in_range r is = record {
  account_above = is.account_above;
  account = is.account;
  teller_above = is.teller_above;
  teller = is.teller;
  branch_above = is.branch_above;
  branch = is.branch;
  delta = is.delta;
}

-- the rows of a decided request, under an ordinal that a bank may decide
request_row_sound : (o : ℕ) (e : DecidedRequest) → IsSoundEntry e → 1 ≤ o → o ≤ MAX_DECIDED
    → IsSoundRequest (request_row_of o e)
request_row_sound o e h least most = record {
  ordinal_above = least;
  ordinal = most;
  fields = in_range e.request h.request;
  number_above = h.request.number_above;
  number = h.request.number;
  decision = h.kept;
  balance = h.balance;
}

posting_row_sound : (o : ℕ) (e : DecidedRequest) → IsSoundEntry e → 1 ≤ o → o ≤ MAX_DECIDED
    → IsSoundPosting (history_row_of o e)
posting_row_sound o e h least most =
    record { ordinal_above = least; ordinal = most; fields = in_range e.request h.request; moment = h.moment }

-- the ordinal of a decided request, by how many were decided before it
ordinal_within : (n o : ℕ) → eqb (n + 1) o ≡ true → n < MAX_DECIDED → (1 ≤ o) × (o ≤ MAX_DECIDED)
ordinal_within n o t room = let is : n + 1 ≡ o = eqb-true _ _ t in (omega arith, omega arith)

-- the row of one of the decided requests
request_sound : (es : List DecidedRequest) (o : ℕ) (r : RequestRow) → AreSound es → request_row es o ≡ Some r
    → IsSoundRequest r
request_sound [] o r all h = absurd cc
request_sound (e ∷ es) o r all h =
    elim (by_test (eqb (length es + 1) o)) [
      | inl t ↦
          let is : request_row_of o e ≡ r = (let g = rw t at h in cc) in
          let range = ordinal_within (length es) o t all.1 in
          subst IsSoundRequest is (request_row_sound o e all.0 range.0 range.1)
      | inr f ↦ request_sound es o r all.2 (let g = rw f at h in g)
    ]

-- the row of one of the postings
posting_sound : (es : List DecidedRequest) (o : ℕ) (r : HistoryRow) → AreSound es → history_row es o ≡ Some r
    → IsSoundPosting r
posting_sound [] o r all h = absurd cc
posting_sound (e ∷ es) o r all h =
    elim (by_test (is_posted e && eqb (length es + 1) o)) [
      | inl t ↦
          let is : history_row_of o e ≡ r = (let g = rw t at h in cc) in
          let range = ordinal_within (length es) o (and_parts (is_posted e) (eqb (length es + 1) o) t).1 all.1 in
          subst IsSoundPosting is (posting_row_sound o e all.0 range.0 range.1)
      | inr f ↦ posting_sound es o r all.2 (let g = rw f at h in g)
    ]

-- a reference that a request came with
reference_row_sound : (o : ℕ) (reference : Option (List ℕ)) (r : ReferenceRow) → IfSome reference IsReference
    → 1 ≤ o → o ≤ MAX_DECIDED → option_map (reference_row_of o) reference ≡ Some r → IsSoundReference r
reference_row_sound o None r h least most same = absurd cc
reference_row_sound o (Some text) r h least most same =
    let is : reference_row_of o text ≡ r = cc in
    subst IsSoundReference is (record { ordinal_above = least; ordinal = most; reference = h })

-- the row of one of the references
reference_sound : (es : List DecidedRequest) (o : ℕ) (r : ReferenceRow) → AreSound es
    → reference_row es o ≡ Some r
    → IsSoundReference r
reference_sound [] o r all h = absurd cc
reference_sound (e ∷ es) o r all h =
    elim (by_test (eqb (length es + 1) o)) [
      | inl t ↦
          let range = ordinal_within (length es) o t all.1 in
          reference_row_sound o e.request.reference r all.0.request.reference range.0 range.1
          (let g = rw t at h in g)
      | inr f ↦ reference_sound es o r all.2 (let g = rw f at h in g)
    ]

-- ---- the law

-- the tables of a log of commands are undamaged
pub undamaged : (t : Tables) (log : List Command) → AreCommands log → AreTablesOf t log → IsUndamaged t
undamaged t log are shows =
    let s = shows.rows in
    let es = decided log in
    let open_ = λ (b : ℕ). opened log b in
    let all = are_sound log are in
    let within = stays_within log in
    let ready = ready_shown t log shows in
    record {
      decided = subst (λ n. n ≤ MAX_DECIDED) (sym s.decided) (few_enough es all);
      tellers = ready.its_tellers;
      accounts = ready.its_accounts;
      floors = ready.its_floors;
      above = λ r has.
          account_above t log r are shows (row_at-contained account_key t.accounts r s.account_keys has);
      each_branch = λ r has.
          branch_sound (open_ r.branch) r.branch (branch_balance es r.branch) r (open_within log are r.branch)
          (within.branches r.branch)
          (sym (s.branches r.branch) ∙ row_at-contained branch_key t.branches r s.branch_keys has);
      each_teller = λ r has.
          teller_sound open_ r.teller (teller_balance es r.teller) r (open_within log are)
          (within.tellers r.teller)
          (sym (s.tellers r.teller) ∙ row_at-contained teller_key t.tellers r s.teller_keys has);
      each_account = λ r has.
          account_sound open_ r.account (account_balance es r.account) r (open_within log are)
          (within.accounts r.account)
          (sym (s.accounts r.account) ∙ row_at-contained account_key t.accounts r s.account_keys has);
      each_floor = λ r has.
          floor_sound (open_ r.branch) r.branch r (open_within log are r.branch)
          (sym (s.floors r.branch) ∙ row_at-contained floor_key t.floors r s.floor_keys has);
      each_request = λ r has.
          request_sound es r.ordinal r all
          (sym (s.requests r.ordinal) ∙ row_at-contained request_key t.requests r s.request_keys has);
      each_posting = λ r has.
          posting_sound es r.ordinal r all
          (sym (s.history r.ordinal) ∙ row_at-contained history_key t.history r s.history_keys has);
      each_reference = λ r has.
          reference_sound es r.ordinal r all
          (sym (s.references r.ordinal) ∙ row_at-contained reference_key t.references r s.reference_keys has);
      each_closing = λ r has.
          closing_sound log are r
          (sym (s.closings r.last) ∙ row_at-contained closing_key t.closings r s.closing_keys has);
      next_request = ready.next_request;
      next_posting = ready.next_posting;
      next_reference = ready.next_reference;
    }
