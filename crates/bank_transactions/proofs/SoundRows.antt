-- The rows of undamaged tables are sound: what is looked up is found as it is.
use Rattle.std.proofs.Common.{◌≡◌, ◌⊎◌, ℕ, ℤ, pos, ◌≤◌, ◌≤ℤ◌, ◌∙◌, ap, Bool, true, leb, List, Option}
use Rattle.std.proofs.Common.{Some, None, Result, Ok, refl, sym, subst, arith, inl, inr, map, find}
use Rattle.std.specs.Prelude.{nat_eq, nat_lt, IsSome, ◌&&◌}
use Rattle.std.specs.{List.Contains, Option.option_map}
use Rattle.std.proofs.lemmas.{Bool.eqb-true, Bool.Decides.nat_tests, Iterator.Adapters.option_map_id}
use Rattle.message_records.specs.{believed.Ranges.whole_within, declared.limits.TheConstants.MAX_BRANCH}
use Rattle.posting_rules.specs.declared.rows.{BranchRow.BranchRow, RequestRow.RequestRow, TellerRow.TellerRow}
use Rattle.posting_rules.specs.declared.rows.{AccountRow.AccountRow, FloorRow.FloorRow, ReferenceRow.ReferenceRow}
use Rattle.posting_rules.specs.{believed.Damage.IsUndamaged, believed.Damage.IsSoundBranch, believed.Damage.IsSoundTeller, believed.Damage.IsSoundAccount}
use Rattle.posting_rules.specs.{believed.Damage.IsSoundFloor, believed.Numbering.branch_of_account, declared.fault.Rule.Rule}
use Rattle.posting_rules.specs.believed.LookUps.{account_balance_in, balance_of_account, balance_of_teller, floor_in}
use Rattle.posting_rules.specs.believed.Tables.{Tables, row_at, branch_key, teller_key, account_key, floor_key}
use Rattle.posting_rules.specs.believed.Tables.{reference_key, request_key}
use Rattle.posting_rules.proofs.Keyed.{by_test, found_passes}
use Rattle.sql_meanings.specs.{believed.Entries.Entry, believed.Entries.has_two, Entries.is_above}
use Rattle.sqlite_rules.proofs.ListLemmas.{contains_had, has_found}
use Rattle.store_rows.specs.{Columns.branch_above, Columns.request_in, Holders.balance_in, Holders.entry_under}
use Rattle.store_rows.specs.{Rules.stored_rows, believed.Rules.row_under, believed.Stored.FindsStored}
use Rattle.store_rows.specs.believed.Readings.{read_balance, read_branch, read_floor, read_reference, read_request}
use Rattle.store_rows.specs.believed.View.{account_entry, branch_entry, floor_entry, reference_entry, request_entry}
use Rattle.store_rows.specs.believed.View.{teller_entry}
use Rattle.store_rows.specs.declared.holders.Member.{Member, TheVariants.Account, TheVariants.Teller}
use Rattle.store_rows.proofs.{GetRequest.has_both, RowLists.found_by, RowLists.found_row, RowLists.is_row_above}
use Rattle.store_rows.proofs.Readings.{balance_back, branch_back, floor_back, reference_back, request_back}

-- there is a value or there is none
pub by_option : {X : Type 0} (o : Option X) → (o ≡ None) ⊎ ((x : X) × (o ≡ Some x))
by_option None = inl refl
by_option (Some x) = inr (x, refl)

-- ---- rows that are found

-- what a test finds is one of the rows
pub found_within : {X : Type 0} (test : X → Bool) (xs : List X) (x : X) → find test xs ≡ Some x
    → Contains xs x
found_within test xs x e = contains_had xs x (has_found test xs x e).0

key_of_found : {R : Type 0} (key : R → ℕ) (rows : List R) (n : ℕ) (r : R) → row_at key rows n ≡ Some r → key r
    ≡ n
key_of_found key rows n r e = eqb-true (key r) n (found_passes (λ x. nat_eq (key x) n) rows r e)

not_outside : (least most n : ℕ) → least ≤ n → n ≤ most → whole_within least most n ≡ None → ⊥
not_outside least most n low high e =
    let test : (leb least n && leb n most) ≡ true = grind (arith, nat_tests) in let within = rw test at e in cc

pub within_or_none : (n : ℕ) → (whole_within 1 MAX_BRANCH n ≡ Some n) ⊎ (whole_within 1 MAX_BRANCH n ≡ None)
within_or_none n =
    elim (by_test (leb 1 n && leb n MAX_BRANCH)) [ inl t ↦ inl (rw t refl) | inr f ↦ inr (rw f refl) ]

-- a number of branches is the one that it was made of
pub same_number : (n b : ℕ) → whole_within 1 MAX_BRANCH n ≡ Some b → b ≡ n
same_number n b made = elim (within_or_none n) [
  | inl is ↦ cc
  | inr none ↦ absurd (let no = sym none ∙ made in cc)
]

-- no row has a number outside those of branches
none_beyond : {R : Type 0} (key : R → ℕ) (rows : List R) (n : ℕ)
    → ((r : R) → row_at key rows n ≡ Some r → (1 ≤ key r) × (key r ≤ MAX_BRANCH))
    → whole_within 1 MAX_BRANCH n ≡ None → None ≡ row_at key rows n
none_beyond key rows n within e =
    elim (by_option (row_at key rows n)) [
      | inl none ↦ sym none
      | inr some ↦ absurd (let same = key_of_found key rows n some.0 some.1 in
          let it = within some.0 some.1 in
          not_outside 1 MAX_BRANCH n (rw (← same) it.0) (rw (← same) it.1) e)
    ]

-- ---- what a look-up of sound rows reads

-- a row that reads as a value is reported as that value
found_so : {R X : Type 0} (entry : R → Entry) (value : R → X) (read : Entry → Result X Rule) (o : Option R)
    → ((r : R) → o ≡ Some r → read (entry r) ≡ Ok (value r)) → (stored : Option Entry)
    → stored ≡ option_map entry o → (found : Option X) → FindsStored stored read (Ok found)
    → found ≡ option_map value o
found_so entry value read None back stored is None finds = refl
found_so entry value read None back stored is (Some x) finds = absurd (let no = finds.1 in cc)
found_so entry value read (Some r) back stored is None finds = absurd cc
found_so entry value read (Some r) back stored is (Some x) finds =
    let same : entry r ≡ finds.0 = (let there = finds.1 in cc) in
    let reads : read (entry r) ≡ Ok x = ap read same ∙ finds.2 in
    let its = back r refl in
    cc

-- ---- branches

pub branch_is : (t : Tables) (n : ℕ) (r : BranchRow) → IsUndamaged t → row_at branch_key t.branches n ≡ Some r
    → (r.branch ≡ n) × IsSoundBranch r
branch_is t n r sound e = (
  key_of_found branch_key t.branches n r e,
  sound.each_branch r
      (found_within (λ x. nat_eq x.branch n) t.branches r e),
)

-- no branch has a number outside those of branches
pub no_branch_beyond : (t : Tables) (n : ℕ) → IsUndamaged t → whole_within 1 MAX_BRANCH n ≡ None → None
    ≡ row_at branch_key t.branches n
no_branch_beyond t n sound = none_beyond branch_key t.branches n (λ r is.
    let it = (branch_is t n r sound is).1 in (it.some, omega arith))

-- the branch that is looked up
pub branch_found : (t : Tables) (n : ℕ) → IsUndamaged t → (found : Option BranchRow)
    → FindsStored (row_under (map branch_entry t.branches) n) read_branch (Ok found)
    → found ≡ row_at branch_key t.branches n
branch_found t n sound found finds =
    found_so branch_entry (λ r. r) read_branch (row_at branch_key t.branches n)
    (λ r is. branch_back r (branch_is t n r sound is).1) _ (found_row branch_key branch_entry (λ _. refl) n t.branches)
    found finds
    ∙ option_map_id (row_at branch_key t.branches n)

-- and the one above a number
pub next_found : (t : Tables) (n : ℕ) → IsUndamaged t → (found : Option BranchRow)
    → FindsStored (find (is_above (pos n)) (map branch_entry t.branches)) read_branch (Ok found)
    → found ≡ branch_above t n
next_found t n sound found finds =
    found_so branch_entry (λ r. r) read_branch (branch_above t n)
    (λ r is. branch_back r (sound.each_branch r (found_within (λ x. nat_lt n x.branch) t.branches r is))) _
    (found_by branch_key branch_entry (λ _. refl) (is_above (pos n)) (λ r. nat_lt n r.branch)
    (is_row_above branch_key branch_entry (λ _. refl) n) t.branches) found finds
    ∙ option_map_id (branch_above t n)

-- ---- floors

pub floor_is : (t : Tables) (n : ℕ) (r : FloorRow) → IsUndamaged t → row_at floor_key t.floors n ≡ Some r
    → (r.branch ≡ n) × IsSoundFloor r
floor_is t n r sound e = (
  key_of_found floor_key t.floors n r e,
  sound.each_floor r (found_within (λ x. nat_eq x.branch n) t.floors r e),
)

-- no floor is of a branch with a number outside those of branches
pub no_floor_beyond : (t : Tables) (n : ℕ) → IsUndamaged t → whole_within 1 MAX_BRANCH n ≡ None → None
    ≡ row_at floor_key t.floors n
no_floor_beyond t n sound = none_beyond floor_key t.floors n (λ r is.
    let it = (floor_is t n r sound is).1 in (it.some, omega arith))

-- the floor that is looked up
pub floor_found : (t : Tables) (n : ℕ) → IsUndamaged t → (found : Option FloorRow)
    → FindsStored (row_under (map floor_entry t.floors) n) read_floor (Ok found)
    → found ≡ row_at floor_key t.floors n
floor_found t n sound found finds =
    found_so floor_entry (λ r. r) read_floor (row_at floor_key t.floors n)
    (λ r is. floor_back r (floor_is t n r sound is).1) _ (found_row floor_key floor_entry (λ _. refl) n t.floors)
    found finds
    ∙ option_map_id (row_at floor_key t.floors n)

-- no account is below its floor
pub not_below : (t : Tables) (n : ℕ) (balance lowest : ℤ) → IsUndamaged t
    → Some balance ≡ account_balance_in t n → Some lowest ≡ floor_in t (branch_of_account n)
    → lowest ≤ℤ balance
not_below t n balance lowest sound has floor =
    elim (by_option (row_at account_key t.accounts n)) [
      | inl none ↦ absurd (let h = rw none at has in cc)
      | inr some ↦
          let r = some.0 in
          let same = key_of_found account_key t.accounts n r some.1 in
          let is : balance ≡ r.balance = (let h = rw some.1 at has in cc) in
          let above = sound.above r (found_within (λ x. nat_eq x.account n) t.accounts r some.1) in
          let there : floor_in t (branch_of_account r.account) ≡ Some lowest =
          ap (λ k. floor_in t (branch_of_account k)) same ∙ sym floor in
          rw is (rw there at above)
    ]

-- ---- balances

teller_sound : (t : Tables) (n : ℕ) (r : TellerRow) → IsUndamaged t → row_at teller_key t.tellers n ≡ Some r
    → IsSoundTeller r
teller_sound t n r sound e = sound.each_teller r (found_within (λ x. nat_eq x.teller n) t.tellers r e)

-- a teller that has its row has a number, which is 1 at least
pub teller_some : (t : Tables) (n : ℕ) → IsUndamaged t → IsSome (row_at teller_key t.tellers n) → 1 ≤ n
teller_some t n sound there = elim (by_option (row_at teller_key t.tellers n)) [
  | inl none ↦ absurd (let no = rw none at there in cc)
  | inr some ↦ subst (λ k. 1 ≤ k) (key_of_found teller_key t.tellers n some.0 some.1)
      (teller_sound t n some.0 sound some.1).some
]

account_sound : (t : Tables) (n : ℕ) (r : AccountRow) → IsUndamaged t → row_at account_key t.accounts n
    ≡ Some r → IsSoundAccount r
account_sound t n r sound e = sound.each_account r (found_within (λ x. nat_eq x.account n) t.accounts r e)

-- the balance of an account or a teller that is looked up
pub member_found : (m : Member) (t : Tables) → IsUndamaged t → (found : Option ℤ)
    → FindsStored (entry_under m (stored_rows t)) read_balance (Ok found) → found ≡ balance_in m t
member_found (Account n) t sound found finds =
    found_so account_entry balance_of_account read_balance (row_at account_key t.accounts n)
    (λ r is. balance_back (pos r.account) r.balance (account_sound t n r sound is).balance) _
    (found_row account_key account_entry (λ _. refl) n t.accounts) found finds
member_found (Teller n) t sound found finds =
    found_so teller_entry balance_of_teller read_balance (row_at teller_key t.tellers n)
    (λ r is. balance_back (pos r.teller) r.balance (teller_sound t n r sound is).balance) _
    (found_row teller_key teller_entry (λ _. refl) n t.tellers) found finds

-- ---- kept requests

-- the request that is looked up
pub request_found : (t : Tables) (a b : ℕ) → IsUndamaged t → (found : Option RequestRow)
    → FindsStored (find (has_two (pos a) (pos b)) (map request_entry t.requests)) read_request (Ok found)
    → found ≡ request_in t a b
request_found t a b sound found finds =
    found_so request_entry (λ r. r) read_request (request_in t a b)
    (λ r is. request_back r (sound.each_request r (found_within _ t.requests r is))) _
    (found_by request_key request_entry (λ _. refl) (has_two (pos a) (pos b)) _ (has_both a b) t.requests) found finds
    ∙ option_map_id (request_in t a b)

-- and its reference
pub reference_found : (t : Tables) (n : ℕ) → IsUndamaged t → (found : Option ReferenceRow)
    → FindsStored (row_under (map reference_entry t.references) n) read_reference (Ok found)
    → found ≡ row_at reference_key t.references n
reference_found t n sound found finds =
    found_so reference_entry (λ r. r) read_reference (row_at reference_key t.references n)
    (λ r is. reference_back r (sound.each_reference r (found_within (λ x. nat_eq x.ordinal n) t.references r is))) _
    (found_row reference_key reference_entry (λ _. refl) n t.references) found finds
    ∙ option_map_id (row_at reference_key t.references n)
