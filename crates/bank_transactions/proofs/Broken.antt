-- What is told to be damaged, and that the rows that the file holds break that rule.
use Rattle.std.proofs.Common.{◌≡◌, ◌≢◌, ◌≤◌, ◌<◌, ◌≤ℤ◌, ℕ, ℤ, pos, Bool, true, find, Option, Some, Result, Ok, Err}
use Rattle.std.proofs.Common.{refl, sym, ap, subst, ◌∙◌, arith}
use Rattle.std.specs.{Ordering.int_cmp, Ordering.is_gt}
use Rattle.std.proofs.lemmas.Int.{ints}
use Rattle.sqlite.specs.{Effect.Database, State.State}
use Rattle.message_records.specs.declared.limits.TheConstants.{MAX_ACCOUNT}
use Rattle.posting_rules.specs.{believed.Numbering.branch_of_account, declared.fault.Rule.Rule}
use Rattle.posting_rules.specs.declared.fault.Rule.TheVariants.{Meta, Balance, Value, Key}
use Rattle.posting_rules.specs.declared.{limits.TheConstants.MAX_DECIDED, rows.BranchRow.BranchRow}
use Rattle.sql_meanings.specs.believed.Entries.{Entry, has_key, has_two}
use Rattle.sql_meanings.specs.Entries.{is_above}
use Rattle.sql_meanings.proofs.Changes.{found_all, found_passes}
use Rattle.store_rows.specs.{Calls.OfMeta, Holders.entry_under, View.HoldsRows, declared.fault.TableFault.TableFault}
use Rattle.store_rows.specs.{declared.holders.Member.Member, declared.metas.StoredMeta.StoredMeta}
use Rattle.store_rows.specs.believed.Columns.{meta_in, number_at}
use Rattle.store_rows.specs.TableAnswers.{FindsMeta}
use Rattle.store_rows.specs.believed.Readings.{read_closing, read_account, read_balance, read_branch, read_floor, read_reference}
use Rattle.store_rows.specs.believed.Readings.{read_request, read_teller}
use Rattle.store_rows.specs.believed.Rules.{EachKeeps, HoldsBank, IsBroken, OfRows, StoredRows, HasDecided, row_under}
use Rattle.store_rows.specs.believed.BankTables as bank
use Rattle.store_rows.specs.believed.{Stored.FindsStored}
use Rattle.store_rows.specs.declared.fault.TableFault.TheVariants.{Sqlite, Damaged}
use Rattle.store_rows.specs.declared.holders.Member.TheVariants as member
use Rattle.bank_transactions.specs.believed.Stored.{IsStoredFloor}
use Rattle.store_rows.proofs.{StoredRows.holds_list}
use Rattle.store_rows.proofs.Readings.{balance_is, branch_is, floor_is}

-- damage is of the rows of this database
abbrev pub IsOf : Database → TableFault → Type 0
IsOf db (Sqlite e) = Unit {0}
IsOf db (Damaged rule) = IsBroken rule db

-- ---- a row that reads as breaking a rule

-- so the rows don't keep the rule
broken_by : (rule : Rule) (db : Database) → OfRows (λ rows. ¬ EachKeeps rule rows) db → IsBroken rule db
broken_by Key db of = of
broken_by rule db of = λ rows has keeps. of rows has keeps.0

pub find_broken : {X : Type 0} (db : Database) (stored : StoredRows → Option Entry) (read : Entry → Result X Rule)
    → ((rule : Rule) (rows : StoredRows) → EachKeeps rule rows → (r : Entry) → stored rows ≡ Some r
    → read r ≢ Err rule) → (fault : TableFault)
    → OfRows (λ rows. FindsStored (stored rows) read (Err fault)) db → IsOf db fault
find_broken db stored read keeps (Sqlite e) finds = tt
find_broken db stored read keeps (Damaged rule) finds =
    broken_by rule db (λ rows has all. let it = finds rows has in keeps rule rows all it.0 it.1 it.2)

-- the branch that passes a test
pub branch_broken : (db : Database) (p : Entry → Bool) (fault : TableFault)
    → OfRows (λ rows. FindsStored (find p rows.branches) read_branch (Err fault)) db → IsOf db fault
branch_broken db p = find_broken db (λ rows. find p rows.branches) read_branch
    (λ rule rows keeps r. found_all (λ e. read_branch e ≢ Err rule) p rows.branches r keeps.branches)

-- a balance that can't be read: no more can its row
pub member_broken : (db : Database) (m : Member) (fault : TableFault)
    → OfRows (λ rows. FindsStored (entry_under m rows) read_balance (Err fault)) db → IsOf db fault
member_broken db m = find_broken db (entry_under m) read_balance (keeps m)
  where
    keeps : (m : Member) (rule : Rule) (rows : StoredRows) → EachKeeps rule rows → (r : Entry)
        → entry_under m rows ≡ Some r → read_balance r ≢ Err rule
    keeps (member.Account n) rule rows all r found is =
        found_all (λ e. read_account e ≢ Err rule) (has_key (pos n)) rows.accounts r all.accounts found (rw is refl)
    keeps (member.Teller n) rule rows all r found is =
        found_all (λ e. read_teller e ≢ Err rule) (has_key (pos n)) rows.tellers r all.tellers found (rw is refl)

pub floor_broken : (db : Database) (n : ℕ) (fault : TableFault)
    → OfRows (λ rows. FindsStored (row_under rows.floors n) read_floor (Err fault)) db → IsOf db fault
floor_broken db n = find_broken db (λ rows. row_under rows.floors n) read_floor
    (λ rule rows keeps r. found_all (λ e. read_floor e ≢ Err rule) (has_key (pos n)) rows.floors r keeps.floors)

pub request_broken : (db : Database) (a b : ℕ) (fault : TableFault)
    → OfRows (λ rows. FindsStored (find (has_two (pos a) (pos b)) rows.requests) read_request (Err fault)) db
    → IsOf db fault
request_broken db a b =
    find_broken db (λ rows. find (has_two (pos a) (pos b)) rows.requests) read_request
    (λ rule rows keeps r. found_all (λ e. read_request e ≢ Err rule) (has_two (pos a) (pos b)) rows.requests r
    keeps.requests)

-- the closed numbers that pass a test
pub closing_broken : (db : Database) (p : Entry → Bool) (fault : TableFault)
    → OfRows (λ rows. FindsStored (find p rows.closings) read_closing (Err fault)) db → IsOf db fault
closing_broken db p = find_broken db (λ rows. find p rows.closings) read_closing
    (λ rule rows keeps r. found_all (λ e. read_closing e ≢ Err rule) p rows.closings r keeps.closings)

pub reference_broken : (db : Database) (n : ℕ) (fault : TableFault)
    → OfRows (λ rows. FindsStored (row_under rows.references n) read_reference (Err fault)) db → IsOf db fault
reference_broken db n =
    find_broken db (λ rows. row_under rows.references n) read_reference
    (λ rule rows keeps r. found_all (λ e. read_reference e ≢ Err rule) (has_key (pos n)) rows.references r
    keeps.references)

-- ---- rows that don't belong together

-- an account below the floor of its branch
pub below_broken : (db : Database) (n : ℕ) (balance lowest : ℤ) → 1 ≤ n → n ≤ MAX_ACCOUNT
    → OfRows (λ rows. FindsStored (row_under rows.accounts n) read_balance (Ok (Some balance))) db
    → IsStoredFloor db (branch_of_account n) (Some lowest) → (lowest ≤ℤ balance → ⊥) → IsBroken Balance db
below_broken db n balance lowest some most finds floor below = λ rows has keeps.
    let account = finds rows has in
    let its = floor rows has in
    let above = keeps.1 n some most account.0 its.0 account.1 its.2 in
    below (subst (λ z. lowest ≤ℤ z) (balance_is account.0 balance account.2) (subst (λ z. z ≤ℤ number_at 0 account.0) (floor_is its.0 its.1 its.3 ∙ sym its.4) above))

number_above : (a b : ℕ) → is_gt (int_cmp (pos b) (pos a)) ≡ true → a < b
number_above a b h = grind (arith, ints)

-- the branch above a number is above it
pub above_broken : (db : Database) (n : ℕ) (b : BranchRow)
    → OfRows (λ rows. FindsStored (find (is_above (pos n)) rows.branches) read_branch (Ok (Some b))) db
    → (n < b.branch → ⊥) → IsBroken Value db
above_broken db n b finds beyond = λ rows has keeps.
    let it = finds rows has in
    let above : is_above (pos n) it.0 ≡ true = found_passes (is_above (pos n)) rows.branches it.0 it.1 in
    beyond (number_above n b.branch
    (subst (λ z. is_gt (int_cmp z (pos n)) ≡ true) (branch_is it.0 b it.2).0 above))

-- ---- the row of the bank

meta_rows : (db : Database) (rows : StoredRows) → HoldsBank db rows → HoldsRows db bank.meta rows.meta
meta_rows db rows has =
    record { sound = has.sound; holds = holds_list db rows has 0 bank.meta rows.meta refl refl }

-- a row of whole numbers is never told to be damaged
pub never_broken : (old new : State) (fault : TableFault)
    → OfMeta (λ before now rows. FindsMeta before now (meta_in rows) (Err fault)) old new
    → IsOf old.now fault
never_broken old new (Sqlite e) answers = tt
never_broken old new (Damaged rule) answers =
    broken_by rule old.now (λ rows has. absurd (answers rows.meta (meta_rows old.now rows has)))

decided_is : (rows : StoredRows) (decided : ℕ) → HasDecided rows decided → (m : Option StoredMeta) → m
    ≡ meta_in rows.meta
    → (version : ℤ) × (m ≡ Some (record { version = version; decided = pos decided }))
decided_is rows decided has m is = (has.0, is ∙ ap meta_in has.1)

-- no row under the bank's id, or a count out of its range
pub meta_broken : (old new : State) (m : Option StoredMeta)
    → OfMeta (λ before now rows. FindsMeta before now (meta_in rows) (Ok m)) old new
    → ((decided : ℕ) (version : ℤ) → m ≡ Some (record { version = version; decided = pos decided })
    → decided ≤ MAX_DECIDED → ⊥)
    → IsBroken Meta old.now
meta_broken old new m answers none = λ rows has keeps.
    let it = answers rows.meta (meta_rows old.now rows has) in
    let is = decided_is rows keeps.1.0 keeps.1.1 m it.0 in
    none keeps.1.0 is.0 is.1 keeps.1.2
