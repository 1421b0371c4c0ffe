-- Reads that fail, and reads that find. Last of a teller and its branch.
use Rattle.std.proofs.Common.{◌≡◌, ◌≤◌, ℕ, ℤ, Bool, true, false, Option, Some, None, Result, Ok, Err, refl, sym, ap}
use Rattle.std.proofs.Common.{subst, ◌∙◌, inl, inr}
use Rattle.std.specs.Prelude.{is_some, option_map}
use Rattle.sqlite.specs.{Effect.Database, Held.Held, Held.state, declared.transaction.Transaction.Transaction}
use Rattle.sqlite.specs.State.{State, HasCleanDisk, KeepsCommit}
use Rattle.sqlite_trees.specs.declared.store.Store.{Ghosts}
use Rattle.message_records.specs.declared.limits.TheConstants.{MAX_TELLER}
use Rattle.posting_rules.specs.{believed.Damage.IsUndamaged, believed.Numbering.branch_of_teller}
use Rattle.posting_rules.specs.believed.LookUps.{balance_of_branch, both_of, teller_balances_in}
use Rattle.posting_rules.specs.believed.Tables.{Tables, row_at, branch_key}
use Rattle.posting_rules.specs.declared.{fault.Rule.Rule, rows.BranchRow.BranchRow}
use Rattle.posting_rules.specs.declared.fault.Rule.TheVariants as broken
use Rattle.sql_meanings.specs.{Calls.Says, StatementAnswers.WriteFails, believed.Entries.Entry}
use Rattle.sql_meanings.proofs.Saying.{clean_between}
use Rattle.store_rows.specs.{Calls.LooksUp, Calls.OfMeta, TableAnswers.FindsMeta, believed.Columns.meta_in}
use Rattle.store_rows.specs.{Failures.HasReason, Failures.Looks, Holders.balance_in, Holders.entry_under, Rules.stored_rows}
use Rattle.store_rows.specs.{TableAnswers.Finds, declared.fault.TableFault.TableFault, declared.holders.Member.Member}
use Rattle.store_rows.specs.declared.holders.Member.TheVariants.{Teller}
use Rattle.store_rows.specs.declared.fault.TableFault.TheVariants.{Sqlite, Damaged}
use Rattle.store_rows.specs.believed.{Readings.read_balance, Readings.read_branch, Stored.FindsStored}
use Rattle.store_rows.specs.believed.Rules.{HoldsBank, OfRows, StoredRows, branch_under, row_under}
use Rattle.store_rows.proofs.StoredRows.{holds_shown}
use Rattle.bank_transactions.specs.{Causes.IsFault, Causes.IsFirstBroken, Doing.Reads, Doing.ReadsWhere}
use Rattle.bank_transactions.proofs.{Blamed.failed_here, Broken.IsOf, Broken.member_broken, Broken.never_broken}
use Rattle.bank_transactions.specs.Memory.{Recalls, StaysOrFails}
use Rattle.bank_transactions.proofs.LookUps.{reads_broken, reads_pair, reads_so, stays}
use Rattle.bank_transactions.proofs.SoundRows.{member_found}

-- ---- a read that failed

not_committed : (old new : State) → WriteFails old new → KeepsCommit old new
not_committed old new (inl same) =
    record { was_open = λ h. same.0.was_open; committed = λ h. same.0.committed_is }
not_committed old new (inr undone) =
    record { was_open = undone.was_open; committed = λ h. (undone.undone h).1 }

-- what a fault says: damage is of the rows that were there
first_fault : {S : Type 0} (g : Ghosts S) (old new : Held S) (fault : TableFault)
    → IsOf (state g old).now fault
    → HasReason (state g old) (state g new) fault → IsFault (IsFirstBroken g) g old new fault
first_fault g old new (Sqlite e) of why = failed_here g old new e why
first_fault g old new (Damaged rule) of why = of

-- what the stored row reads as was reported
pub read_so : {X : Type 0} (old new : State) (stored : Option Entry) (read : Entry → Result X Rule)
    (r : Result (Option X) TableFault) → Finds old new stored read r → FindsStored stored read r
read_so old new stored read (Ok found) it = it.0
read_so old new stored read (Err (Sqlite e)) it = tt
read_so old new stored read (Err (Damaged rule)) it = it.0

-- what was looked up was recalled
stays_or_fails : {X : Type 0} (old new : State) (r : Result X TableFault) → Looks old new r → StaysOrFails old new r
stays_or_fails old new (Ok found) it = stays old new it
stays_or_fails old new (Err fault) it = it

pub recalls : {S X : Type 0} (g : Ghosts S) (old new : Transaction S) (stored : StoredRows → Option Entry)
    (read : Entry → Result X Rule) (r : Result (Option X) TableFault) → LooksUp g old new stored read r
    → Recalls g old new stored read r
recalls g old new stored read r looks = record {
  same_reference = looks.same_reference;
  answers = λ clean rows has. read_so (state g old.conn.now) (state g new.conn.now) (stored rows) read r
      (looks.answers clean rows has);
  leaves = λ clean. stays_or_fails (state g old.conn.now) (state g new.conn.now) r (looks.leaves clean);
  survives = looks.survives;
}

-- whatever was looked for
module _ {S Y : Type 0} {g : Ghosts S} {old new : Transaction S} {So : Tables → Type 0} {w : Tables → Y}
    {fault : TableFault} where
  -- a statement
  failed : {Answers : State → State → Type 0}
      → Says g old new Answers (λ before now. WriteFails before now × HasReason before now fault)
      → (HasCleanDisk (state g new.conn.now) → IsOf (state g old.conn.now).now fault)
      → ReadsWhere g old new So w (Err fault)
  failed says of = record {
    says = record {
      same_reference = says.same_reference;
      answers = λ clean t shows so. tt;
      leaves = λ clean. let it = says.leaves clean in (
        not_committed (state g old.conn.now) (state g new.conn.now) it.0,
        first_fault g old.conn.now new.conn.now fault (of clean) it.1,
      );
      survives = says.survives;
    };
  }

  -- a row couldn't be read: the rows that were there break the rule
  pub recall_failed : {X : Type 0} (stored : StoredRows → Option Entry) (read : Entry → Result X Rule)
      → (OfRows (λ rows. FindsStored (stored rows) read (Err fault)) (state g old.conn.now).now
      → IsOf (state g old.conn.now).now fault)
      → Recalls g old new stored read (Err fault) → ReadsWhere g old new So w (Err fault)
  recall_failed stored read of says = failed says (λ clean. of (says.answers clean))

  pub find_failed : {X : Type 0} (stored : StoredRows → Option Entry) (read : Entry → Result X Rule)
      → (OfRows (λ rows. FindsStored (stored rows) read (Err fault)) (state g old.conn.now).now
      → IsOf (state g old.conn.now).now fault)
      → LooksUp g old new stored read (Err fault) → ReadsWhere g old new So w (Err fault)
  find_failed stored read of says = recall_failed stored read of (recalls g old new stored read (Err fault) says)

  pub balance_failed : (m : Member) → LooksUp g old new (entry_under m) read_balance (Err fault)
      → ReadsWhere g old new So w (Err fault)
  balance_failed m = find_failed (entry_under m) read_balance (member_broken _ m fault)

  -- nor could the row of the bank
  pub meta_failed : Says g old new (OfMeta (λ before now rows. FindsMeta before now (meta_in rows) (Err fault)))
      (λ before now. WriteFails before now × HasReason before now fault)
      → ReadsWhere g old new So w (Err fault)
  meta_failed says = failed says (λ clean.
      never_broken (state g old.conn.now) (state g new.conn.now) fault (says.answers clean))

-- ---- a read that found

module _ {S X : Type 0} {g : Ghosts S} {old new : Transaction S} (stored : StoredRows → Option Entry)
    (read : Entry → Result X Rule) where
  -- what is looked for, and was read
  pub recall_tells : {Y : Type 0} {So : Tables → Type 0} {w : Tables → Y} (found : Option X) {answer : Y}
      → Recalls g old new stored read (Ok found)
      → ((t : Tables) → So t → FindsStored (stored (stored_rows t)) read (Ok found) → answer ≡ w t)
      → ReadsWhere g old new So w (Ok answer)
  recall_tells found says tells = record {
    says = record {
      same_reference = says.same_reference;
      answers = λ clean t shows so. tells t so
          (says.answers clean (stored_rows t) (holds_shown (state g old.conn.now).now t shows));
      leaves = λ clean. (says.leaves clean, tt);
      survives = says.survives;
    };
  }

  pub find_tells : {Y : Type 0} {So : Tables → Type 0} {w : Tables → Y} (found : Option X) {answer : Y}
      → LooksUp g old new stored read (Ok found)
      → ((t : Tables) → So t → FindsStored (stored (stored_rows t)) read (Ok found) → answer ≡ w t)
      → ReadsWhere g old new So w (Ok answer)
  find_tells found says = recall_tells found (recalls g old new stored read (Ok found) says)

  -- either
  pub reads_found : {w : Tables → Option X}
      → ((t : Tables) → IsUndamaged t → (found : Option X)
      → FindsStored (stored (stored_rows t)) read (Ok found) → found ≡ w t)
      → ((fault : TableFault) → OfRows (λ rows. FindsStored (stored rows) read (Err fault)) (state g old.conn.now).now
      → IsOf (state g old.conn.now).now fault)
      → (r : Result (Option X) TableFault) → LooksUp g old new stored read r → Reads g old new w r
  reads_found tells broken (Ok found) says = find_tells found says (λ t sound finds. tells t sound found finds)
  reads_found tells broken (Err fault) says = find_failed stored read (broken fault) says

-- ---- a teller and its branch

-- a value is reported where a row is stored
pub some_stored : {X : Type 0} (stored : Option Entry) (read : Entry → Result X Rule) (x : Option X)
    → FindsStored stored read (Ok x) → is_some stored ≡ is_some x
some_stored stored read None finds = ap is_some finds
some_stored stored read (Some x) finds = ap is_some finds.1

-- where each stands for the other
alike : (a b : Bool) → (a ≡ true → b ≡ true) → (b ≡ true → a ≡ true) → a ≡ b
alike true b there back = sym (there refl)
alike false true there back = back refl
alike false false there back = refl

-- a value and no value
pub one_alone : {X Y : Type 0} (x : Option X) (y : Option Y) (z : X) → x ≡ Some z → y ≡ None
    → is_some x ≡ is_some y → ⊥
one_alone x y z some none same = let h = rw (some, none) at same in cc

-- what was found of a teller, and then of the branch of its number
module _ {S : Type 0} {g : Ghosts S} {old mid new : Transaction S} (n number : ℕ) (x : Option ℤ)
    {row : Option BranchRow} (is : number ≡ branch_of_teller n)
    (first : LooksUp g old mid (entry_under (Teller n)) read_balance (Ok x))
    (second : Reads g mid new (λ t. row_at branch_key t.branches number) (Ok row)) where
  both_found : Reads {X = Option ℤ × Option BranchRow} g old new
      (λ t. (balance_in (Teller n) t, row_at branch_key t.branches number)) (Ok (x, row))
  both_found = reads_pair (find_tells (entry_under (Teller n)) read_balance x first
      (λ t sound finds. member_found (Teller n) t sound x finds)) second

  -- the balances of both, or none
  pub teller_told : Reads g old new (λ t. teller_balances_in t n)
      (Ok (both_of x (option_map balance_of_branch row)))
  teller_told = reads_so both_found (λ t sound. (
    sound,
    λ e. ap (λ (p : Option ℤ × Option BranchRow). both_of p.0 (option_map balance_of_branch p.1)) e
        ∙ ap (λ k. both_of (balance_in (Teller n) t)
        (option_map balance_of_branch (row_at branch_key t.branches k))) is,
  ))

  -- one alone is damage
  pub teller_alone : 1 ≤ n → n ≤ MAX_TELLER
      → (HasCleanDisk (state g new.conn.now) → OfRows (λ rows.
      FindsStored (branch_under rows number) read_branch (Ok row)) (state g mid.conn.now).now)
      → (is_some x ≡ is_some row → ⊥) → Reads g old new (λ t. teller_balances_in t n) (Err (Damaged broken.Teller))
  teller_alone above most stored alone = reads_broken broken.Teller both_found (λ clean rows has keeps.
      let was = clean_between g old mid new first second.says clean in
      let fits = keeps.1 n above most in
      let branch = stored clean rows
      (subst (λ (db : Database). HoldsBank db rows) (sym (first.leaves was).0.now_is) has) in
      alone (sym (some_stored (row_under rows.tellers n) read_balance x (first.answers was rows has).0)
      ∙ alike _ _ fits.0 fits.1 ∙ ap (λ k. is_some (branch_under rows k)) (sym is)
      ∙ some_stored (branch_under rows number) read_branch row branch))
