-- What is remembered from one part of a call to the next.
use Rattle.std.proofs.Common.{◌≡◌, ◌∷◌, ◌∙◌, ℕ, ℤ, pos, [], None, Some, Ok, Err, Result, refl, ap, sym, subst, arith}
use Rattle.std.proofs.Math.Logic.{∥∥₁_elim, ∥∥₁_map}
use Rattle.std.specs.Prelude.{IfSome, IsTrue, OnOk, Option, Bool, false, nat_abs, true}
use Rattle.std.specs.Coded.{coded_ℕ, coded_ℤ}
use Rattle.std.specs.List.{AllByRecursion}
use base.Stored.{Coded-set}
use Rattle.sqlite.specs.{Schema.Schema, State.IsUnchanged, State.State, State.Survives, Table.Table}
use Rattle.sql_meanings.specs.Calls.{Says}
use Rattle.sql_meanings.specs.{believed.Entries.Entry, Under.IsStored}
use Rattle.sql_meanings.proofs.Sparing.{spares_itself}
use Rattle.store_rows.specs.believed.BankTables as bank
use Rattle.store_rows.specs.believed.{BankTables.bank_tables, Columns.meta_in, Rules.HoldsBank, Rules.StoredRows}
use Rattle.store_rows.specs.believed.{Sparing.bank_names, Stored.FindsStored, View.Shows, View.meta_entry}
use Rattle.store_rows.specs.declared.metas.{StoredMeta.StoredMeta, TheConstants.VERSION}
use Rattle.store_rows.specs.{Rules.stored_rows, believed.Inserts.meta_key}
use Rattle.store_rows.proofs.{Counted.count_held, LyingFound.held_file, MetaRow.has_one, StoredRows.holds_shown}
use Rattle.bank_transactions.specs.believed.Stored.{HoldsDecided}
use Rattle.bank_transactions.proofs.Chained.{still_in}
use Rattle.bank_transactions.proofs.Fitting.{IsApart, fits_beside}
use Rattle.std.proofs.lemmas.{Option.IfSome_then, Result.on_ok_weaker}
use Rattle.store_rows.specs.believed.Failures.{Additions}
use Rattle.sqlite.specs.{Effect.Database, Held.Held, Held.state, State.HasCleanDisk}
use Rattle.sqlite.specs.declared.{error.Error.Error, transaction.Transaction.Transaction}
use Rattle.sqlite_trees.specs.declared.store.Store.{Ghosts}
use Rattle.posting_rules.specs.{believed.Tables.Tables, declared.fault.Rule.Rule}
use Rattle.store_rows.specs.Lying.{AfterWrite, CountLies, Counts, IsBankFile, LeavesOthers, PutsLying, SetsCount, SetsDecided}
use Rattle.store_rows.specs.Lying.{SetsLying}
use Rattle.store_rows.specs.declared.fault.TableFault.{TableFault}
use Rattle.bank_transactions.specs.{believed.Causes.Damage, Doing.DoesBy, Doing.Ends, Doing.Reads, Doing.ReadsWhere, Doing.expected}
use Rattle.bank_transactions.specs.Doing.{Stays}
use Rattle.bank_transactions.specs.Memory.{Fits, FitsBefore, Follows, IsBlank, IsFollowed, Keeps, Recalls, Remembers}
use Rattle.bank_transactions.specs.declared.memory.Memory.{Memory}
use Rattle.bank_transactions.specs.declared.first_try.Tried.{Tried, TheVariants.Answered, TheVariants.Again}
use Rattle.bank_transactions.specs.Tries.{IsAsBefore, batch_of, replies_of}

-- where nothing is remembered, it lies in any file
pub blank : {S : Type 0} (g : Ghosts S) (conn : Held S) (memory : Memory) → IsBlank memory → ∥ Remembers g conn memory ∥₁
blank g conn memory none = ∣ (λ clean file. none (state g conn).now) ∣₁

-- it lies there still where no more is remembered of rows
pub still_fits : {S : Type 0} (g : Ghosts S) (conn : Held S) (before after : Memory)
    → ((db : Database) → Fits db before → Fits db after) → ∥ Remembers g conn before ∥₁ → ∥ Remembers g conn after ∥₁
still_fits g conn before after fits it = ∥∥₁_map it (λ lies clean file. fits (state g conn).now (lies clean file))

-- it lies there still where nothing has changed
pub keeps : {S : Type 0} (g : Ghosts S) (old new : Held S) (memory : Memory)
    → (HasCleanDisk (state g new) → HasCleanDisk (state g old))
    → (HasCleanDisk (state g new) → (state g new).now ≡ (state g old).now)
    → ∥ Remembers g old memory ∥₁ → ∥ Remembers g new memory ∥₁
keeps g old new memory before same it = ∥∥₁_map it (λ fits clean file.
    subst (λ (db : Database). Fits db memory) (sym (same clean))
    (fits (before clean) (subst IsBankFile (same clean) file)))

-- as after a look-up
pub keeps_read : {S X : Type 0} {g : Ghosts S} {old new : Transaction S} {So : Tables → Type 0} {w : Tables → X} {x : X}
    (memory : Memory) → ReadsWhere g old new So w (Ok x) → ∥ Remembers g old.conn.now memory ∥₁
    → ∥ Remembers g new.conn.now memory ∥₁
keeps_read {g = g} {old = old} {new = new} memory reads =
    keeps g old.conn.now new.conn.now memory (λ clean. omega (arith, reads.says.survives.clean, clean))
    (λ clean. (reads.says.leaves clean).0.now)

pub keeps_reading : {S X : Type 0} {g : Ghosts S} {old new : Transaction S} {So : Tables → Type 0} {w : Tables → X}
    (memory : Memory) (result : Result X TableFault) → ReadsWhere g old new So w result
    → ∥ Remembers g old.conn.now memory ∥₁ → OnOk result (∥ Remembers g new.conn.now memory ∥₁)
keeps_reading memory (Ok x) reads it = keeps_read memory reads it
keeps_reading memory (Err fault) reads it = tt

-- what was read is noted
pub noted : {S X : Type 0} (g : Ghosts S) (old new : Held S) (before after : Memory) (x : X) (Lies : Database → X → Type 0)
    → (HasCleanDisk (state g new) → HasCleanDisk (state g old))
    → (HasCleanDisk (state g new) → (state g new).now ≡ (state g old).now)
    → (HasCleanDisk (state g new) → IsBankFile (state g old).now → Lies (state g old).now x)
    → ((db : Database) → IsBankFile db → Lies db x → Fits db before → Fits db after)
    → ∥ Remembers g old before ∥₁ → ∥ Remembers g new after ∥₁
noted g old new before after x Lies clean_before same lies note it = ∥∥₁_map it (λ fits clean file.
    let file' = subst IsBankFile (same clean) file in
    subst (λ (db : Database). Fits db after) (sym (same clean))
    (note (state g old).now file' (lies clean file') (fits (clean_before clean) file')))

-- as after a look-up of a row
pub noted_look : {S X : Type 0} {g : Ghosts S} {old new : Transaction S} {Answers : State → State → Type 0}
    (found : Option X) (before after : Memory) (Lies : Database → Option X → Type 0) → Says g old new Answers IsUnchanged
    → (HasCleanDisk (state g new.conn.now) → IsBankFile (state g old.conn.now).now → Lies (state g old.conn.now).now found)
    → ((db : Database) → IsBankFile db → Lies db found → Fits db before → Fits db after)
    → ∥ Remembers g old.conn.now before ∥₁ → ∥ Remembers g new.conn.now after ∥₁
noted_look {g = g} {old = old} {new = new} found before after Lies looks =
    noted g old.conn.now new.conn.now before after found Lies
    (λ clean. omega (arith, looks.survives.clean, clean)) (λ clean. (looks.leaves clean).0.now_is)

-- the count is written where the row was there
pub counts_expected : {S : Type 0} (g : Ghosts S) (old new : Transaction S) (n : ℕ) (answer : Result Bool Error) (rule : Rule)
    (result : Result (Unit {0}) TableFault) → result ≡ expected answer rule → SetsCount g old new n answer
    → OnOk result (Counts g old new n)
counts_expected g old new n answer rule (Err fault) is sets = tt
counts_expected g old new n (Ok true) rule (Ok done) is sets = sets
counts_expected g old new n (Ok false) rule (Ok done) is sets = absurd cc
counts_expected g old new n (Err e) rule (Ok done) is sets = absurd cc

-- so it is where other parts went before
pub counts_after : {S X : Type 0} {g : Ghosts S} {old mid new : Transaction S} {So So' : Tables → Type 0}
    {after after' : Tables → Tables} {w : Tables → X} {x : X} {result : Result (Unit {0}) TableFault}
    {w' : Tables → Unit {0}} {Bad Met Bad' Met' : Damage S} {Adds Adds' : Additions}
    (n : ℕ) → DoesBy Bad Met Adds g old mid So after w (Ok x) → DoesBy Bad' Met' Adds' g mid new So' after' w' result
    → OnOk result (Counts g mid new n) → OnOk result (Counts g old new n)
counts_after {g = g} {old = old} {mid = mid} {result = result} n first second counts =
    on_ok_weaker result (λ it clean live file.
    let before : HasCleanDisk (state g mid.conn.now) = omega (arith, second.says.survives.clean, clean) in
    it clean (still_in (state g old.conn.now) (state g mid.conn.now) (first.says.leaves before live).0 live) file) counts

-- ---- what is written is remembered as it was written

-- a row was changed where it was there
pub lies_expected : {S : Type 0} (g : Ghosts S) (old new : Transaction S) (table : Table) (key : ℕ)
    (Set : Database → Database → Type 0) (answer : Result Bool Error) (rule : Rule) (result : Result (Unit {0}) TableFault)
    → result ≡ expected answer rule → SetsLying g old new table key Set answer
    → OnOk result (AfterWrite g old new (λ was now. LeavesOthers table key was now × Set was now))
lies_expected g old new table key Set answer rule (Err fault) is sets = tt
lies_expected g old new table key Set (Ok true) rule (Ok done) is sets = sets
lies_expected g old new table key Set (Ok false) rule (Ok done) is sets = absurd cc
lies_expected g old new table key Set (Err e) rule (Ok done) is sets = absurd cc

-- the count too
pub count_lies : {S : Type 0} (g : Ghosts S) (old new : Transaction S) (n : ℕ) (result : Result (Unit {0}) TableFault)
    → OnOk result (Counts g old new n)
    → OnOk result (AfterWrite g old new (λ was now. LeavesOthers bank.meta meta_key was now × SetsDecided n was now))
    → OnOk result (AfterWrite g old new (λ was now. LeavesOthers bank.meta meta_key was now × CountLies now n))
count_lies g old new n (Err fault) counts lies = tt
count_lies g old new n (Ok done) counts lies = λ clean live file.
    let it = lies clean live file in
    (it.0, counts clean live it.0.beside.file)

-- nothing was written
pub followed_none : {S : Type 0} (g : Ghosts S) (tx : Transaction S) (memory : Memory) → IsFollowed g tx tx memory memory
followed_none g tx memory = λ clean live file. (file, λ fits. fits)

-- a row was changed, and so was what is remembered
pub followed_change : {S : Type 0} (g : Ghosts S) (old new : Transaction S) (table : Table) (key : ℕ)
    (Set : Database → Database → Type 0) (before after : Memory)
    → AfterWrite g old new (λ was now. LeavesOthers table key was now × Set was now)
    → ((was now : Database) → LeavesOthers table key was now → Set was now → Fits was before → Fits now after)
    → IsFollowed g old new before after
followed_change g old new table key Set before after lies change = λ clean live file.
    let it = lies clean live file in
    (it.0.beside.file, change (state g old.conn.now).now (state g new.conn.now).now it.0 it.1)

-- rows were put into another table
pub followed_put : {S X : Type 0} (g : Ghosts S) (old new : Transaction S) (table : Table) → IsApart table
    → (result : Result X TableFault) → PutsLying g old new table result → (memory : Memory)
    → Follows g old new memory memory result
followed_put g old new table apart result lies memory = on_ok_weaker result (λ it clean live file.
    let left = it clean live file in
    (left.file, λ fits. fits_beside table (state g old.conn.now).now (state g new.conn.now).now left memory fits apart)) lies

-- one part, and then another
pub followed_next : {S X : Type 0} {g : Ghosts S} {old mid : Transaction S} (new : Transaction S) {So : Tables → Type 0}
    {after : Tables → Tables} {w : Tables → X} {x : X} {Bad Met : Damage S} {Adds : Additions} (first second third : Memory)
    → DoesBy Bad Met Adds g old mid So after w (Ok x)
    → (HasCleanDisk (state g new.conn.now) → HasCleanDisk (state g mid.conn.now))
    → IsFollowed g old mid first second → IsFollowed g mid new second third → IsFollowed g old new first third
followed_next {g = g} {old = old} {mid = mid} new first second third does before one two = λ clean live file.
    let then = one (before clean) live file in
    let last = two clean (still_in (state g old.conn.now) (state g mid.conn.now) (does.says.leaves (before clean) live).0 live)
    then.0 in
    (last.0, λ fits. last.1 (then.1 fits))

pub followed_then : {S X Y : Type 0} {g : Ghosts S} {old mid : Transaction S} (new : Transaction S) {So : Tables → Type 0}
    {after : Tables → Tables} {w : Tables → X} {x : X} {Bad Met : Damage S} {Adds : Additions} (first second third : Memory)
    → DoesBy Bad Met Adds g old mid So after w (Ok x)
    → (HasCleanDisk (state g new.conn.now) → HasCleanDisk (state g mid.conn.now))
    → IsFollowed g old mid first second → (result : Result Y TableFault) → Follows g mid new second third result
    → Follows g old new first third result
followed_then new first second third does before one result two =
    on_ok_weaker result (followed_next new first second third does before one) two

-- what is remembered after a look-up and a write
pub keeps_followed : {S X Y : Type 0} {g : Ghosts S} {old mid new : Transaction S} {So So' : Tables → Type 0}
    {after : Tables → Tables} {w : Tables → X} {w' : Tables → Y} {x : X} {y : Y} {Bad Met : Damage S} {Adds : Additions}
    (before changed : Memory) → ReadsWhere g old mid So w (Ok x) → DoesBy Bad Met Adds g mid new So' after w' (Ok y)
    → IsFollowed g mid new before changed → ∥ Remembers g mid.conn.now before ∥₁ → ∥ Keeps g old new changed ∥₁
keeps_followed {g = g} {old = old} {mid = mid} {new = new} before changed reads does followed it =
    ∥∥₁_map it (λ fits live clean file.
    let first : HasCleanDisk (state g mid.conn.now) = omega (arith, does.says.survives.clean, clean) in
    let on = still_in (state g old.conn.now) (state g mid.conn.now) (reads.says.leaves first).0.goes_on live in
    let same = (does.says.leaves clean on).0.spares.schema in
    let was = subst (λ (s : Schema). AllByRecursion (IsStored s) bank_tables) same file in
    (followed clean on was).1 (fits first was))

-- as a transaction begins
pub begins : {S : Type 0} (g : Ghosts S) (old begun : Held S) (memory : Memory)
    → begun ≡ record old { in_transaction = true } → ∥ Remembers g old memory ∥₁ → ∥ Remembers g begun memory ∥₁
begins g old begun memory is it =
    keeps g old begun memory (λ clean. rw is at clean) (λ clean. rw is refl) it

-- as it ends with an answer
pub ends : {S X : Type 0} (g : Ghosts S) (last end new : Held S) (answer result : Result X TableFault) (memory : Memory)
    → Ends g last end answer result → end ≡ new → OnOk answer (∥ Remembers g last memory ∥₁)
    → OnOk result (∥ Remembers g new memory ∥₁)
ends g last end new answer (Err fault) memory it same said = tt
ends g last end new (Err fault) (Ok y) memory it same said = absurd (let no = it.given in cc)
ends {S} g last end new (Ok x) (Ok y) memory it same said =
    subst (λ (h : Held S). ∥ Remembers g h memory ∥₁) same
    (keeps g last end memory (λ clean. omega (arith, it.survives.clean, clean)) (λ clean. (it.answers clean).0) said)

-- ---- what is told from memory

shown_file : (db : Database) (t : Tables) → Shows db t → IsBankFile db
shown_file db t shows = held_file db (stored_rows t) (holds_shown db t shows)

no_row : (m : StoredMeta) → ◌≡◌ {A = Option StoredMeta} None (Some m) → ⊥
no_row m is = cc

count_in : (m : StoredMeta) (version : ℤ) (n : ℕ) → Some m ≡ Some (record { version = version; decided = pos n })
    → m.decided ≡ pos n
count_in m version n is = cc

module _ (db : Database) (n : ℕ) (lies : ∥ CountLies db n ∥₁) where
  -- it is how many the shown tables count
  count_shown : (t : Tables) → Shows db t → n ≡ t.decided
  count_shown t shows = ∥∥₁_elim lies (Coded-set coded_ℕ n t.decided) (λ it.
      let held = count_held db (meta_entry VERSION t.decided ∷ []) n (has_one db t shows) it in
      sym (ap nat_abs (count_in (record { version = VERSION; decided = pos t.decided }) held.0 n held.1)))

  -- and how many the rows that are held do
  count_stored : (rows : StoredRows) → HoldsBank db rows → HoldsDecided rows n
  count_stored rows has = go (meta_in rows.meta) refl
    where
      go : (o : Option StoredMeta) → meta_in rows.meta ≡ o → HoldsDecided rows n
      go None is = absurd (∥∥₁_elim lies (λ x y. absurd x) (λ it.
          no_row _ (sym is ∙ (count_held db rows.meta n (record { sound = has.sound; holds = has.each.0 }) it).1)))
      go (Some m) is =
          let same : m.decided ≡ pos n = ∥∥₁_elim lies (Coded-set coded_ℤ m.decided (pos n)) (λ it.
          let held = count_held db rows.meta n (record { sound = has.sound; holds = has.each.0 }) it in
          count_in m held.0 n (sym is ∙ held.1)) in
          (m.version, is ∙ ap (λ (z : ℤ). Some (record { version = m.version; decided = z })) same)

module _ {S : Type 0} (g : Ghosts S) (conn : Held S) (memory : Memory) (n : ℕ) (is : memory.decided ≡ Some n)
    (it : ∥ Remembers g conn memory ∥₁) where
  lies_there : HasCleanDisk (state g conn) → IsBankFile (state g conn).now → ∥ CountLies (state g conn).now n ∥₁
  lies_there clean file = ∥∥₁_map it (λ fits.
      subst (λ (o : Option ℕ). IfSome o (CountLies (state g conn).now)) is (fits clean file).decided)

  pub known_shown : HasCleanDisk (state g conn) → (t : Tables) → Shows (state g conn).now t → n ≡ t.decided
  known_shown clean t shows =
      count_shown (state g conn).now n (lies_there clean (shown_file (state g conn).now t shows)) t shows

  pub known_stored : HasCleanDisk (state g conn) → (rows : StoredRows) → HoldsBank (state g conn).now rows
      → HoldsDecided rows n
  known_stored clean rows has =
      count_stored (state g conn).now n (lies_there clean (held_file (state g conn).now rows has)) rows has

-- as it is
stays_itself : (s : State) → Stays s s
stays_itself s = record {
  goes_on = record { opened = λ h. h; committed = refl; mode = refl; spares = spares_itself bank_names _ };
  now = refl;
}

-- a row that is remembered is what a look-up of it finds
pub looks_known : {S X : Type 0} {g : Ghosts S} {tx : Transaction S} (memory : Memory) (stored : StoredRows → Option Entry)
    (read : Entry → Result X Rule) (found : Option X) (Lies : Database → Option X → Type 0)
    → Survives (state g tx.conn.now) (state g tx.conn.now) (λ _. ⊥)
    → ((db : Database) → Fits db memory → Lies db found)
    → ((db : Database) (rows : StoredRows) → HoldsBank db rows → ∥ Lies db found ∥₁ → FindsStored (stored rows) read (Ok found))
    → ∥ Remembers g tx.conn.now memory ∥₁ → Recalls g tx tx stored read (Ok found)
looks_known {g = g} {tx = tx} memory stored read found Lies same lies finds it = record {
  same_reference = refl;
  answers = λ clean rows has. finds (state g tx.conn.now).now rows has
      (∥∥₁_map it (λ fits. lies (state g tx.conn.now).now (fits clean (held_file (state g tx.conn.now).now rows has))));
  leaves = λ clean. stays_itself (state g tx.conn.now);
  survives = same;
}

-- nothing was asked
pub reads_known : {S : Type 0} {g : Ghosts S} {tx : Transaction S} (memory : Memory) (n : ℕ)
    → Survives (state g tx.conn.now) (state g tx.conn.now) (λ _. ⊥) → memory.decided ≡ Some n
    → ∥ Remembers g tx.conn.now memory ∥₁ → Reads g tx tx (λ t. t.decided) (Ok n)
reads_known {g = g} {tx = tx} memory n same is it = record {
  says = record {
    same_reference = refl;
    answers = λ clean t shows so. known_shown g tx.conn.now memory n is it clean t shows;
    leaves = λ clean. (stays_itself (state g tx.conn.now), tt);
    survives = same;
  };
}

-- where it is so as long as the transaction goes on
pub ends_live : {S X : Type 0} (g : Ghosts S) (begun last : Transaction S) (end new : Held S) (answer result : Result X TableFault)
    (memory : Memory) → Ends g last.conn.now end answer result → end ≡ new → IsTrue (state g begun.conn.now).in_transaction
    → OnOk answer (∥ Keeps g begun last memory ∥₁) → OnOk result (∥ Remembers g new memory ∥₁)
ends_live g begun last end new answer result memory it same live said =
    ends g last.conn.now end new answer result memory it same
    (on_ok_weaker answer (λ so. ∥∥₁_map so (λ keeps. keeps live)) said)

-- as a try ends that has answered
pub tried_ends : {S : Type 0} (g : Ghosts S) (begun last : Transaction S) (end new : Held S) (answer result : Result Tried TableFault)
    (memory : Memory) → Ends g last.conn.now end answer result → end ≡ new → batch_of answer ≡ None
    → IsTrue (state g begun.conn.now).in_transaction → IfSome (replies_of answer) (λ _. ∥ Keeps g begun last memory ∥₁)
    → OnOk result (∥ Remembers g new memory ∥₁)
tried_ends g begun last end new (Ok (Answered replies)) result memory it same none live said =
    ends_live g begun last end new (Ok (Answered replies)) result memory it same live said
tried_ends g begun last end new (Ok (Again batch)) result memory it same none live said = absurd cc
tried_ends g begun last end new (Err fault) result memory it same none live said =
    ends_live g begun last end new (Err fault) result memory it same live tt

-- a try after a look-up
pub since : {S X : Type 0} {g : Ghosts S} {old mid : Transaction S} {So : Tables → Type 0} {w : Tables → X} {x : X}
    (new : Transaction S) → ReadsWhere g old mid So w (Ok x) → (answer : Result Tried TableFault) (memory : Memory)
    → Survives (state g mid.conn.now) (state g new.conn.now) (λ _. ⊥)
    → IfSome (replies_of answer) (λ _. ∥ Keeps g mid new memory ∥₁)
    → IfSome (replies_of answer) (λ _. ∥ Keeps g old new memory ∥₁)
since {g = g} {old = old} {mid = mid} new reads answer memory then said =
    IfSome_then (replies_of answer) said (λ replies it. ∥∥₁_map it (λ keeps live clean file.
    let before : HasCleanDisk (state g mid.conn.now) = omega (arith, then.clean, clean) in
    keeps (still_in (state g old.conn.now) (state g mid.conn.now) (reads.says.leaves before).0.goes_on live) clean file))

-- ---- what is remembered of a try that was given up

-- what was read lies in the file as it was
pub recalls_read : {S X : Type 0} {g : Ghosts S} {old new : Transaction S} {So : Tables → Type 0} {w : Tables → X} {x : X}
    (memory : Memory) → ReadsWhere g old new So w (Ok x) → ∥ Remembers g new.conn.now memory ∥₁
    → ∥ FitsBefore g old new memory ∥₁
recalls_read memory reads it = ∥∥₁_map it (λ fits clean file.
    let same = (reads.says.leaves clean).0.now in
    subst (λ (db : Database). Fits db memory) same (fits clean (subst IsBankFile (sym same) file)))

-- whatever was written then
pub recalls_then : {S : Type 0} (g : Ghosts S) (old mid new : Transaction S) (memory : Memory)
    → (HasCleanDisk (state g new.conn.now) → HasCleanDisk (state g mid.conn.now)) → ∥ FitsBefore g old mid memory ∥₁
    → ∥ FitsBefore g old new memory ∥₁
recalls_then g old mid new memory before it = ∥∥₁_map it (λ fits clean. fits (before clean))

-- what was remembered before a look-up lies there too
pub recalls_itself : {S X : Type 0} {g : Ghosts S} {old new : Transaction S} {So : Tables → Type 0} {w : Tables → X}
    {x : X} (memory : Memory) → ReadsWhere g old new So w (Ok x) → ∥ Remembers g old.conn.now memory ∥₁
    → ∥ FitsBefore g old new memory ∥₁
recalls_itself memory reads it =
    ∥∥₁_map it (λ fits clean. fits (omega (arith, reads.says.survives.clean, clean)))

-- and so does that of a try after one
pub recalls_since : {S X : Type 0} {g : Ghosts S} {old mid : Transaction S} {So : Tables → Type 0} {w : Tables → X} {x : X}
    (new : Transaction S) → ReadsWhere g old mid So w (Ok x) → (answer : Result Tried TableFault) (memory : Memory)
    → Survives (state g mid.conn.now) (state g new.conn.now) (λ _. ⊥)
    → IfSome (batch_of answer) (λ _. ∥ FitsBefore g mid new memory ∥₁)
    → IfSome (batch_of answer) (λ _. ∥ FitsBefore g old new memory ∥₁)
recalls_since {g = g} {old = old} {mid = mid} new reads answer memory then said =
    IfSome_then (batch_of answer) said (λ batch it. ∥∥₁_map it (λ fits clean file.
    let before : HasCleanDisk (state g mid.conn.now) = omega (arith, then.clean, clean) in
    let same = (reads.says.leaves before).0.now in
    subst (λ (db : Database). Fits db memory) same (fits clean (subst IsBankFile (sym same) file))))

-- once all is undone, it lies in the file again
pub recalls_undone : {S : Type 0} (g : Ghosts S) (old : Held S) (begun last : Transaction S) (new : Held S) (memory : Memory)
    → begun.conn.now ≡ record old { in_transaction = true } → IsAsBefore g old new
    → (HasCleanDisk (state g new) → HasCleanDisk (state g last.conn.now)) → ∥ FitsBefore g begun last memory ∥₁
    → ∥ Remembers g new memory ∥₁
recalls_undone g old begun last new memory is undone before it = ∥∥₁_map it (λ fits clean file.
    let began : (state g begun.conn.now).now ≡ (state g old).now = rw is refl in
    let same : (state g begun.conn.now).now ≡ (state g new).now = began ∙ sym (undone.same clean).2 in
    subst (λ (db : Database). Fits db memory) same (fits (before clean) (subst IsBankFile (sym same) file)))
