-- What a statement, a look-up and a transaction do to a database, part by part.
use Rattle.std.specs.Prelude.{◌≡◌, IsTrue, Bool, true, false, Result, Ok, Err, IfOk, OnOk, ⊤}
use Rattle.sqlite.specs.Tree.{Trees}
use Rattle.sqlite.specs.State.{State, KeepsCommit, HasCleanDisk, IsRolledBack, Survives}
use Rattle.sqlite.specs.Steps.{FailsToCommit}
use Rattle.sqlite.specs.Held.{Held, state}
use Rattle.sqlite.specs.declared.error.Error.{Error}
use Rattle.sqlite.specs.declared.transaction.Transaction.{Transaction}
use Rattle.sqlite_trees.specs.declared.store.Store.{Ghosts}
use Rattle.posting_rules.specs.believed.Damage.{IsUndamaged}
use Rattle.posting_rules.specs.believed.Tables.{Tables}
use Rattle.posting_rules.specs.declared.fault.Rule.{Rule}
use Rattle.sql_meanings.specs.Calls.{Says, Inside}
use Rattle.store_rows.specs.Calls.{OfTables}
use Rattle.store_rows.specs.believed.{Failures.Additions, Made.WritesOnly}
use Rattle.store_rows.specs.believed.Sparing.{SparesOthers}
use Rattle.store_rows.specs.believed.View.{Shows, ShowsTrees}
use Rattle.store_rows.specs.declared.fault.TableFault.{TableFault}
use Rattle.store_rows.specs.declared.fault.TableFault.TheVariants.{Sqlite, Damaged}
use Rattle.bank_transactions.specs.believed.Causes.{HasMetBetween, Damage, IsBrokenOrMet}
use Rattle.bank_transactions.specs.Causes.{Blames, IsFirstBroken, IsFirstDamaged}
use Rattle.bank_transactions.specs.believed.{Doing.LeavesOthers, Stray.IsDamage}

-- the transaction goes on, nothing is committed, and the tables of other products are as they were
pub record GoesOnUncommitted (old new : State) : Type 0 where
  pub opened : IsTrue new.is_open → IsTrue old.is_open
  pub committed : new.committed ≡ old.committed
  pub mode : new.in_transaction ≡ old.in_transaction
  pub spares : SparesOthers old.now new.now

-- it shows what it showed
pub record Stays (old new : State) : Type 0 where
  pub goes_on : GoesOnUncommitted old new
  pub now : new.now ≡ old.now

-- ---- a part that reads

-- whatever the rows: after Ok everything is as it was, and at an error nothing is committed
abbrev pub ChangesNothing : {X : Type 0} → State → State → Result X TableFault → Type 0
ChangesNothing old new (Ok x) = Stays old new
ChangesNothing old new (Err fault) = KeepsCommit old new

-- In tables that are so, the answer is what was looked for. Whatever the rows, nothing has changed after `Ok`, and
-- damage says this.
pub record ReadsBy {S X : Type 0} (Met : Damage S) (g : Ghosts S) (old new : Transaction S) (So : Tables → Type 0)
    (wanted : Tables → X) (result : Result X TableFault) : Type 0 where
  pub says : Says g old new
      (OfTables (λ before now tables. So tables → IfOk result (λ found. found ≡ wanted tables)))
      (λ before now. ChangesNothing before now result
      × Blames Met g old.conn.now new.conn.now result)

-- it is of the rows that were there: where they break no rule, none is told
abbrev pub ReadsWhere : {S X : Type 0} → Ghosts S → Transaction S → Transaction S → (Tables → Type 0) → (Tables → X)
    → Result X TableFault → Type 0
ReadsWhere g = ReadsBy (IsFirstBroken g) g

-- in undamaged tables
abbrev pub Reads : {S X : Type 0} → Ghosts S → Transaction S → Transaction S → (Tables → X)
    → Result X TableFault → Type 0
Reads g old new = ReadsWhere g old new IsUndamaged

-- ---- a part that writes

-- whatever the rows: nothing is committed, and after Ok the transaction goes on
abbrev pub CommitsNothing : {X : Type 0} → State → State → Result X TableFault → Type 0
CommitsNothing old new (Ok x) = GoesOnUncommitted old new
CommitsNothing old new (Err fault) = KeepsCommit old new

-- the tables are these now, and the answer is this one; damage says this
abbrev pub LeavesAndAnswers : {X : Type 0} → (Rule → Type 0) → State → Tables → X → Result X TableFault → Type 0
LeavesAndAnswers Bad new after wanted (Ok x) = (x ≡ wanted) × Shows new.now after
LeavesAndAnswers Bad new after wanted (Err (Sqlite e)) = ⊤
LeavesAndAnswers Bad new after wanted (Err (Damaged rule)) = Bad rule

-- what the answer of a write comes to: the row that it writes is there, or this rule is broken
abbrev pub expected : Result Bool Error → Rule → Result (Unit {0}) TableFault
expected (Ok true) rule = Ok tt
expected (Ok false) rule = Err (Damaged rule)
expected (Err e) rule = Err (Sqlite e)

-- after `Ok`, statements that put such rows in, or change one, made what there is
abbrev pub WritesIfOk : {X : Type 0} → Additions → State → State → Result X TableFault → Type 0
WritesIfOk Adds old new result = OnOk result (WritesOnly Adds old.now new.now)

-- tables that are so become these, and the answer is this one; damage says Bad of such tables, and Met of any rows
pub record DoesBy {S X : Type 0} (Bad Met : Damage S) (Adds : Additions) (g : Ghosts S) (old new : Transaction S)
    (So : Tables → Type 0) (after : Tables → Tables)
    (wanted : Tables → X) (result : Result X TableFault) : Type 0 where
  pub says : Says g old new
      (Inside (OfTables (λ before now tables. So tables
      → LeavesAndAnswers (Bad old.conn.now new.conn.now) now (after tables) (wanted tables) result)))
      (Inside (λ before now. CommitsNothing before now result
      × Blames Met g old.conn.now new.conn.now result × WritesIfOk Adds before now result))

-- whatever tables are shown, after `Ok` they are these
pub record Leaves {S X : Type 0} (g : Ghosts S) (old new : Transaction S) (after : Tables → Tables)
    (result : Result X TableFault) : Type 0 where
  pub shown : OnOk result (HasCleanDisk (state g new.conn.now) → IsTrue (state g old.conn.now).in_transaction
      → (tables : Tables) → Shows (state g old.conn.now).now tables
      → Shows (state g new.conn.now).now (after tables))

-- a part that only writes, and puts such rows in: on tables that are so no damage is told; damage was met by a
-- statement as it wrote
abbrev pub Does : {S X : Type 0} → Ghosts S → Additions → Transaction S → Transaction S → (Tables → Type 0)
    → (Tables → Tables) → (Tables → X)
    → Result X TableFault → Type 0
Does g Adds = DoesBy (λ old new rule. ⊥) (HasMetBetween g Adds) Adds g

-- a part that reads, and a part that reads and then writes: on tables that are so damage is of the rows that were
-- there; on any rows it is, or it was met as it wrote
abbrev pub Looks : {S X : Type 0} → Ghosts S → Additions → Transaction S → Transaction S → (Tables → Type 0)
    → (Tables → Tables) → (Tables → X) → Result X TableFault → Type 0
Looks g Adds = DoesBy (IsFirstDamaged g) (IsFirstBroken g) Adds g

abbrev pub Acts : {S X : Type 0} → Ghosts S → Additions → Transaction S → Transaction S → (Tables → Type 0)
    → (Tables → Tables) → (Tables → X)
    → Result X TableFault → Type 0
Acts g Adds = DoesBy (IsFirstDamaged g) (IsBrokenOrMet g Adds) Adds g

-- ---- how a transaction ends

-- what a commit may leave, where there is an answer to commit
abbrev pub MayCommit : {X : Type 0} → State → Result X TableFault → Trees → Type 0
MayCommit last (Ok x) left = (left ≡ last.now.trees)
    × ((tables : Tables) → Shows last.now tables → ShowsTrees left tables)
MayCommit last (Err fault) left = ⊥

-- an answer is committed, and a crash leaves its tables; or its commit fails; after a fault all is rolled back
abbrev pub EndsBy : {X : Type 0} → State → State → Result X TableFault → Result X TableFault → Type 0
EndsBy last new (Ok x) (Ok y) = (new.now ≡ last.now) × IsTrue last.is_open
    × ((tables : Tables) → Shows last.now tables
    → Shows new.now tables × ((left : Trees) → new.may_leave left → ShowsTrees left tables))
EndsBy last new (Ok x) (Err (Sqlite e)) = FailsToCommit last new e
EndsBy last new (Ok x) (Err (Damaged rule)) = ⊥
EndsBy last new (Err fault) result = (result ≡ Err fault) × IsRolledBack last new

-- A transaction of which the parts gave this answer has ended with that one.
pub record Ends {S X : Type 0} (g : Ghosts S) (last new : Held S)
    (answer result : Result X TableFault) : Type 0 where
  pub mode : new.in_transaction ≡ false
  pub given : IfOk result (λ x. answer ≡ Ok x)
  pub answers : HasCleanDisk (state g new) → EndsBy (state g last) (state g new) answer result
  pub survives : Survives (state g last) (state g new) (MayCommit (state g last) answer)

-- ---- a transaction

-- the tables are these now, and a crash leaves them; the answer is this one; damage is of the rows that were there
abbrev pub Completes : {X : Type 0} → State → State → Tables → X → Result X TableFault → Type 0
Completes old new after wanted (Ok x) = (x ≡ wanted) × Shows new.now after
    × ((left : Trees) → new.may_leave left → ShowsTrees left after)
Completes old new after wanted (Err (Sqlite e)) = ⊤
Completes old new after wanted (Err (Damaged rule)) = IsDamage rule old.now

-- what was met is reported as damaged: as long as the store is open, everything is as it was
abbrev pub Undoes : {X : Type 0} → State → State → Result X TableFault → Type 0
Undoes old new (Err (Damaged rule)) = IsTrue new.is_open → IsTrue old.is_open × (new.now ≡ old.now)
Undoes old new _ = ⊤

-- what a crash may leave besides what it could leave before: tables that are so, as the transaction leaves
-- them
abbrev pub MayLeaveAfter : State → (Tables → Type 0) → (Tables → Tables) → Trees → Type 0
MayLeaveAfter old So after left = (tables : Tables) → Shows old.now tables → So tables
    → ShowsTrees left (after tables)

-- Whatever rows the file holds: after `Ok` the tables of other products are as they were, and the store was open. A
-- crash leaves what it could leave before, or them as they were.
pub record SparesTheirs {S X : Type 0} (g : Ghosts S) (old new : Held S) (result : Result X TableFault)
    : Type 0 where
  pub now : HasCleanDisk (state g new) → OnOk result (SparesOthers (state g old).now (state g new).now)
  pub opened : HasCleanDisk (state g new) → OnOk result (IsTrue (state g old).is_open)
  pub left : Survives (state g old) (state g new) (LeavesOthers (state g old).now)

-- Tables that are so become these, and the answer is this one, or the rows that they have break the rule that is
-- told. Damage undoes all. A crash leaves what it could leave before, or what the transaction leaves. An error of
-- `sqlite` is one with which a call of it failed, and damage says this. No transaction goes on. The tables of other
-- products are spared. After an answer, statements that put such rows in, or change one, made what there is.
pub record TransactsBy {S X : Type 0} (Met : Damage S) (Adds : Additions) (g : Ghosts S) (old new : Held S)
    (So : Tables → Type 0) (after : Tables → Tables)
    (wanted : Tables → X) (result : Result X TableFault) : Type 0 where
  pub answers : HasCleanDisk (state g new) → (tables : Tables) → Shows (state g old).now tables → So tables
      → Completes (state g old) (state g new) (after tables) (wanted tables) result
  pub undone : HasCleanDisk (state g new) → Undoes (state g old) (state g new) result
  pub survives : Survives (state g old) (state g new) (MayLeaveAfter (state g old) So after)
  pub cause : HasCleanDisk (state g new) → Blames Met g old new result
  pub mode : new.in_transaction ≡ false
  pub spares : SparesTheirs g old new result
  pub wrote : HasCleanDisk (state g new) → WritesIfOk Adds (state g old) (state g new) result

-- damage is of the rows that the file held as the transaction began, or a statement met it as it wrote: one that
-- puts such rows in, or changes one
abbrev pub Transacts : {S X : Type 0} → Ghosts S → Additions → Held S → Held S → (Tables → Type 0) → (Tables → Tables)
    → (Tables → X)
    → Result X TableFault → Type 0
Transacts g Adds = TransactsBy (IsBrokenOrMet g Adds) Adds g

-- a transaction that only reads: damage is of the rows that the file held as it began
abbrev pub Consults : {S X : Type 0} → Ghosts S → Held S → Held S → (Tables → Type 0) → (Tables → X)
    → Result X TableFault → Type 0
Consults g old new So = TransactsBy (IsFirstBroken g) (λ text values. ⊥) g old new So (λ tables. tables)
