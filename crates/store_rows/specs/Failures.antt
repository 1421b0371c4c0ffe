-- What the calls that read, change and put in rows answer where they fail.
use Rattle.std.specs.Prelude.{◌≡◌, ◌≢◌, ◌⊎◌, ℕ, List, true, false, Bool, Option, Some, None}
use Rattle.std.specs.Prelude.{Result, Ok, Err, ⊤}
use Rattle.sqlite.specs.Order.{Row}
use Rattle.sqlite.specs.Held.{Held, state}
use Rattle.sqlite.specs.State.{State, Survives}
use Rattle.sqlite.specs.State.{Shows as StateShows, Fails, IsUnchanged}
use Rattle.sqlite.specs.declared.error.Error.{Error}
use Rattle.sqlite.specs.declared.error.Error.TheVariants.{QueryReturnedNoRows}
use Rattle.sqlite_trees.specs.declared.store.Store.{Ghosts}
use Rattle.posting_rules.specs.declared.fault.Rule.TheVariants.{Key}
use Rattle.sql_meanings.specs.StatementAnswers.{WriteFails}
use Rattle.store_rows.specs.declared.fault.TableFault.{TableFault}
use Rattle.store_rows.specs.declared.fault.TableFault.TheVariants.{Sqlite, Damaged}
use Rattle.store_rows.specs.believed.Failures.{HasFailed, MeetsNone, TakesKey}
use Rattle.store_rows.specs.believed.Readings.{Reading}

-- a call of `sqlite` that came after others answered this error, and nothing came after it
pub record HasFailedAtLast {S : Type 0} (g : Ghosts S) (old new : Held S) (e : Error) : Type 0 where
  pub at : Held S
  pub before : Survives (state g old) (state g at) (λ _. ⊥)
  pub failed : HasFailed (state g at) (state g new) e

-- the error of a fault is one with which a call of `sqlite` failed
abbrev pub HasReason : State → State → TableFault → Type 0
HasReason old new (Sqlite e) = HasFailed old new e
HasReason old new (Damaged rule) = ⊤

-- why rows weren't put in by this text, with these values
abbrev pub HasPutReason : List ℕ → Row → State → State → TableFault → Type 0
HasPutReason text values old new (Sqlite e) = HasFailed old new e
HasPutReason text values old new (Damaged rule) = (rule ≡ Key) × TakesKey text values old new

-- What is reported of what a query answered: what the row reads as, if it found one, or the rule that the row breaks,
-- or the query's error.
abbrev pub ReadsAnswer : {X : Type 0} → Reading X → Result Row Error → Result (Option X) TableFault → Type 0
ReadsAnswer read (Ok row) (Ok (Some x)) = read row ≡ Ok x
ReadsAnswer read (Ok row) (Ok None) = ⊥
ReadsAnswer read (Ok row) (Err (Sqlite e)) = ⊥
ReadsAnswer read (Ok row) (Err (Damaged rule)) = read row ≡ Err rule
ReadsAnswer read (Err e) (Ok (Some x)) = ⊥
ReadsAnswer read (Err e) (Ok None) = e ≡ QueryReturnedNoRows
ReadsAnswer read (Err e) (Err fault) = (fault ≡ Sqlite e) × (e ≢ QueryReturnedNoRows)

-- ---- whatever the rows

-- a query leaves everything as it was, or the store failed and the transaction is rolled back; what else than
-- no row that it reports is a failure
abbrev pub Asks : State → State → Result Row Error → Type 0
Asks old new (Ok row) = IsUnchanged old new
Asks old new (Err e) = (Fails old new ⊥ e ⊎ IsUnchanged old new)
    × (e ≢ QueryReturnedNoRows → HasFailed old new e)

-- a read leaves everything as it was, or the transaction is rolled back
abbrev pub Looks : {X : Type 0} → State → State → Result X TableFault → Type 0
Looks old new (Ok x) = IsUnchanged old new
Looks old new (Err fault) = WriteFails old new × HasReason old new fault

-- a change of a row by this text, with these values: the transaction goes on, or an error leaves it as it was or rolls it back
abbrev pub Changes : List ℕ → Row → State → State → Result Bool Error → Type 0
Changes text values old new (Ok there) = StateShows old new new.now old.committed true
    × (there ≡ false → MeetsNone text values old new)
Changes text values old new (Err e) = WriteFails old new × HasFailed old new e

-- the same of rows that are put in by one of the texts, with these values
abbrev pub Puts : {X : Type 0} → List ℕ → Row → State → State → Result X TableFault → Type 0
Puts text values old new (Ok done) = StateShows old new new.now old.committed true
Puts text values old new (Err fault) = WriteFails old new × HasPutReason text values old new fault
