-- What the calls on the tables of a bank report.
use Rattle.std.specs.Prelude.{◌≡◌, ℕ, false, Bool, List, Option, Result}
use Rattle.sqlite.specs.Held.{Held, state}
use Rattle.sqlite.specs.Order.{Row}
use Rattle.sqlite.specs.State.{State, HasCleanDisk, Survives}
use Rattle.sqlite.specs.Table.{Table}
use Rattle.sqlite.specs.declared.error.Error.{Error}
use Rattle.sqlite.specs.declared.transaction.Transaction.{Transaction}
use Rattle.sqlite_trees.specs.declared.store.Store.{Ghosts}
use Rattle.posting_rules.specs.believed.Tables.{Tables}
use Rattle.posting_rules.specs.declared.fault.Rule.{Rule}
use Rattle.sql_meanings.specs.Calls.{Inside, Says}
use Rattle.sql_meanings.specs.StatementAnswers.{TellsProbe, TellsUnderstood}
use Rattle.sql_meanings.specs.believed.Entries.{Entry}
use Rattle.store_rows.specs.Failures.{Changes, Looks, Puts}
use Rattle.store_rows.specs.TableAnswers.{PutsOneRow, Finds, SetsRow}
use Rattle.store_rows.specs.believed.Rules.{OfRows, StoredRows}
use Rattle.store_rows.specs.Sparing.{MakesIfOk, SparesIfOk}
use Rattle.store_rows.specs.believed.BankTables.{meta}
use Rattle.store_rows.specs.believed.View.{Shows}
use Rattle.store_rows.specs.View.{HoldsRows}
use Rattle.store_rows.specs.declared.fault.TableFault.{TableFault}

-- of whatever tables are shown
abbrev pub OfTables : (State → State → Tables → Type 0) → State → State → Type 0
OfTables Answers old new = (tables : Tables) → Shows old.now tables → Answers old new tables

-- of whatever rows of `meta` are held
abbrev pub OfMeta : (State → State → List Entry → Type 0) → State → State → Type 0
OfMeta Answers old new = (rows : List Entry) → HoldsRows old.now meta rows → Answers old new rows

-- of whatever rows are held
abbrev pub OfStored : (State → State → StoredRows → Type 0) → State → State → Type 0
OfStored Answers old new = OfRows (λ rows. Answers old new rows) old.now

-- a look-up reports what the row that it looks for reads as, whatever rows are held
abbrev pub LooksUp : {S X : Type 0} → Ghosts S → Transaction S → Transaction S → (StoredRows → Option Entry)
    → (Entry → Result X Rule) → Result (Option X) TableFault → Type 0
LooksUp g old new stored read result =
    Says g old new (OfStored (λ old new rows. Finds old new (stored rows) read result))
    (λ old new. Looks old new result)

-- By this text, with these values, a number of a row of the table is written, if there is such a row, and the tables
-- are these after it. The tables of other products are as they were, and the text made what there is, whatever rows
-- there are.
abbrev pub SetsNumber : {S : Type 0} → Ghosts S → Transaction S → Transaction S → Table → List ℕ → Row
    → (Tables → Bool)
    → (Tables → Tables) → Result Bool Error → Type 0
SetsNumber g old new table text values there after result =
    Says g old new (Inside
    (OfTables (λ old new tables. SetsRow old new table (there tables) (after tables) result)))
    (Inside (λ old new. Changes text values old new result × SparesIfOk old new result
    × MakesIfOk text values old new result))

-- By this text, with these values, a row of the table is put in, unless its key is taken, and the tables are these
-- after it. The tables of other products are as they were, and the text made what there is, whatever rows there are.
abbrev pub AddsRow : {S : Type 0} → Ghosts S → Transaction S → Transaction S → List ℕ → Row → Table
    → (Tables → Bool) → (Tables → Tables) → Result (Unit {0}) TableFault → Type 0
AddsRow g old new text values table taken after result =
    Says g old new (Inside
    (OfTables (λ old new tables. PutsOneRow old new table (taken tables) (after tables) result)))
    (Inside (λ old new. Puts text values old new result × SparesIfOk old new result
    × MakesIfOk text values old new result))

-- Whether the probe of a table is understood, on an honest disk, and so what is there of the table. Only a
-- fault shuts the store, and a crash leaves nothing new.
pub record Probes {S : Type 0} (g : Ghosts S) (old new : Held S) (probe : List ℕ × Table)
    (answer : Result Bool Error) : Type 0 where
  pub answers : HasCleanDisk (state g new) → TellsProbe (state g old) (state g new) probe.1 answer
  pub text : HasCleanDisk (state g new) → TellsUnderstood (state g old) (state g new) probe.0 answer
  pub mode : old.in_transaction ≡ false → new.in_transaction ≡ false
  pub survives : Survives (state g old) (state g new) (λ _. ⊥)
