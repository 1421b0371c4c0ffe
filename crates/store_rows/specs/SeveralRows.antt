-- Several rows that one statement puts in.
use Rattle.std.specs.Prelude.{◌≡◌, ◌||◌, Bool, false, ℕ, pos, List, [], ◌∷◌, find, None, Result}
use Rattle.std.specs.List.{AllByRecursion}
use Rattle.sqlite.specs.Effect.{Database}
use Rattle.sqlite.specs.Table.{Table}
use Rattle.sqlite.specs.declared.transaction.Transaction.{Transaction}
use Rattle.sqlite_rules.specs.Lists.{Has}
use Rattle.sqlite_trees.specs.declared.store.Store.{Ghosts}
use Rattle.posting_rules.specs.believed.Tables.{Tables}
use Rattle.posting_rules.specs.declared.rows.RequestRow.{RequestRow}
use Rattle.sql_meanings.specs.believed.Entries.{Entry, has_two}
use Rattle.store_rows.specs.believed.BankTables.{request}
use Rattle.store_rows.specs.Calls.{AddsRow}
use Rattle.store_rows.specs.View.{HoldsRows}
use Rattle.store_rows.specs.declared.fault.TableFault.{TableFault}
use Rattle.store_rows.specs.believed.SeveralRows.{given_each}

-- the tables with each of the rows, one after another
abbrev pub with_each : {R : Type 0} → (R → Tables → Tables) → List R → Tables → Tables
with_each with [] t = t
with_each with (r ∷ rows) t = with_each with rows (with r t)

-- the key of one of them is taken by then
abbrev pub meets_key : {R : Type 0} → (R → Tables → Tables) → (R → Tables → Bool) → List R → Tables → Bool
meets_key with taken [] t = false
meets_key with taken (r ∷ rows) t = taken r t || meets_key with taken rows (with r t)

-- By this text the rows are put in one after another, unless the key of one is taken by then. Of an error none is
-- put in.
abbrev pub AddsRows : {S R : Type 0} → Ghosts S → Transaction S → Transaction S → List ℕ → (R → Entry) → Table
    → (R → Tables → Bool)
    → (R → Tables → Tables) → List R → Result (Unit {0}) TableFault → Type 0
AddsRows g old new text entry table taken with rows result =
    AddsRow g old new text (given_each entry rows) table (meets_key with taken rows) (with_each with rows) result

-- ---- requests, whatever rows a file holds

-- no row has the teller and the number of this one
abbrev pub IsNew : List Entry → RequestRow → Type 0
IsNew rows r = find (has_two (pos r.teller) (pos r.number)) rows ≡ None

-- the database holds these requests, and maybe more
pub record HoldsStill (db : Database) (rows : List Entry) : Type 0 where
  pub all : List Entry
  pub holds : HoldsRows db request all
  pub still : (e : Entry) → Has rows e → Has all e

-- whatever requests the first database held, none had the teller and the number of one of these, and the second
-- holds them still
abbrev pub PutsNew : Database → Database → List RequestRow → Type 0
PutsNew old new news = (rows : List Entry) → HoldsRows old request rows
    → AllByRecursion (IsNew rows) news × HoldsStill new rows
