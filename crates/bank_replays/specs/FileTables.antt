-- The rows of all nine tables of a file.
use Rattle.std.specs.Prelude.{◌≡◌, IsTrue, ℤ, List, [], ◌∷◌, map, nat_abs, pos, true}
use Rattle.std.specs.List.{AllByRecursion}
use Rattle.std.specs.Ordering.{int_cmp, is_ge}
use Rattle.sqlite.specs.Effect.{Database, IsDatabase}
use Rattle.sqlite.specs.Order.{Row}
use Rattle.sqlite.specs.State.{State}
use Rattle.sqlite.specs.declared.types.Value.{Value}
use Rattle.sqlite.specs.declared.types.Value.TheVariants.{Int}
use Rattle.sqlite_trees.specs.Tree.{rowid}
use Rattle.sqlite_trees.specs.View.{IsShaped}
use Rattle.sqlite_trees.specs.declared.store.Shape.TheVariants.{Table as Shaped}
use Rattle.posting_rules.specs.believed.Tables.{Tables}
use Rattle.sql_meanings.specs.believed.Entries.{Entry}
use Rattle.store_rows.specs.believed.BankTables.{account, branch, closing, floor, history, meta, reference, request, teller}
use Rattle.store_rows.specs.believed.View as view
use Rattle.store_rows.specs.declared.metas.TheConstants.{VERSION}
use Rattle.sql_meanings.specs.believed.Tables.{tree_of}
use Rattle.store_rows.specs.Definitions.{made}
use Rattle.store_rows.specs.Probes.{all_tables}
use Rattle.walked_rows.specs.Rows.{HasStoredRows, LEAST}

pub record FileTables : Type 0 where
  pub metas : List Entry
  pub branches : List Entry
  pub tellers : List Entry
  pub accounts : List Entry
  pub history : List Entry
  pub requests : List Entry
  pub floors : List Entry
  pub references : List Entry
  pub closings : List Entry

-- A sound database defines the tables of a bank, each as a bank's is, and has these rows, whatever they are.
pub record HasTables (db : Database) (f : FileTables) : Type 0 where
  pub metas : HasStoredRows db meta f.metas
  pub branches : HasStoredRows db branch f.branches
  pub tellers : HasStoredRows db teller f.tellers
  pub accounts : HasStoredRows db account f.accounts
  pub history : HasStoredRows db history f.history
  pub requests : HasStoredRows db request f.requests
  pub floors : HasStoredRows db floor f.floors
  pub references : HasStoredRows db reference f.references
  pub closings : HasStoredRows db closing f.closings

-- whatever rows the two have, they are the same in every table
abbrev pub SameTables : Database → Database → Type 0
SameTables db other = (f due : FileTables) → HasTables db f → HasTables other due → f ≡ due

-- the rows of a bank's tables
abbrev pub rows_due : Tables → FileTables
rows_due t = record {
  metas = view.meta_entry (pos (nat_abs VERSION)) t.decided ∷ [];
  branches = map view.branch_entry t.branches;
  tellers = map view.teller_entry t.tellers;
  accounts = map view.account_entry t.accounts;
  history = map view.history_entry t.history;
  requests = map view.request_entry t.requests;
  floors = map view.floor_entry t.floors;
  references = map view.reference_entry t.references;
  closings = map view.closing_entry t.closings;
}

-- ---- what `sqlite` keeps of an open file, whoever wrote it

-- a number of 64 bits is at least this
abbrev pub IsFromLeast : Value → Type 0
IsFromLeast v = (n : ℤ) → v ≡ Int n → is_ge (int_cmp n LEAST) ≡ true

-- these are the rows of a table: they are under rising numbers of 64 bits
pub record IsTreeOfRows (rows : List Row) : Type 0 where
  pub shaped : IsShaped Shaped rows
  pub least : AllByRecursion (λ r. IsFromLeast (rowid r)) rows

-- the file is open, its database is sound, and so are the rows of each table of a bank, whatever their numbers are
pub record IsKept (s : State) : Type 0 where
  pub is_open : IsTrue s.is_open
  pub sound : IsDatabase s.now
  pub rows : AllByRecursion (λ t. IsTreeOfRows (s.now.trees (tree_of s.now.schema (made t).name))) all_tables
