-- What a difference says: a table, what stands there under a key, and what is due.
use Rattle.std.specs.Prelude.{◌≡◌, List, [], ◌∷◌, Option, option_map}
use Rattle.sqlite.specs.Effect.{Database}
use Rattle.posting_rules.specs.believed.Commands.{Command}
use Rattle.posting_rules.specs.believed.Tables.{AreTablesOf, Tables}
use Rattle.sql_meanings.specs.believed.Entries.{Entry}
use Rattle.walked_rows.specs.References.{listed_entry}
use Rattle.walked_rows.specs.Rows.{entry_key}
use Rattle.walked_rows.specs.Stored.{account_entry, branch_entry, posting_entry, request_entry, teller_entry}
use Rattle.walked_rows.specs.StoredBeside.{closing_entry, floor_entry, meta_entry}
use Rattle.bank_replays.specs.FileTables.{FileTables, HasTables, rows_due}
use Rattle.bank_replays.specs.NextRows.{DifferFirst}
use Rattle.bank_replays.specs.Replayed.{IsReplayOf}
use Rattle.bank_replays.specs.declared.difference.Difference.{Difference}
use Rattle.bank_replays.specs.declared.difference.Difference.TheVariants.{Account, Branch, Closing, Floor, Meta, Posting}
use Rattle.bank_replays.specs.declared.difference.Difference.TheVariants.{Reference, Request, Teller}

-- the rows of its table, of all
abbrev pub rows_of : Difference → FileTables → List Entry
rows_of (Meta s) f = f.metas
rows_of (Branch s) f = f.branches
rows_of (Teller s) f = f.tellers
rows_of (Account s) f = f.accounts
rows_of (Posting s) f = f.history
rows_of (Request s) f = f.requests
rows_of (Floor s) f = f.floors
rows_of (Reference s) f = f.references
rows_of (Closing s) f = f.closings

-- what stands, none where no row does
abbrev pub stands_in : Difference → Option Entry
stands_in (Meta s) = option_map meta_entry s.stands
stands_in (Branch s) = option_map branch_entry s.stands
stands_in (Teller s) = option_map teller_entry s.stands
stands_in (Account s) = option_map account_entry s.stands
stands_in (Posting s) = option_map posting_entry s.stands
stands_in (Request s) = option_map request_entry s.stands
stands_in (Floor s) = option_map floor_entry s.stands
stands_in (Reference s) = option_map listed_entry s.stands
stands_in (Closing s) = option_map closing_entry s.stands

-- and what is due
abbrev pub due_in : Difference → Option Entry
due_in (Meta s) = option_map meta_entry s.due
due_in (Branch s) = option_map branch_entry s.due
due_in (Teller s) = option_map teller_entry s.due
due_in (Account s) = option_map account_entry s.due
due_in (Posting s) = option_map posting_entry s.due
due_in (Request s) = option_map request_entry s.due
due_in (Floor s) = option_map floor_entry s.due
due_in (Reference s) = option_map listed_entry s.due
due_in (Closing s) = option_map closing_entry s.due

-- the rows of the tables that are compared before its table
abbrev pub rows_before : Difference → FileTables → List (List Entry)
rows_before (Meta s) f = []
rows_before (Branch s) f = f.metas ∷ []
rows_before (Floor s) f = f.metas ∷ f.branches ∷ []
rows_before (Request s) f = f.metas ∷ f.branches ∷ f.floors ∷ []
rows_before (Reference s) f = f.metas ∷ f.branches ∷ f.floors ∷ f.requests ∷ []
rows_before (Posting s) f = f.metas ∷ f.branches ∷ f.floors ∷ f.requests ∷ f.references ∷ []
rows_before (Account s) f = f.metas ∷ f.branches ∷ f.floors ∷ f.requests ∷ f.references ∷ f.history ∷ []
rows_before (Teller s) f =
    f.metas ∷ f.branches ∷ f.floors ∷ f.requests ∷ f.references ∷ f.history ∷ f.accounts ∷ []
rows_before (Closing s) f =
    f.metas ∷ f.branches ∷ f.floors ∷ f.requests ∷ f.references ∷ f.history ∷ f.accounts ∷ f.tellers ∷ []

-- those are the same, and it says the first rows of its table in which the two differ
pub record DiffersFirst (f due : FileTables) (d : Difference) : Type 0 where
  pub before : rows_before d f ≡ rows_before d due
  pub rows : DifferFirst entry_key (rows_of d f) (rows_of d due) (stands_in d) (due_in d)

-- it is the first between these rows and those of a bank that was given their requests
pub record DiffersFrom (f : FileTables) (d : Difference) : Type 0 where
  pub log : List Command
  pub replays : IsReplayOf f log
  pub tables : Tables
  pub are : AreTablesOf tables log
  pub first : DiffersFirst f (rows_due tables) d

-- ---- of two files

-- whatever rows the two have
abbrev pub DiffersBetween : Database → Database → Difference → Type 0
DiffersBetween db other d =
    (f due : FileTables) → HasTables db f → HasTables other due → DiffersFirst f due d
