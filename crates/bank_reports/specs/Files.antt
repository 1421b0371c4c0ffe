-- The rows that an audit reads of a file.
use Rattle.std.specs.Prelude.{◌⊎◌, List, map}
use Rattle.sqlite.specs.Effect.{Database}
use Rattle.posting_rules.specs.declared.fault.Rule.{Rule}
use Rattle.sql_meanings.specs.believed.Entries.{Entry}
use Rattle.store_rows.specs.believed.BankTables.{account as account_table, branch as branch_table}
use Rattle.store_rows.specs.believed.BankTables.{history as history_table}
use Rattle.store_rows.specs.believed.BankTables.{request as request_table, teller as teller_table}
use Rattle.walked_rows.specs.Broken.{HasBroken}
use Rattle.walked_rows.specs.Rows.{HasStoredRows}
use Rattle.walked_rows.specs.StepOutcomes.{BreaksBy}
use Rattle.walked_rows.specs.Stored.{account_entry, branch_entry, posting_entry, request_entry, teller_entry}
use Rattle.walked_rows.specs.Stored.{account_of, branch_of, posting_of, request_of, teller_of}
use Rattle.report_contents.specs.Stored.{StoredTables}

-- the rows of five tables
pub record FileRows : Type 0 where
  pub branches : List Entry
  pub tellers : List Entry
  pub accounts : List Entry
  pub history : List Entry
  pub requests : List Entry

-- a sound database has these rows
pub record HasFile (db : Database) (f : FileRows) : Type 0 where
  pub branches : HasStoredRows db branch_table f.branches
  pub tellers : HasStoredRows db teller_table f.tellers
  pub accounts : HasStoredRows db account_table f.accounts
  pub history : HasStoredRows db history_table f.history
  pub requests : HasStoredRows db request_table f.requests

-- the rows of stored tables
abbrev pub rows_in : StoredTables → FileRows
rows_in t = record {
  branches = map branch_entry t.branches;
  tellers = map teller_entry t.tellers;
  accounts = map account_entry t.accounts;
  history = map posting_entry t.history;
  requests = map request_entry t.requests;
}

-- a key, a count of accounts or a moment is out of its range, so that a row is read as damage of this rule
abbrev pub HasBrokenRow : Rule → FileRows → Type 0
HasBrokenRow broken f =
    HasBroken (BreaksBy branch_of broken) f.branches ⊎ HasBroken (BreaksBy teller_of broken) f.tellers
    ⊎ HasBroken (BreaksBy account_of broken) f.accounts ⊎ HasBroken (BreaksBy posting_of broken) f.history
    ⊎ HasBroken (BreaksBy request_of broken) f.requests
