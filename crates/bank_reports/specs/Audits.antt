-- What an audit says of a bank, and of any file.
use Rattle.std.specs.Prelude.{◌≡◌, ◌↔◌, ◌≤ℤ◌, List, Result, Ok, Err, IfOk, IfSome, IsTrue, OnOk, ⊤}
use Rattle.std.specs.List.{Contains}
use Rattle.sqlite_trees.specs.declared.store.Store.{Ghosts}
use Rattle.posting_rules.specs.believed.Commands.{Command, AreCommands}
use Rattle.posting_rules.specs.believed.Counter.{Seen, ShowsLog}
use Rattle.posting_rules.specs.believed.Laws.{IsConsistent}
use Rattle.posting_rules.specs.believed.LookUps.{floor_in}
use Rattle.posting_rules.specs.believed.Numbering.{branch_of_account}
use Rattle.posting_rules.specs.declared.rows.AccountRow.{AccountRow}
use Rattle.posting_rules.specs.believed.Tables.{AreTablesOf, Tables}
use Rattle.posting_rules.specs.declared.fault.Fault.{Fault}
use Rattle.posting_rules.specs.declared.fault.Fault.TheVariants.{Damaged, Store}
use Rattle.posting_rules.specs.declared.fault.Rule.{Rule}
use Rattle.report_contents.specs.Audit.{audit_of, is_sound}
use Rattle.report_contents.specs.Consistency.{IsSoundFile}
use Rattle.report_contents.specs.Stored.{StoredTables, stored}
use Rattle.report_contents.specs.declared.audit.Audit.{Audit}
use Rattle.bank_store.specs.believed.Seen.{connection_of, database_of}
use Rattle.bank_store.specs.declared.bank.Bank.{Bank}
use Rattle.bank_reports.specs.Differing.{EachPostedOnce}
use Rattle.bank_store.specs.Failures.{HasFailedToRead}
use Rattle.bank_reports.specs.Files.{FileRows, HasBrokenRow, HasFile, rows_in}
use Rattle.bank_store.specs.Leaving.{TakesNone}

-- the bank returned no fault
abbrev pub HasAudited : Result Audit Fault → Type 0
HasAudited (Ok a) = ⊤
HasAudited (Err fault) = ⊥

-- no account is below the floor of its branch
abbrev pub AccountsAreAbove : Tables → Type 0
AccountsAreAbove t = (r : AccountRow) → Contains t.accounts r
    → IfSome (floor_in t (branch_of_account r.account)) (λ floor. floor ≤ℤ r.balance)

-- a bank was audited
pub record Audits (old new : Seen) (end : Result Audit Fault) : Type 0 where
  -- of its tables, be they of a log or not, the audit is theirs
  pub tables : new.honest → (t : Tables) → old.tables t → IfOk end (λ a. a ≡ audit_of (stored t))
  -- and says whether they are consistent (TPC-B clause 2)
  pub condition : new.honest → (t : Tables) → old.tables t
      → IfOk end (λ a. IsTrue (is_sound a) ↔ IsConsistent t)
  -- where they are of a log, no two posted requests share teller and number
  pub once : OnOk end (new.honest → (log : List Command) → (t : Tables) → old.tables t
      → AreTablesOf t log → EachPostedOnce t)
  -- and each account is at its floor or above it
  pub above : OnOk end (new.honest → (log : List Command) → AreCommands log → (t : Tables) → old.tables t
      → AreTablesOf t log → AccountsAreAbove t)
  -- a bank that shows a log is consistent
  pub balanced : new.honest → (log : List Command) → ShowsLog old log → IfOk end (λ a. IsTrue (is_sound a))
  -- and is never told to be damaged
  pub sound : (rule : Rule) → end ≡ Err (Damaged rule) → new.honest → (log : List Command) → ShowsLog old log
      → ⊥
  pub takes : TakesNone old new (HasAudited end)

-- a file was audited, whatever rows it has
pub record AuditsFile {S : Type 0} (g : Ghosts S) (old new : Bank S g) (end : Result Audit Fault)
    : Type 0 where
  -- the audit is that of its rows
  pub numbers : (f : FileRows) → HasFile (database_of g old) f
      → IfOk end (λ a. (t : StoredTables) × (rows_in t ≡ f) × (a ≡ audit_of t))
  -- and says whether they are consistent
  pub consistent : (t : StoredTables) → HasFile (database_of g old) (rows_in t)
      → IfOk end (λ a. IsTrue (is_sound a) ↔ IsSoundFile t)
  -- it is told to be damaged where a number of a row is out of its range
  pub damaged : (rule : Rule) → end ≡ Err (Damaged rule) → (f : FileRows) → HasFile (database_of g old) f
      → HasBrokenRow rule f
  -- the store is said to have failed where a read did
  pub store : end ≡ Err Store → (f : FileRows) → HasFile (database_of g old) f
      → HasFailedToRead g (connection_of old) (connection_of new)
