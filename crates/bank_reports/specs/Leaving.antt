-- What a report leaves of a bank, whatever it answers.
use Rattle.std.specs.Prelude.{◌≡◌, ◌≢◌, List, Ok, Err, Result, ⊤}
use Rattle.sqlite.specs.{Effect.Database, State.HasCleanDisk, State.Survives}
use Rattle.sqlite_trees.specs.declared.store.Store.{Ghosts}
use Rattle.posting_rules.specs.declared.{fault.Fault.Fault, fault.Rule.Rule}
use Rattle.posting_rules.specs.declared.fault.Fault.TheVariants.{Damaged, Down, Memory, Store}
use Rattle.store_rows.specs.believed.BankTables.{history as history_table, reference as reference_table}
use Rattle.walked_rows.specs.{Broken.HasBroken, Pairs.HasPairs, Pairs.Pair}
use Rattle.bank_store.specs.believed.Seen.{bank_seen, connection_of, database_of, file_of}
use Rattle.bank_store.specs.Failures.{HasFailedToRead}
use Rattle.bank_store.specs.Seen.{fault_of}
use Rattle.bank_store.specs.Walks.{IsStill, IsUntouchedIfOpen}
use Rattle.bank_store.specs.declared.bank.Bank.{Bank}
use Rattle.bank_reports.specs.declared.fault.ReportFault.{ReportFault}
use Rattle.bank_reports.specs.declared.fault.ReportFault.TheVariants.{Bank as OfBank, NoAccount}
use Rattle.bank_reports.specs.Files.{HasBrokenRow, HasFile}
use Rattle.bank_reports.specs.Postings.{HasWritten}

-- a bank that was down, and no other, is told to be, and nothing is done
pub record TellsDown (was_down answered nothing_done : Type 0) : Type 0 where
  pub down : was_down → answered
  pub tried : answered → was_down
  pub idle : answered → nothing_done

-- a fault of the bank, as a report has it
abbrev pub as_report : Result (Unit {0}) Fault → Result (Unit {0}) ReportFault
as_report (Ok done) = Ok done
as_report (Err fault) = Err (OfBank fault)

-- Rows of a bank were read by what takes memory or doesn't: Has says which rows a database has, and Breaks which of
-- them break a rule.
pub record ReadsRows {S X : Type 0} (g : Ghosts S) (Has : Database → X → Type 0) (Breaks : X → Rule → Type 0)
    (takes_memory : Type 0) (old new : Bank S g) (end : Result (Unit {0}) ReportFault) : Type 0 where
  -- whether an account is open isn't asked
  pub found : end ≢ Err NoAccount
  pub frugal : end ≡ Err (OfBank Memory) → takes_memory
  -- Down is told of a bank that was down, and none goes down
  pub tried : end ≡ Err (OfBank Down) → (bank_seen g old).is_down
  pub up : fault_of new ≡ fault_of old
  -- the store is said to have failed where a read did
  pub store : end ≡ Err (OfBank Store) → HasCleanDisk (file_of new) → (rows : X) → Has (database_of g old) rows
      → HasFailedToRead g (connection_of old) (connection_of new)
  -- and rows are said to be damaged where they break that rule
  pub damage : (rule : Rule) → end ≡ Err (OfBank (Damaged rule)) → HasCleanDisk (file_of new) → (rows : X)
      → Has (database_of g old) rows → Breaks rows rule
  -- where all was read, or the writer failed, the connection sees what it saw, and else it does as long as the store
  -- is open
  pub still : HasCleanDisk (file_of new) → HasWritten end → IsStill (file_of old) (file_of new)
  pub undone : HasCleanDisk (file_of new) → IsUntouchedIfOpen (file_of old) (file_of new)
  -- a crash leaves what it could leave before
  pub survives : Survives (file_of old) (file_of new) (λ _. ⊥)

-- a database has these rows of history, each with its reference
abbrev pub HasStated : Database → List Pair → Type 0
HasStated db rows = HasPairs db history_table reference_table rows

-- rows of history were read, each with its reference; who visited them says which of them are damaged
abbrev pub ReadsPostings : {S : Type 0} (g : Ghosts S) (takes_memory : Type 0) (old new : Bank S g)
    → Result (Unit {0}) ReportFault → Type 0
ReadsPostings g takes_memory old new end = ReadsRows g HasStated (λ rows rule. ⊤) takes_memory old new end

-- the rows of one table were read, and of all five; none of it takes memory
abbrev pub ReadsTable : {S X : Type 0} (g : Ghosts S) → (Database → List X → Type 0) → (Rule → X → Type 0)
    → (old new : Bank S g) → Result (Unit {0}) ReportFault → Type 0
ReadsTable g Has Breaks old new end = ReadsRows g Has (λ rows rule. HasBroken (Breaks rule) rows) ⊥ old new end

abbrev pub ReadsFile : {S : Type 0} (g : Ghosts S) (old new : Bank S g) → Result (Unit {0}) ReportFault → Type 0
ReadsFile g old new end = ReadsRows g HasFile (λ f rule. HasBrokenRow rule f) ⊥ old new end
