-- Which rows of a file are damaged for who replays it, and what a fault says of a bank that was read.
use Rattle.std.specs.Prelude.{◌≡◌, ◌⊎◌, ℕ, pos, int_lt, true, List, Result, IfErr, ⊤}
use Rattle.sqlite.specs.Effect.{Database}
use Rattle.sqlite.specs.State.{HasCleanDisk}
use Rattle.sqlite_trees.specs.declared.store.Store.{Ghosts}
use Rattle.posting_rules.specs.declared.fault.Fault.{Fault}
use Rattle.posting_rules.specs.declared.fault.Fault.TheVariants as faults
use Rattle.posting_rules.specs.declared.fault.Rule.{Rule}
use Rattle.posting_rules.specs.declared.fault.Rule.TheVariants.{Meta, Request}
use Rattle.sql_meanings.specs.believed.Entries.{Entry}
use Rattle.store_rows.specs.believed.Columns.{number_at}
use Rattle.walked_rows.specs.Broken.{HasBroken}
use Rattle.walked_rows.specs.KeptRows.{BreaksKept, KeptItem, kept_all}
use Rattle.walked_rows.specs.References.{listed_of}
use Rattle.walked_rows.specs.StepOutcomes.{BreaksBy}
use Rattle.walked_rows.specs.Stored.{account_of, branch_of, posting_of, request_of, teller_of}
use Rattle.walked_rows.specs.StoredBeside.{closing_of, floor_of, meta_of}
use Rattle.bank_store.specs.Failures.{HasFailedToRead}
use Rattle.bank_store.specs.believed.Seen.{bank_seen, connection_of, database_of, file_of}
use Rattle.bank_store.specs.declared.bank.Bank.{Bank}
use Rattle.bank_replays.specs.FileTables.{FileTables, HasTables}
use Rattle.walked_rows.specs.Requests.{IsAnsweredRow}
use Rattle.bank_replays.specs.declared.fault.ReplayFault.{ReplayFault}
use Rattle.bank_replays.specs.declared.fault.ReplayFault.TheVariants.{Bank as OfBank, Write}

-- the kept row can't be read, or it isn't that of a request with its reply
abbrev pub BreaksAnswered : Rule → KeptItem → Type 0
BreaksAnswered rule k = BreaksKept rule k ⊎ ((rule ≡ Request) × (IsAnsweredRow k → ⊥))

-- one of a file's rows can't be read, by this rule, or a kept row is that of no request and reply
abbrev pub HasBrokenRow : Rule → FileTables → Type 0
HasBrokenRow rule f =
    HasBroken (BreaksBy meta_of rule) f.metas ⊎ HasBroken (BreaksBy branch_of rule) f.branches
    ⊎ HasBroken (BreaksBy teller_of rule) f.tellers ⊎ HasBroken (BreaksBy account_of rule) f.accounts
    ⊎ HasBroken (BreaksBy posting_of rule) f.history ⊎ HasBroken (BreaksBy request_of rule) f.requests
    ⊎ HasBroken (BreaksBy floor_of rule) f.floors ⊎ HasBroken (BreaksBy listed_of rule) f.references
    ⊎ HasBroken (BreaksBy closing_of rule) f.closings
    ⊎ HasBroken (BreaksAnswered rule) (kept_all f.history f.references f.requests)

-- where a file has these rows, rows of a kind that break the rule so are among them
abbrev pub AreHeld : {X : Type 0} → (Database → List X → Type 0) → (Rule → X → Type 0) → Type 0
AreHeld {X} HasItems Breaks =
    (db : Database) (f : FileTables) → HasTables db f
    → (all : List X) × HasItems db all × ((rule : Rule) → HasBroken (Breaks rule) all → HasBrokenRow rule f)

-- ---- what a fault says

-- of rows that were to come: one breaks the rule, or a read failed, or the bank was down
abbrev pub Stops : {X : Type 0} → (Rule → X → Type 0) → (Failed WasDown : Type 0) → List X → Fault → Type 0
Stops Breaks Failed WasDown coming faults.Memory = ⊤
Stops Breaks Failed WasDown coming faults.Store = Failed
Stops Breaks Failed WasDown coming faults.Down = WasDown
Stops Breaks Failed WasDown coming (faults.Damaged rule) = HasBroken (Breaks rule) coming

-- of a file: a row breaks the rule, or a read failed, or the bank was down
abbrev pub Tells : {S : Type 0} (g : Ghosts S) → Bank S g → Bank S g → FileTables → Fault → Type 0
Tells g old new f faults.Memory = ⊤
Tells g old new f faults.Store = HasFailedToRead g (connection_of old) (connection_of new)
Tells g old new f faults.Down = (bank_seen g old).is_down
Tells g old new f (faults.Damaged rule) = HasBrokenRow rule f

-- the bank's fault, of which the writer's tells nothing
abbrev pub fault_in : ReplayFault → Fault
fault_in Write = faults.Memory
fault_in (OfBank fault) = fault

-- a bank was read, whatever rows it has, and a fault says so
pub record TellsWhy {S X E : Type 0} (g : Ghosts S) (fault_of : E → Fault) (old new : Bank S g) (result : Result X E)
    : Type 0 where
  pub answers : HasCleanDisk (file_of new) → (f : FileTables) → HasTables (database_of g old) f
      → IfErr result (λ e. Tells g old new f (fault_of e))

-- the row of meta counts fewer requests than none
abbrev pub CountsBelowZero : Entry → Type 0
CountsBelowZero row = int_lt (number_at 1 row) (pos 0) ≡ true

-- The same of who counts the requests; or, by the rule of meta, a row of it counts fewer than none.
pub record TellsCount {S : Type 0} (g : Ghosts S) (old new : Bank S g) (result : Result ℕ Fault) : Type 0 where
  pub answers : HasCleanDisk (file_of new) → (f : FileTables) → HasTables (database_of g old) f
      → IfErr result (λ fault. Tells g old new f fault
      ⊎ ((fault ≡ faults.Damaged Meta) × HasBroken CountsBelowZero f.metas))
