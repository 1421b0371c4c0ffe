-- What reads leave of a bank, whatever they answered.
use Rattle.std.specs.Prelude.{◌≡◌, List, [], IsTrue, OnOk, Result}
use Rattle.sqlite.specs.State.{HasCleanDisk, Survives}
use Rattle.sqlite_trees.specs.declared.store.Store.{Ghosts}
use Rattle.posting_rules.specs.believed.Commands.{Command}
use Rattle.posting_rules.specs.believed.Counter.{Seen, LeavesOnly, StandsAt, Takes}
use Rattle.posting_rules.specs.Counter.{StaysByTables}
use Rattle.posting_rules.specs.believed.Tables.{AreTablesOf}
use Rattle.posting_rules.specs.declared.fault.Fault.{Fault}
use Rattle.bank_store.specs.believed.Seen.{bank_seen, database_of, file_of}
use Rattle.bank_store.specs.declared.bank.Bank.{Bank}

-- the bank was given no command
pub record TakesNone (old new : Seen) (answered : Type 0) : Type 0 where
  -- where it was answered, the bank shows what it showed, and stands where it stood
  pub done : answered → Takes old new []
  -- whatever was answered, a crash leaves what shows the log
  pub survives : new.honest → (log : List Command) → StandsAt old log
      → LeavesOnly new (λ t. AreTablesOf t log)
  -- a disk that is honest yet was so before
  pub honest : new.honest → old.honest

-- as long as the store is open, a bank that isn't down stands where it stood
abbrev pub StandsWhileOpen : {S : Type 0} (g : Ghosts S) → Bank S g → Bank S g → Type 0
StandsWhileOpen g old new =
    (bank_seen g new).honest → ((bank_seen g new).is_down → ⊥) → IsTrue (file_of new).is_open
    → (log : List Command) → StandsAt (bank_seen g old) log → StandsAt (bank_seen g new) log

-- Whatever rows it has: as long as the store is open, the database is the one that was found, and a crash leaves what
-- it could leave before.
pub record LeavesAsFound {S : Type 0} (g : Ghosts S) (old new : Bank S g) : Type 0 where
  pub now : HasCleanDisk (file_of new) → IsTrue (file_of new).is_open → database_of g new ≡ database_of g old
  pub left : Survives (file_of old) (file_of new) (λ _. ⊥)

-- The same of calls that commit what they read: a crash leaves what it could leave before, or the database that was
-- found.
pub record CommitsAsFound {S : Type 0} (g : Ghosts S) (old new : Bank S g) : Type 0 where
  pub now : HasCleanDisk (file_of new) → IsTrue (file_of new).is_open → database_of g new ≡ database_of g old
  pub left : Survives (file_of old) (file_of new) (λ trees. trees ≡ (database_of g old).trees)

-- and once it was answered, the database is that one, be the store open or not, and so are the tables that it shows
pub record OnlyReads {S X : Type 0} (g : Ghosts S) (old new : Bank S g) (result : Result X Fault) : Type 0 where
  pub still : OnOk result (HasCleanDisk (file_of new) → database_of g new ≡ database_of g old)
  pub by_tables : OnOk result (StaysByTables (bank_seen g old) (bank_seen g new))
  pub leaves : CommitsAsFound g old new
