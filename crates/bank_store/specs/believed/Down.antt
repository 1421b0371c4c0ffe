-- How a bank goes down, the error that it keeps, and what every call of it promises.
use Rattle.std.specs.Prelude.{◌≡◌, ℕ, List, length, Some, None, IsSome, IsTrue, Result, ⊤}
use Rattle.sqlite.specs.State.{HasCleanDisk}
use Rattle.sqlite.specs.declared.error.Error.{Error}
use Rattle.sqlite_trees.specs.declared.store.Store.{Ghosts}
use Rattle.posting_rules.specs.believed.Commands.{Command, Terms}
use Rattle.posting_rules.specs.believed.Counter.{Answers, IsCounterCall}
use Rattle.posting_rules.specs.declared.fault.Fault.{Fault}
use Rattle.posting_rules.specs.declared.fault.Fault.TheVariants as faults
use Rattle.posting_rules.specs.believed.Tables.{Tables}
use Rattle.posting_rules.specs.declared.fault.Rule.{Rule}
use Rattle.posting_batch.specs.believed.Batch.{AreReadyFor}
use Rattle.store_rows.specs.believed.Failures.{Additions}
use Rattle.bank_transactions.specs.believed.Stray.{IsDamage}
use Rattle.bank_transactions.specs.believed.Additions.{AddsBranch, AddsForRecords, AnyRow}
use Rattle.bank_transactions.specs.believed.Batches.{HasRoomFor}
use Rattle.posting_rules.specs.believed.AnyTables.{IsReadyToOpen}
use Rattle.bank_transactions.specs.believed.Causes.{HasFailedBetween, IsBrokenOrMet}
use Rattle.bank_store.specs.believed.Seen.{bank_seen, cause_of, connection_of, database_of, file_of}
use Rattle.bank_store.specs.declared.bank.Bank.{Bank}

-- The bank has an error for its cause. On an honest disk a call of `sqlite` failed with that error in
-- between: no error is made up, none says that there is no such row, and none says that the key of a new row
-- is taken. As long as the store is open, all that the file holds is as it was.
pub record KeepsCause {S : Type 0} (g : Ghosts S) (old new : Bank S g) : Type 0 where
  pub cause : IsSome (cause_of new)
  pub failed : HasCleanDisk (file_of new) → (e : Error) → cause_of new ≡ Some e
      → HasFailedBetween g (connection_of old) (connection_of new) e
  pub undone : HasCleanDisk (file_of new) → IsTrue (file_of new).is_open → database_of g new ≡ database_of g old

-- ---- the rule that is reported to be broken

-- if the fault is damage, this holds of its rule
abbrev pub OfDamage : Fault → (Rule → Type 0) → Type 0
OfDamage (faults.Damaged rule) P = P rule
OfDamage _ P = ⊤

-- they do; or a statement of the call met it as it wrote: the key of such a row is taken, or a row is missing
abbrev pub WasBrokenOrMet : {S : Type 0} (g : Ghosts S) → Additions → Bank S g → Bank S g → Rule → Type 0
WasBrokenOrMet g Adds old new rule =
    HasCleanDisk (file_of new) → IsBrokenOrMet g Adds (connection_of old) (connection_of new) rule

-- so of records: they do, where tables with room for these were shown, so that those weren't ready for them
pub record BreaksRule {S : Type 0} (g : Ghosts S) (records : List (List ℕ)) (old new : Bank S g) (rule : Rule)
    : Type 0 where
  pub met : WasBrokenOrMet g (AddsForRecords (database_of g old) records) old new rule
  pub broken : HasCleanDisk (file_of new) → (t : Tables) → (bank_seen g old).tables t
      → HasRoomFor (length records) t → IsDamage rule (database_of g old)
  pub unfit : HasCleanDisk (file_of new) → (t : Tables) → (bank_seen g old).tables t
      → ((count : ℕ) → AreReadyFor count t) → ⊥

-- so of an opening: they do, where tables were shown in which the branch is open, or none of its keys was taken
pub record BreaksOpening {S : Type 0} (g : Ghosts S) (branch : ℕ) (terms : Terms) (old new : Bank S g) (rule : Rule)
    : Type 0 where
  pub met : WasBrokenOrMet g (AddsBranch branch terms) old new rule
  pub broken : HasCleanDisk (file_of new) → (t : Tables) → (bank_seen g old).tables t
      → IsReadyToOpen branch terms t → IsDamage rule (database_of g old)

-- ---- a call

-- what a fault says of the call that it refused: of the store, the error that is the bank's cause; of damage,
-- the rule that is broken, and that the bank has no cause
abbrev pub bank_reason : {S : Type 0} (g : Ghosts S) → Fault → Bank S g → Bank S g → Type 0
bank_reason g faults.Memory old new = ⊤
bank_reason g faults.Store old new = KeepsCause g old new
bank_reason g faults.Down old new = ⊤
bank_reason g (faults.Damaged rule) old new = WasBrokenOrMet g AnyRow old new rule × (cause_of new ≡ None)

-- what every call of a bank in a file promises, whatever it answers
abbrev pub IsBankCall : {S X : Type 0} (g : Ghosts S) → Bank S g → Bank S g → List Command → Result X Fault
    → Type 0
IsBankCall g old new commands result =
    IsCounterCall (bank_seen g) (database_of g) (bank_reason g) old new commands result

-- the answer is one of whatever log the bank showed
abbrev pub AnswersBy : {S X : Type 0} (g : Ghosts S) → Bank S g → Bank S g → Result X Fault
    → (List Command → X → Type 0) → Type 0
AnswersBy g old new result IsAnswerOf = Answers (bank_seen g old) (bank_seen g new) result IsAnswerOf
