-- Commands that are kept together or not at all, and what records leave of tables, of a log or not.
use Rattle.std.specs.Prelude.{◌≡◌, ◌⊎◌, ℕ, List, [], ◌∷◌, IfOk, Ok, Result, length}
use Rattle.sqlite.specs.State.{Survives}
use Rattle.sqlite.specs.Tree.{Trees}
use Rattle.message_records.specs.believed.{Reading.request_of, Records.RequestFields}
use Rattle.posting_rules.specs.believed.AnyTables.{AnswersByTables, IsReadyToOpen}
use Rattle.posting_rules.specs.believed.Changes.{replies_past_all, tables_closed, tables_opened, tables_past_all}
use Rattle.posting_rules.specs.believed.Commands.{Command, Terms}
use Rattle.posting_rules.specs.believed.Counter.{Seen, LeavesOnly, StandsAt}
use Rattle.posting_rules.specs.believed.Runs.{followed_by}
use Rattle.posting_rules.specs.believed.Tables.{Tables, AreTablesOf}
use Rattle.posting_rules.specs.declared.{closed_numbers.Closing.Closing, fault.Fault.Fault, rows.ClosingRow.ClosingRow}
use Rattle.bank_transactions.specs.believed.{Additions.AddsClosing, Closed.AreClosed}
use Rattle.bank_transactions.specs.believed.Answered.{ClosesAll, KeepsClosing}
use Rattle.bank_transactions.specs.believed.Batches.{DecidesNone, HasRoomFor}
use Rattle.sqlite_trees.specs.declared.store.Store.{Ghosts}
use Rattle.bank_store.specs.believed.Down.{BreaksOpening, BreaksRule, OfDamage, WasBrokenOrMet}
use Rattle.bank_store.specs.believed.Seen.{bank_seen, database_of, file_of}
use Rattle.bank_store.specs.declared.bank.Bank.{Bank}

-- Whatever rows the file holds: what an answer says, and what a crash may leave besides what it could leave before.
pub record OnAnyRows {S X : Type 0} (g : Ghosts S) (old new : Bank S g) (Said : X → Type 0) (IsWhole : Trees → Type 0)
    (result : Result X Fault) : Type 0 where
  pub answers : IfOk result (λ x. (bank_seen g new).honest → Said x)
  pub whole : Survives (file_of old) (file_of new) IsWhole

-- wherever the counter stood at a log, everything that a crash may leave now shows the log, or the log with
-- all the commands after it
abbrev pub LeavesNoneOrAll : Seen → Seen → List Command → Type 0
LeavesNoneOrAll old new commands =
    new.honest → (log : List Command) → StandsAt old log
    → LeavesOnly new (λ t. AreTablesOf t log ⊎ AreTablesOf t (followed_by log commands))

-- everything that a crash could leave had the first tables, and everything that it may leave now has them, or the
-- second
abbrev pub LeavesEither : {S : Type 0} (g : Ghosts S) → Bank S g → Bank S g → Tables → Tables → Type 0
LeavesEither g old new t u = (bank_seen g new).honest → LeavesOnly (bank_seen g old) (λ left. left ≡ t)
    → LeavesOnly (bank_seen g new) (λ left. (left ≡ t) ⊎ (left ≡ u))

-- What a fault says by which records were refused: damage, which rule is broken. On tables with room for the records,
-- of a log or not, a crash leaves all that they leave, or nothing of it.
pub record RefusesRecords {S : Type 0} (g : Ghosts S) (moment : ℕ) (records : List (List ℕ)) (old new : Bank S g)
    (fault : Fault) : Type 0 where
  pub damage : OfDamage fault (BreaksRule g records old new)
  pub left : (t : Tables) → (bank_seen g old).tables t → HasRoomFor (length records) t
      → LeavesEither g old new t (tables_past_all t moment records)

-- so of an opening, on tables in which the branch is open, or none of its keys was taken
pub record RefusesOpening {S : Type 0} (g : Ghosts S) (branch : ℕ) (terms : Terms) (old new : Bank S g) (fault : Fault)
    : Type 0 where
  pub damage : OfDamage fault (BreaksOpening g branch terms old new)
  pub left : (t : Tables) → (bank_seen g old).tables t → IsReadyToOpen branch terms t
      → LeavesEither g old new t (tables_opened t branch terms)

-- Whatever rows the file holds: the answer to a closing, the row that is put in, and what a crash may leave.
abbrev pub ClosesOnAnyRows : {S : Type 0} (g : Ghosts S) → Bank S g → Bank S g → ClosingRow → Result Closing Fault → Type 0
ClosesOnAnyRows g old new row result = OnAnyRows g old new (ClosesAll (database_of g old) (database_of g new) row)
    (KeepsClosing (database_of g old) row) result

-- so of a closing, on tables whose closed rows share no number
pub record RefusesClosing {S : Type 0} (g : Ghosts S) (row : ClosingRow) (old new : Bank S g) (fault : Fault) : Type 0 where
  pub damage : OfDamage fault (WasBrokenOrMet g (AddsClosing row) old new)
  pub left : (t : Tables) → (bank_seen g old).tables t → AreClosed t.closings
      → LeavesEither g old new t (tables_closed t row.first row.last)

-- on these tables, of a log or not, an answered call left what the records leave of them, and everything that a crash
-- may leave has that alone; the replies are those to the records
pub record LeavesRecords {S : Type 0} (g : Ghosts S) (new : Bank S g) (t : Tables) (moment : ℕ)
    (records replies : List (List ℕ)) : Type 0 where
  pub tables : (bank_seen g new).tables (tables_past_all t moment records)
  pub survives : LeavesOnly (bank_seen g new) (λ left. left ≡ tables_past_all t moment records)
  pub answers : replies ≡ replies_past_all t moment records

-- So it is with one record that was answered, a request; and be it one or not, on tables with room it was answered as every
-- counter does.
pub record LeavesOne {S : Type 0} (g : Ghosts S) (old new : Bank S g) (moment : ℕ) (bytes reply : List ℕ) : Type 0 where
  pub by_tables : AnswersByTables (bank_seen g old) (bank_seen g new) moment (bytes ∷ []) (reply ∷ [])
  pub one : (bank_seen g new).honest → (r : RequestFields) → request_of bytes ≡ Ok r → (t : Tables)
      → (bank_seen g old).tables t → HasRoomFor 1 t → LeavesRecords g new t moment (bytes ∷ []) (reply ∷ [])

-- where none of them is decided, those are the tables that there were, and all that the file holds is as it was
pub record LeavesBatch {S : Type 0} (g : Ghosts S) (old new : Bank S g) (t : Tables) (moment : ℕ)
    (records replies : List (List ℕ)) : Type 0 where
  pub leaves : LeavesRecords g new t moment records replies
  pub idle : DecidesNone t moment records
      → (tables_past_all t moment records ≡ t) × (database_of g new ≡ database_of g old)

-- so it is with a batch that was answered
pub record LeavesAll {S : Type 0} (g : Ghosts S) (old new : Bank S g) (moment : ℕ) (records replies : List (List ℕ))
    : Type 0 where
  pub by_tables : AnswersByTables (bank_seen g old) (bank_seen g new) moment records replies
  pub all : (bank_seen g new).honest → (t : Tables) → (bank_seen g old).tables t → HasRoomFor (length records) t
      → LeavesBatch g old new t moment records replies
