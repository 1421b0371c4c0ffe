-- What a try leaves that was given up: a batch that was done as if none of its requests were kept.
use Rattle.std.specs.Prelude.{◌≡◌, ℕ, IsTrue, false, true, Bool, List, [], ◌∷◌, Option, Some, None, Result, Ok, Err}
use Rattle.std.specs.Prelude.{is_some}
use Rattle.sqlite.specs.State.{HasCleanDisk, Survives}
use Rattle.sqlite.specs.Held.{Held, state}
use Rattle.sqlite.specs.declared.error.Error.TheVariants.{SqliteFailure}
use Rattle.sqlite.specs.declared.error.ErrorCode.TheVariants.{ConstraintViolation}
use Rattle.sql_meanings.specs.Names.{Unique}
use Rattle.sqlite_trees.specs.declared.store.Store.{Ghosts}
use Rattle.posting_rules.specs.believed.LookUps.{kept_in}
use Rattle.posting_rules.specs.believed.Tables.{Tables}
use Rattle.posting_batch.specs.View.{IsMadeOf, reads_of}
use Rattle.posting_batch.specs.declared.batch.Batch.{Batch}
use Rattle.posting_batch.specs.declared.slots.RequestSlot.{RequestSlot}
use Rattle.store_rows.specs.declared.fault.TableFault.{TableFault}
use Rattle.store_rows.specs.declared.fault.TableFault.TheVariants.{Sqlite, Damaged}
use Rattle.bank_transactions.specs.declared.first_try.Tried.{Tried}
use Rattle.bank_transactions.specs.declared.first_try.Tried.TheVariants.{Answered, Again}

-- the store is open as it was, it shows what it showed, and a crash leaves what it could leave
pub record IsAsBefore {S : Type 0} (g : Ghosts S) (old new : Held S) : Type 0 where
  pub mode : new.in_transaction ≡ false
  pub survives : Survives (state g old) (state g new) (λ _. ⊥)
  pub same : HasCleanDisk (state g new)
      → IsTrue (state g new).is_open × IsTrue (state g old).is_open × ((state g new).now ≡ (state g old).now)

-- a batch made of what another was made of
pub record IsMadeAgain (batch again : Batch) : Type 0 where
  pub reads : reads_of again ≡ reads_of batch
  pub made : (records : List (List ℕ)) → IsMadeOf batch records → IsMadeOf again records

-- what the try answered, unless it was given up
abbrev pub answer_of : Result Tried TableFault → Option (Result (List (List ℕ)) TableFault)
answer_of (Ok (Answered replies)) = Some (Ok replies.items)
answer_of (Ok (Again batch)) = None
answer_of (Err fault) = Some (Err fault)

-- its replies, if it has answered
abbrev pub replies_of : Result Tried TableFault → Option (List (List ℕ))
replies_of (Ok (Answered replies)) = Some replies.items
replies_of (Ok (Again batch)) = None
replies_of (Err fault) = None

-- the batch of one that was given up
abbrev pub batch_of : Result Tried TableFault → Option Batch
batch_of (Ok (Answered replies)) = None
batch_of (Ok (Again batch)) = Some batch
batch_of (Err fault) = None

-- a request that wasn't put in may be kept, or its ordinal is taken
abbrev pub may_be_kept : TableFault → Bool
may_be_kept (Damaged rule) = true
may_be_kept (Sqlite (SqliteFailure (ConstraintViolation Unique))) = true
may_be_kept (Sqlite _) = false

-- whether the first of these requests is kept
abbrev pub first_kept : Tables → List RequestSlot → Bool
first_kept t [] = false
first_kept t (s ∷ slots) = is_some (kept_in t.requests t.references s.teller s.number)
