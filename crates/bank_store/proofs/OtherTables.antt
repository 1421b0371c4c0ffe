-- What a call leaves of the tables of other products.
use Rattle.std.proofs.Common.{◌∙◌, Bool, true, false, Option, Ok, Err, refl, arith, inl, inr}
use Rattle.std.specs.Prelude.{IsSome}
use Rattle.sqlite.specs.{State.State, State.HasCleanDisk, State.IsUnchanged, State.Survives, Held.Held, Held.state}
use Rattle.sqlite.specs.Table.{Table}
use Rattle.sqlite.proofs.StateLemmas.{survives_then}
use Rattle.sqlite_trees.specs.declared.store.Store.{Ghosts}
use Rattle.posting_rules.specs.declared.fault.Fault.{Fault}
use Rattle.sql_meanings.specs.StatementAnswers.{TellsProbe}
use Rattle.sql_meanings.proofs.Sparing.{spares_same}
use Rattle.store_rows.specs.believed.Sparing.{bank_names}
use Rattle.store_rows.specs.declared.fault.TableFault.{TableFault, TheVariants.Sqlite, TheVariants.Damaged}
use Rattle.bank_transactions.specs.{believed.Doing.LeavesOthers, Doing.SparesTheirs, Undone.UndoesFaults}
use Rattle.bank_store.specs.{Down.GoesDown, believed.BankSparing.SparesOtherTables}
use Rattle.bank_store.specs.{Walks.IsUntouchedIfOpen, declared.bank.Bank.Bank, SparedTables.spared_itself}
use Rattle.bank_store.specs.believed.Seen.{bank_seen, connection_of, database_of, file_of}
use Rattle.bank_store.specs.Seen.{fault_of}

-- a call that tried nothing, or read nothing of the file
pub spares_untouched : {S : Type 0} (g : Ghosts S) (bank : Bank S g) → SparesOtherTables g bank bank
spares_untouched g bank = spared_itself (λ b. (bank_seen g b).is_down) file_of bank

-- a call that was answered
pub spares_done : {S X : Type 0} (g : Ghosts S) (old new : Bank S g) (x : X) → ((bank_seen g old).is_down → ⊥)
    → SparesTheirs g (connection_of old) (connection_of new) (Ok x) → SparesOtherTables g old new
spares_done g old new x up spares =
    record { untried = λ down. absurd (up down); now = λ clean shown. spares.now clean; left = spares.left }

-- a bank that goes down keeps what brought it down
goes_down : (old new : State) (e : TableFault) (cause : Option TableFault) (refused : Fault)
    → GoesDown old new e cause refused → IsSome cause
goes_down old new (Sqlite e) cause refused went = rw went.0 refl
goes_down old new (Damaged rule) cause refused (inl went) = rw went.0 refl
goes_down old new (Damaged rule) cause refused (inr went) = rw went.1.1 refl

-- a call that a fault brought down
pub spares_down : {S X : Type 0} (g : Ghosts S) (old new : Bank S g) (mid : Held S) (e : TableFault) (refused : Fault)
    → ((bank_seen g old).is_down → ⊥) → SparesTheirs {X = X} g (connection_of old) mid (Err e)
    → UndoesFaults {X = X} g (connection_of old) mid (Err e)
    → GoesDown (state g mid) (file_of new) e (fault_of new) refused
    → (HasCleanDisk (file_of new) → IsUntouchedIfOpen (state g mid) (file_of new))
    → Survives (state g mid) (file_of new) (λ _. ⊥) → SparesOtherTables g old new
spares_down g old new mid e refused up spares undone went quiet none = record {
  untried = λ down. absurd (up down);
  now = λ clean shown.
      let same = quiet clean (shown (goes_down (state g mid) (file_of new) e (fault_of new) refused went)) in
      spares_same bank_names (database_of g old) (database_of g new)
      (same.now_is ∙ (undone (omega (arith, none.clean, clean)) same.was_open).1);
  left = survives_then (file_of old) (state g mid) (file_of new)
      (LeavesOthers (database_of g old)) (λ _. ⊥) (LeavesOthers (database_of g old))
      (λ clean db h. h) (λ clean db left. absurd left) spares.left none;
}

-- a probe that was answered changed nothing
pub probe_unchanged : (old new : State) (table : Table) (there : Bool) → TellsProbe old new table (Ok there)
    → IsUnchanged old new
probe_unchanged old new table true answers = answers.1
probe_unchanged old new table false answers = answers.1
