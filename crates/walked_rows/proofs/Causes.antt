-- Why rows couldn't be read, one read after the other.
use Rattle.std.proofs.Common.{ℕ, List, [], ◌∷◌, Ok, Err, Option, Result, refl, inl}
use Rattle.std.specs.Prelude.{IfErr, ℤ}
use Rattle.std.proofs.Math.Nat.{le_refl}
use Rattle.sqlite.specs.Held.{Held, state}
use Rattle.sqlite.specs.{Order.Row, State.State, State.Survives, declared.error.Error.Error}
use Rattle.sqlite_trees.specs.declared.store.Store.{Ghosts}
use Rattle.sqlite_trees.specs.View.{doubt}
use Rattle.sql_meanings.proofs.Saying.{survives_both}
use Rattle.store_rows.specs.believed.Failures.{HasFailed}
use Rattle.store_rows.specs.declared.fault.TableFault.{TableFault, TheVariants.Sqlite, TheVariants.Damaged}
use Rattle.walked_rows.specs.{Causes.HasItsCause, Causes.IsOfRows, Kinds.Kind, References.ReadsFirst}
use Rattle.walked_rows.specs.StepOutcomes.{ReadsNext}

-- ---- what is made of rows that were found

pub next_rows : {R : Type 0} (kind : Kind R) (next : ℤ) (row : Row) (fault : TableFault)
    → ReadsNext kind next row (Err fault) → IsOfRows fault
next_rows kind next row (Sqlite e) reads = reads
next_rows kind next row (Damaged rule) reads = tt

pub first_rows : (found : List Row) (r : Result (Option (List ℕ)) TableFault) → ReadsFirst found r → IfErr r IsOfRows
first_rows found (Ok text) reads = tt
first_rows found (Err (Damaged rule)) reads = tt
first_rows [] (Err (Sqlite e)) reads = cc
first_rows (row ∷ more) (Err (Sqlite e)) reads = reads

-- ---- calls

pub nothing_called : (s : State) → Survives s s (λ _. ⊥)
nothing_called s = record {
  clean = le_refl (doubt s.is_clean);
  shield = λ h. h;
  counts = le_refl s.faults;
  limit = refl;
  closes = λ clean was. inl was;
  crash = λ clean left may. inl may;
}

module _ {S : Type 0} (g : Ghosts S) (old new : Held S) where
  -- the call is the only one
  pub cause_here : (e : Error) → HasFailed (state g old) (state g new) e → HasItsCause g old new (Sqlite e)
  cause_here e failed = record { at = old; before = nothing_called (state g old); failed = failed }

  -- the rows are at fault
  pub no_cause : (fault : TableFault) → IsOfRows fault → HasItsCause g old new fault
  no_cause (Sqlite e) is = absurd is
  no_cause (Damaged rule) is = tt

-- others came before it
pub cause_on : {S : Type 0} (g : Ghosts S) (old mid new : Held S) → Survives (state g old) (state g mid) (λ _. ⊥)
    → (fault : TableFault) → HasItsCause g mid new fault → HasItsCause g old new fault
cause_on g old mid new before (Sqlite e) it = record {
  at = it.at;
  before = survives_both (state g old) (state g mid) (state g it.at) before it.before;
  failed = it.failed;
}
cause_on g old mid new before (Damaged rule) it = tt
