-- A connection that was given back shows what it showed.
use Rattle.std.proofs.Common.{◌≡◌, Result, Ok, Err, true, false, refl, sym, ap, subst, arith, inl, inr, ◌∙◌}
use Rattle.std.specs.Prelude.{◌≢◌, IsTrue}
use Rattle.sqlite.specs.{Held.Held, Held.state, Tree.Trees, declared.error.Error.Error}
use Rattle.sqlite.specs.State.{State, Fails, HasCleanDisk, IsRolledBack, KeepsCommit, Survives}
use Rattle.sqlite.proofs.{Callers.survives_begin, StateLemmas.survives_then}
use Rattle.sqlite_trees.specs.declared.store.Store.{Ghosts}
use Rattle.store_rows.specs.{Failures.Looks, declared.fault.TableFault.TableFault}
use Rattle.bank_store.specs.Connections.{IsAsBefore, IsReadOnly, IsUndoneIfOpen}
use Rattle.posting_rules.specs.declared.open_fault.OpenFault.{OpenFault}
use Rattle.posting_rules.specs.declared.open_fault.OpenFault.TheVariants.{Store}

module _ (old new : State) where
  pub as_it_was : (fault : OpenFault) → IsReadOnly {X = Unit {0}} old new (Err fault) → fault ≢ Store
      → IsAsBefore old new
  as_it_was Store reads other = absurd (other refl)
  as_it_was rest reads other = reads

  pub undone_if_open : (fault : OpenFault) → IsReadOnly {X = Unit {0}} old new (Err fault)
      → IsUndoneIfOpen old new
  undone_if_open Store reads = reads
  undone_if_open other reads = λ _. reads

  pub read_only : {X : Type 0} (r : Result X OpenFault) → IsAsBefore old new → IsReadOnly old new r
  read_only (Err Store) same = λ _. same
  read_only other same = same

-- a failure goes back to what was committed, as the connection showed before
pub back : (old mid new : State) (e : Error) → (IsTrue old.is_open → old.now ≡ old.committed)
    → IsUndoneIfOpen old mid → new.in_transaction ≡ old.in_transaction → Fails mid new ⊥ e
    → IsUndoneIfOpen old new
back old mid new e settled undone mode fails = λ still.
    let first = undone (fails.3.was_open still) in
    let then = fails.3.undone still in
    record {
      was_open = first.was_open;
      is_open = still;
      now_is = then.0 ∙ first.committed_is ∙ sym (settled first.was_open);
      committed_is = then.1 ∙ first.committed_is;
      mode = mode;
    }

-- the connection, its transaction as it begins and after its parts, the connection after it
module _ {S : Type 0} (g : Ghosts S) (old begun last new : Held S)
    (is : begun ≡ record old { in_transaction = true }) where
  pub live : IsTrue (state g begun).in_transaction
  live = ap (λ (h : Held S). h.in_transaction) is

  -- what is undone is as it was
  pub undone_begun : old.in_transaction ≡ false
      → (IsTrue (state g old).is_open → (state g old).now ≡ (state g old).committed)
      → KeepsCommit (state g begun) (state g last) → IsRolledBack (state g last) (state g new)
      → IsUndoneIfOpen (state g old) (state g new)
  undone_begun idle settled leaves undone still =
      let kept = subst (λ (h : Held S). KeepsCommit (state g h) (state g last)) is leaves in
      let last_open = undone.was_open still in
      let was_open = kept.was_open last_open in
      let then = undone.undone still in
      record {
        was_open = was_open;
        is_open = still;
        now_is = then.0 ∙ kept.committed last_open ∙ sym (settled was_open);
        committed_is = then.1 ∙ kept.committed last_open;
        mode = undone.autocommit ∙ sym idle;
      }

  -- a crash leaves what it could leave before, or what is committed
  pub begun_survives : (Ends Commits : Trees → Type 0)
      → (HasCleanDisk (state g last) → (left : Trees) → Ends left → Commits left)
      → Survives (state g begun) (state g last) (λ _. ⊥) → Survives (state g last) (state g new) Ends
      → Survives (state g old) (state g new) Commits
  begun_survives Ends Commits commits first then =
      survives_begin g old (state g new) Commits
      (subst (λ (h : Held S). Survives (state g h) (state g new) Commits) is
      (survives_then (state g begun) (state g last) (state g new) (λ _. ⊥) Ends Commits
      (λ clean left none. absurd none) (λ clean. commits (omega (arith, then.clean))) first then))

-- a read commits nothing
pub look_kept : {X : Type 0} (old new : State) (r : Result X TableFault) → Looks old new r → KeepsCommit old new
look_kept old new (Ok x) same = record { was_open = λ _. same.0.was_open; committed = λ _. same.0.committed_is }
look_kept old new (Err fault) (inl same, why) =
    record { was_open = λ _. same.0.was_open; committed = λ _. same.0.committed_is }
look_kept old new (Err fault) (inr undone, why) =
    record { was_open = undone.was_open; committed = λ still. (undone.undone still).1 }
