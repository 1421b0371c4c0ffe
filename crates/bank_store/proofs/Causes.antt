-- Why the store is told to have failed, as a bank is looked for or made.
use Rattle.std.proofs.Common.{refl, Bool, Option, Ok, Err, Result, List, ℕ, ℤ, inl, inr, arith}
use Rattle.std.specs.Prelude.{IfErr, IsTrue}
use Rattle.std.proofs.lemmas.Bool.{cases_Bool}
use Rattle.sqlite.specs.{Schema.Schema, Table.Table, Tree.Trees, State.State, State.HasCleanDisk, State.Survives, Held.Held}
use Rattle.sqlite.specs.{Held.state, Steps.FailsToCommit, declared.error.Error.Error}
use Rattle.sqlite.proofs.StateLemmas.{survives_then, survives_weaker}
use Rattle.sqlite_trees.specs.declared.store.Store.{Ghosts}
use Rattle.store_rows.specs.{Calls.Probes, Creation.CreatesBank, believed.Failures.Committing, Failures.HasReason}
use Rattle.store_rows.specs.{declared.fault.TableFault.TableFault, declared.metas.StoredMeta.StoredMeta}
use Rattle.store_rows.specs.declared.fault.TableFault.TheVariants.{Sqlite, Damaged as Broken}
use Rattle.bank_transactions.specs.believed.Causes.{IsBefore}
use Rattle.bank_transactions.proofs.Blamed.{comes, commit_fails, failed_here, failed_within, same_moment, then_moment}
use Rattle.bank_store.specs.{MetaRow.ChecksCount, MetaRow.ChecksMeta, OpenFaults.of_the_store, OpenFaults.unmade_by}
use Rattle.bank_store.specs.OpenFaults.{unread_by}
use Rattle.bank_store.specs.TablePresence.{ChecksTables}
use Rattle.bank_store.specs.StoreFaults.{CallFailed, IsOpenCall, KnowsCause, KnowsWhyUnmade, LooksIn, MakingFailed}
use Rattle.posting_rules.specs.declared.open_fault.{BankTable.BankTable, OpenFault.OpenFault}
use Rattle.posting_rules.specs.declared.open_fault.OpenFault.TheVariants.{Store}
use Rattle.bank_store.proofs.Unmade.{if_err}

module _ {S : Type 0} (g : Ghosts S) (old new : Held S) where
  -- a probe failed
  pub probe_failed : (probe : List ℕ × Table) (e : Error) → Probes g old new probe (Err e)
      → KnowsCause g old new Store
  probe_failed probe e inner = λ clean. (e, failed_here g old new e (Committing (inner.answers clean)))

  -- a row wasn't read
  pub read_failed : (fault : TableFault)
      → (HasCleanDisk (state g new) → HasReason (state g old) (state g new) fault)
      → KnowsCause g old new (unread_by fault)
  read_failed (Sqlite e) why = λ clean. (e, failed_here g old new e (why clean))
  read_failed (Broken rule) why = tt

  -- the commit of a transaction that goes on failed
  pub commit_failed : (e : Error) → (HasCleanDisk (state g new) → IsTrue (state g old).in_transaction)
      → (HasCleanDisk (state g new) → FailsToCommit (state g old) (state g new) e)
      → KnowsWhyUnmade g old new Store
  commit_failed e live why = λ clean. inl (
    e,
    failed_here g old new e (Committing (commit_fails (state g old) (state g new) e (live clean) (why clean))),
  )

  -- a statement that makes the tables failed
  pub making_failed : (e : Error)
      → (HasCleanDisk (state g new) → CreatesBank (state g old) (state g new) (Err e))
      → KnowsWhyUnmade g old new (unmade_by e)
  making_failed e why = elim (cases_Bool (of_the_store e)) [
    | inl own ↦ rw own (λ clean. inr (record {
      start = old;
      end = new;
      error = e;
      before = same_moment (state g old);
      failed = why clean;
      own = own;
      after = same_moment (state g new);
    }))
    | inr other ↦ rw other tt
  ]

-- what a call left clean was clean before it
pub still_clean : {P : Trees → Type 0} {old new : State} → Survives old new P → HasCleanDisk new
    → HasCleanDisk old
still_clean s clean = omega (arith, s.clean)

-- a transaction begins
pub begun_after : {S : Type 0} (g : Ghosts S) (conn : Held S) (live : Bool)
    → IsBefore (state g conn) (state g (record conn { in_transaction = live }))
begun_after g conn live = record { faults = (same_moment (state g conn)).faults; limit = refl }

-- more came before it and after it
module _ {S : Type 0} (g : Ghosts S) (old mid end new : Held S) (one : IsBefore (state g old) (state g mid))
    (clean : HasCleanDisk (state g new) → HasCleanDisk (state g end))
    (two : IsBefore (state g end) (state g new)) where
  call_failed_within : CallFailed g mid end → CallFailed g old new
  call_failed_within it = (it.0, failed_within g old mid end new it.0 one two it.1)

  making_failed_within : MakingFailed g mid end → MakingFailed g old new
  making_failed_within it = record {
    start = it.start;
    end = it.end;
    error = it.error;
    before = then_moment (state g old) (state g mid) (state g it.start) one it.before;
    failed = it.failed;
    own = it.own;
    after = then_moment (state g it.end) (state g end) (state g new) it.after two;
  }

  pub known_within : (fault : OpenFault) → KnowsCause g mid end fault → KnowsCause g old new fault
  known_within Store knows = λ now. call_failed_within (knows (clean now))
  known_within other knows = tt

  pub unmade_within : (fault : OpenFault) → KnowsWhyUnmade g mid end fault → KnowsWhyUnmade g old new fault
  unmade_within Store knows = λ now. elim (knows (clean now)) [
    | inl call ↦ inl (call_failed_within call)
    | inr making ↦ inr (making_failed_within making)
  ]
  unmade_within other knows = tt

module _ {S : Type 0} (g : Ghosts S) (old new : Held S) where
  -- where a bank was looked for before it is made
  pub unmade_as_known : (fault : OpenFault) → KnowsCause g old new fault → KnowsWhyUnmade g old new fault
  unmade_as_known Store knows = λ clean. inl (knows clean)
  unmade_as_known other knows = tt

  -- what is said against the row of the bank is no failure of the store
  pub checks_known : (stored : Option StoredMeta) (r : Result (Unit {0}) OpenFault) → ChecksMeta stored r
      → IfErr r (KnowsCause g old new)
  checks_known stored (Err Store) checks = absurd checks
  checks_known stored other checks = tt

  pub count_known : (decided : ℤ) (r : Result (Unit {0}) OpenFault) → ChecksCount decided r
      → IfErr r (KnowsCause g old new)
  count_known decided (Ok done) checks = tt
  count_known decided (Err fault) checks = rw checks.0 tt

  pub other_known : (schema : Schema) (tables : List BankTable) (fault : OpenFault)
      → ChecksTables schema tables (Err fault) → KnowsCause g old new fault
  other_known schema tables Store checks = absurd checks
  other_known schema tables other checks = tt

-- ---- one call after another

-- a call after a look, and what is answered then
module _ {S X Y : Type 0} (g : Ghosts S) (old mid new : Held S) (inner : Result X OpenFault)
    (result : Result Y OpenFault) (answers : IfErr inner (KnowsCause g old new) → IfErr result (KnowsCause g old new))
    (first : Survives (state g old) (state g mid) (λ _. ⊥)) where
  pub call_then : (Then Commits : Trees → Type 0)
      → (HasCleanDisk (state g new) → (left : Trees) → Then left → Commits left)
      → IsOpenCall g mid new Then inner → IsOpenCall g old new Commits result
  call_then Then Commits commits it = record {
    cause = answers (if_err (KnowsCause g mid new) (KnowsCause g old new)
        (known_within g old mid new new (comes first) (λ clean. clean) (same_moment (state g new))) inner it.cause);
    mode = it.mode;
    survives = survives_then (state g old) (state g mid) (state g new) (λ _. ⊥) Then Commits
        (λ clean left none. absurd none) commits first it.survives;
  }

  pub looks_then : LooksIn g mid new inner → LooksIn g old new result
  looks_then = call_then (λ _. ⊥) (λ _. ⊥) (λ clean left none. none)

-- a look commits nothing
pub only_looked : {S X Y : Type 0} (g : Ghosts S) (old new : Held S) (Commits : Trees → Type 0)
    (inner : Result X OpenFault) (result : Result Y OpenFault)
    → (IfErr inner (KnowsCause g old new) → IfErr result (KnowsCause g old new)) → LooksIn g old new inner
    → IsOpenCall g old new Commits result
only_looked g old new Commits inner result answers it = record {
  cause = answers it.cause;
  mode = it.mode;
  survives = survives_weaker (state g old) (state g new) (λ _. ⊥) Commits (λ clean left none. absurd none) it.survives;
}

-- a probe after a call
module _ {S X : Type 0} (g : Ghosts S) (old mid new : Held S) (Commits : Trees → Type 0) (inner : Result X OpenFault)
    (it : IsOpenCall g old mid Commits inner) (probe : List ℕ × Table) where
  then_asked : {Y : Type 0} (answer : Result Bool Error) (result : Result Y OpenFault)
      → Probes g mid new probe answer → IfErr result (KnowsCause g old new) → IsOpenCall g old new Commits result
  then_asked answer result asks cause = record {
    cause = cause;
    mode = asks.mode it.mode;
    survives = survives_then (state g old) (state g mid) (state g new) Commits (λ _. ⊥) Commits
        (λ clean left made. made) (λ clean left none. absurd none) it.survives asks.survives;
  }

  pub still_answers : (answer : Result Bool Error) → Probes g mid new probe answer → IsOpenCall g old new Commits inner
  still_answers answer asks =
      then_asked answer inner asks
      (if_err (KnowsCause g old mid) (KnowsCause g old new)
      (known_within g old old mid new (same_moment (state g old)) (still_clean asks.survives) (comes asks.survives))
      inner it.cause)

  pub fails_then : {Y : Type 0} (e : Error) → Probes g mid new probe (Err e)
      → IsOpenCall {X = Y} g old new Commits (Err Store)
  fails_then e asks =
      then_asked (Err e) (Err Store) asks
      (known_within g old mid new new (comes it.survives) (λ clean. clean) (same_moment (state g new)) Store
      (probe_failed g mid new probe e asks))
