-- What reads of a bank leave, one after another.
use Rattle.std.proofs.Common.{◌≡◌, ◌∙◌, Result, Ok, Err, refl, sym, subst}
use Rattle.std.specs.Prelude.{IsSome}
use Rattle.sqlite.specs.{Effect.Database, Held.Held, Held.state, State.HasCleanDisk, State.Survives}
use Rattle.sqlite_trees.specs.declared.store.Store.{Ghosts}
use Rattle.posting_rules.specs.declared.fault.{Fault.Fault, Rule.Rule}
use Rattle.posting_rules.specs.declared.fault.Fault.TheVariants.{Damaged, Down, Memory, Store}
use Rattle.bank_transactions.specs.believed.Causes.{IsBefore}
use Rattle.bank_transactions.proofs.Blamed.{comes, same_moment, then_moment}
use Rattle.walked_rows.proofs.Causes.{nothing_called}
use Rattle.bank_store.specs.believed.Seen.{bank_seen, connection_of, database_of, file_of}
use Rattle.bank_store.specs.{Failures.HasFailedToRead, Seen.fault_of, Walking.StoreFailed}
use Rattle.bank_store.specs.{Walks.IsStill, Walks.IsUntouchedIfOpen, declared.bank.Bank.Bank}
use Rattle.bank_store.proofs.{ReadsLeave.clean_before, StepsKeep.quiet_then, StepsKeep.still_then}
use Rattle.bank_store.proofs.StepsKeep.{still_undone, undone_then}
use Rattle.bank_reports.specs.declared.fault.ReportFault.{ReportFault}
use Rattle.bank_reports.specs.declared.fault.ReportFault.TheVariants.{Bank as OfBank, NoAccount}
use Rattle.bank_reports.specs.{Leaving.ReadsPostings, Leaving.ReadsRows, Refusals.IsRefusal}
use Rattle.bank_reports.proofs.ReportEnds.{damaged_not_down, down_not_memory, down_not_store, not_missing, not_ok}
use Rattle.bank_reports.proofs.ReportEnds.{same_fault}
use Rattle.bank_reports.proofs.Further.{error_is}

-- a read that failed later has failed since before
pub failed_later : {S : Type 0} (g : Ghosts S) (old mid new : Held S) → IsBefore (state g old) (state g mid)
    → HasFailedToRead g mid new → HasFailedToRead g old new
failed_later g old mid new later failed = record {
  at = failed.at;
  before = then_moment (state g old) (state g mid) (state g failed.at) later failed.before;
  failed = failed.failed;
}

module _ {S X : Type 0} {g : Ghosts S} {Has : Database → X → Type 0} {Breaks : X → Rule → Type 0}
    {takes_memory : Type 0} where
  -- ---- one read

  module _ (old new : Bank S g) (up : fault_of new ≡ fault_of old)
      (survives : Survives (file_of old) (file_of new) (λ _. ⊥)) where
    -- it was answered
    pub reads_still : (HasCleanDisk (file_of new) → IsStill (file_of old) (file_of new))
        → ReadsRows g Has Breaks takes_memory old new (Ok tt)
    reads_still still = record {
      found = not_ok _ _ _ refl;
      frugal = λ is. absurd (not_ok _ _ _ refl is);
      tried = λ is. absurd (not_ok _ _ _ refl is);
      up = up;
      store = λ is. absurd (not_ok _ _ _ refl is);
      damage = λ rule is. absurd (not_ok _ _ _ refl is);
      still = λ clean written. still clean;
      undone = λ clean. still_undone (file_of old) (file_of new) (still clean);
      survives = survives;
    }

    -- it was refused by the store, or for its rows
    pub reads_failed : (fault : Fault) → (fault ≡ Memory → ⊥) → (fault ≡ Down → ⊥)
        → (HasCleanDisk (file_of new) → IsUntouchedIfOpen (file_of old) (file_of new))
        → (fault ≡ Store → HasCleanDisk (file_of new) → (rows : X) → Has (database_of g old) rows
        → StoreFailed (file_of old) (file_of new))
        → ((rule : Rule) → fault ≡ Damaged rule → HasCleanDisk (file_of new) → (rows : X)
        → Has (database_of g old) rows → Breaks rows rule)
        → ReadsRows g Has Breaks takes_memory old new (Err (OfBank fault))
    reads_failed fault frugal down undone store damage = record {
      found = not_missing _ fault refl;
      frugal = λ is. absurd (frugal (same_fault _ fault Memory refl is));
      tried = λ is. absurd (down (same_fault _ fault Down refl is));
      up = up;
      store = λ is clean rows has. record {
        at = connection_of old;
        before = same_moment (file_of old);
        failed = store (same_fault _ fault Store refl is) clean rows has;
      };
      damage = λ rule is. damage rule (same_fault _ fault (Damaged rule) refl is);
      still = λ clean written. absurd written;
      undone = undone;
      survives = survives;
    }

  -- ---- none

  pub reads_nothing : (bank : Bank S g) → ReadsRows g Has Breaks takes_memory bank bank (Ok tt)
  reads_nothing bank = reads_still bank bank refl (nothing_called (file_of bank)) (λ clean. (refl, refl, refl, refl))

  -- the bank was down
  pub reads_down : (bank : Bank S g) → (bank_seen g bank).is_down
      → ReadsRows g Has Breaks takes_memory bank bank (Err (OfBank Down))
  reads_down bank down = record {
    found = not_missing _ Down refl;
    frugal = λ is. absurd (down_not_memory _ Down refl refl is);
    tried = λ is. down;
    up = refl;
    store = λ is. absurd (down_not_store _ Down refl refl is);
    damage = λ rule is. absurd (damaged_not_down _ rule is refl);
    still = λ clean written. absurd written;
    undone = λ clean. still_undone (file_of bank) (file_of bank) (refl, refl, refl, refl);
    survives = nothing_called (file_of bank);
  }

  -- ---- several

  -- before more reads the connection saw what it had seen at first, and the same rows
  module _ {old mid : Bank S g} (first : ReadsRows g Has Breaks takes_memory old mid (Ok tt)) (new : Bank S g)
      (survives : Survives (file_of mid) (file_of new) (λ _. ⊥)) (clean : HasCleanDisk (file_of new)) where
    still_before : IsStill (file_of old) (file_of mid)
    still_before = first.still (clean_before (file_of mid) (file_of new) survives clean) tt

    pub has_before : (rows : X) → Has (database_of g old) rows → Has (database_of g mid) rows
    has_before rows has = subst (λ (db : Database). Has db rows) (sym still_before.0) has

  -- reads, and then more
  pub reads_then : {old mid new : Bank S g} {end : Result (Unit {0}) ReportFault}
      → ReadsRows g Has Breaks takes_memory old mid (Ok tt) → ReadsRows g Has Breaks takes_memory mid new end
      → ReadsRows g Has Breaks takes_memory old new end
  reads_then {old} {mid} {new} {end} first second = record {
    found = second.found;
    frugal = second.frugal;
    tried = λ is. subst (λ fault. IsSome fault) first.up (second.tried is);
    up = second.up ∙ first.up;
    store = λ is clean rows has.
        failed_later g (connection_of old) (connection_of mid) (connection_of new) (comes first.survives)
        (second.store is clean rows (has_before first new second.survives clean rows has));
    damage = λ rule is clean rows has.
        second.damage rule is clean rows (has_before first new second.survives clean rows has);
    still = λ clean written.
        still_then (file_of old) (file_of mid) (file_of new) (still_before first new second.survives clean)
        (second.still clean written);
    undone = λ clean.
        undone_then (file_of old) (file_of mid) (file_of new) (still_before first new second.survives clean)
        (second.undone clean);
    survives = quiet_then (file_of old) (file_of mid) (file_of new) first.survives second.survives;
  }

  -- a bank that was lent, once the loan has ended
  pub reads_lent : {old lent last new : Bank S g} {end : Result (Unit {0}) ReportFault} → lent ≡ old
      → ReadsRows g Has Breaks takes_memory lent last end → last ≡ new
      → ReadsRows g Has Breaks takes_memory old new end
  reads_lent {old} {lent} {last} {new} {end} first reads ended =
      subst (λ (bank : Bank S g). ReadsRows g Has Breaks takes_memory old bank end) ended
      (subst (λ (bank : Bank S g). ReadsRows g Has Breaks takes_memory bank last end) first reads)

  module _ {old new : Bank S g} {end : Result (Unit {0}) ReportFault}
      (reads : ReadsRows g Has Breaks takes_memory old new end) where
    -- what is down was so before
    pub was_down : (bank_seen g new).is_down → (bank_seen g old).is_down
    was_down = subst (λ fault. IsSome fault) reads.up

    -- what is told of some rows is told of those that have them
    pub reads_among : {Y : Type 0} (HasAll : Database → Y → Type 0) (BreaksAny : Y → Rule → Type 0)
        → ((all : Y) → HasAll (database_of g old) all
        → (rows : X) × Has (database_of g old) rows × ((rule : Rule) → Breaks rows rule → BreaksAny all rule))
        → ReadsRows g HasAll BreaksAny takes_memory old new end
    reads_among HasAll BreaksAny among = record {
      found = reads.found;
      frugal = reads.frugal;
      tried = reads.tried;
      up = reads.up;
      store = λ is clean all has. let it = among all has in reads.store is clean it.0 it.1;
      damage = λ rule is clean all has.
          let it = among all has in it.2 rule (reads.damage rule is clean it.0 it.1);
      still = reads.still;
      undone = reads.undone;
      survives = reads.survives;
    }

-- ---- postings, and who visits them

-- a visitor refused one, or the writer failed
pub reads_refused : {S : Type 0} {g : Ghosts S} {takes_memory : Type 0} {old new : Bank S g} (fault : ReportFault)
    → IsRefusal takes_memory fault → ReadsPostings g takes_memory old new (Ok tt)
    → ReadsPostings g takes_memory old new (Err fault)
reads_refused {takes_memory = takes_memory} fault is reads = record {
  found = refusal NoAccount;
  frugal = refusal (OfBank Memory);
  tried = λ other. absurd (refusal (OfBank Down) other);
  up = reads.up;
  store = λ other. absurd (refusal (OfBank Store) other);
  damage = λ rule other clean rows has. tt;
  still = λ clean written. reads.still clean tt;
  undone = reads.undone;
  survives = reads.survives;
}
  where
    refusal : (other : ReportFault) → (let r : Result (Unit {0}) ReportFault = Err fault in r) ≡ Err other
        → IsRefusal takes_memory other
    refusal other same = subst (λ f. IsRefusal takes_memory f) (error_is fault other same) is
