-- Reads of a bank, one after another.
use Rattle.std.proofs.Common.{Ok, Err, Result, refl, ◌∙◌, inl, arith}
use Rattle.std.specs.Prelude.{OnOk}
use Rattle.sqlite.specs.State.{State, HasCleanDisk, Survives}
use Rattle.sqlite_trees.specs.declared.store.Store.{Ghosts}
use Rattle.posting_rules.specs.declared.fault.Fault.{Fault}
use Rattle.bank_store.specs.{believed.Seen.file_of, Walks.IsStill, declared.bank.Bank.Bank, declared.walks.Walk.Walk}
use Rattle.bank_store.specs.Walking.{LeavesLent, lent}
use Rattle.bank_store.proofs.StepsKeep.{quiet_then, still_then, still_undone, undone_then}
use Rattle.bank_replays.specs.Reading.{ReadsBank}

-- nothing was done
pub survives_itself : (s : State) → Survives s s (λ _. ⊥)
survives_itself s = record {
  clean = omega arith;
  shield = λ x. x;
  counts = omega arith;
  limit = refl;
  closes = λ clean is_open. inl is_open;
  crash = λ clean db may. inl may;
}

on_any : {X E P : Type 0} (r : Result X E) → P → OnOk r P
on_any (Ok x) p = p
on_any (Err e) p = tt

module _ {S : Type 0} {g : Ghosts S} where
  -- the disk was clean before
  pub clean_before : {X E : Type 0} {mid new : Bank S g} {r : Result X E} → ReadsBank g mid new r
      → HasCleanDisk (file_of new) → HasCleanDisk (file_of mid)
  clean_before more clean = omega (arith, more.survives.clean, clean)

  pub none_read : {X E : Type 0} (bank : Bank S g) (r : Result X E) → ReadsBank g bank bank r
  none_read bank r = record {
    survives = survives_itself (file_of bank);
    still = λ clean. on_any r (refl, refl, refl, refl);
    undone = λ clean. still_undone (file_of bank) (file_of bank) (refl, refl, refl, refl);
    up = refl;
  }

  -- whatever is made of what was read well
  pub read_any : {X Y E F : Type 0} {old new : Bank S g} {x : X} → ReadsBank {E = E} g old new (Ok x)
      → (r : Result Y F) → ReadsBank g old new r
  read_any reads r = record {
    survives = reads.survives;
    still = λ clean. on_any r (reads.still clean);
    undone = reads.undone;
    up = reads.up;
  }

  -- a fault in other words
  pub read_fails : {X Y E F : Type 0} {old new : Bank S g} {r : Result X E} (e : F)
      → ReadsBank g old new r → ReadsBank {X = Y} g old new (Err e)
  read_fails e reads = record {
    survives = reads.survives;
    still = λ clean. tt;
    undone = reads.undone;
    up = reads.up;
  }

  -- a read more
  pub read_then : {X Y E F : Type 0} {old mid new : Bank S g} {x : X} {r : Result Y F}
      → ReadsBank {E = E} g old mid (Ok x) → ReadsBank g mid new r → ReadsBank g old new r
  read_then {old = old} {mid = mid} {new = new} {r = r} one two = record {
    survives = quiet_then (file_of old) (file_of mid) (file_of new) one.survives two.survives;
    still = λ clean. both r (one.still (clean_before two clean)) (two.still clean);
    undone = λ clean.
        undone_then (file_of old) (file_of mid) (file_of new) (one.still (clean_before two clean))
        (two.undone clean);
    up = two.up ∙ one.up;
  }
    where
      both : {Y F : Type 0} (r : Result Y F) → IsStill (file_of old) (file_of mid)
          → OnOk r (IsStill (file_of mid) (file_of new)) → OnOk r (IsStill (file_of old) (file_of new))
      both (Ok y) a b = still_then (file_of old) (file_of mid) (file_of new) a b
      both (Err e) a b = tt

  -- a step of a walk
  pub step_reads : {R X : Type 0} {old new : Walk S R g} {r : Result X Fault} → LeavesLent g old new r
      → ReadsBank g (lent old) (lent new) r
  step_reads leaves = record {
    survives = leaves.survives;
    still = leaves.same;
    undone = leaves.undone;
    up = leaves.up;
  }
