-- What is left of a bank that was only read.
use Rattle.std.proofs.Common.{Result, Ok, Err, refl, subst}
use Rattle.std.specs.Prelude.{IsSome, OnOk}
use Rattle.sqlite.specs.State.{HasCleanDisk}
use Rattle.sqlite_trees.specs.declared.store.Store.{Ghosts}
use Rattle.bank_store.specs.{Leaving.LeavesAsFound, Leaving.TakesNone, believed.Seen.bank_seen}
use Rattle.bank_store.specs.{believed.Seen.file_of, Walks.IsStill, declared.bank.Bank.Bank}
use Rattle.bank_store.proofs.{AsFound.idle_as_found, AsFound.untouched_as_found}
use Rattle.bank_store.proofs.ReadsLeave.{idle_takes, reads_take_none}
use Rattle.bank_replays.specs.Reading.{HasAnswered, IsOnlyRead, ReadsBank}

module _ {S X E : Type 0} {g : Ghosts S} {old new : Bank S g} (r : Result X E) (reads : ReadsBank g old new r) where
  up : (bank_seen g new).is_down → (bank_seen g old).is_down
  up = subst (λ cause. IsSome cause) reads.up

  still : (a : Result X E) → (HasCleanDisk (file_of new) → OnOk a (IsStill (file_of old) (file_of new)))
      → HasAnswered a → HasCleanDisk (file_of new) → IsStill (file_of old) (file_of new)
  still (Ok x) it answered clean = it clean
  still (Err e) it answered clean = absurd answered

  pub read_takes : TakesNone (bank_seen g old) (bank_seen g new) (HasAnswered r)
  read_takes = reads_take_none (file_of old) (file_of new) _ _ _ (still r reads.still) reads.survives up

  pub read_leaves : LeavesAsFound g old new
  read_leaves = untouched_as_found g old new reads.undone reads.survives

  pub only_read : IsOnlyRead g old new r
  only_read = record { takes = read_takes; up = reads.up; leaves = read_leaves }

-- nothing was read
pub none_read : {S X E : Type 0} (g : Ghosts S) (bank : Bank S g) (r : Result X E) → IsOnlyRead g bank bank r
none_read g bank r =
    record { takes = idle_takes (bank_seen g bank) _; up = refl; leaves = idle_as_found g bank }
