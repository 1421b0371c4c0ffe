-- What an open that failed leaves of files that were read before it.
use Rattle.std.proofs.Common.{◌≡◌, ◌≤◌, ℕ, arith, inl, inr, subst, sym}
use Rattle.std.specs.Prelude.{◌⊎◌, IsTrue}
use Rattle.sqlite.proofs.FileLemmas.{same_image}
use Rattle.sqlite.proofs.ListingLemmas.{empty_is_sound}
use Rattle.sqlite.specs.Files.{FailsToOpenAs, IsNothing, IsUnderWay, LeavesFiles, HoldsDatabase, BeginsWell, NamesSize, SaysSums}
use Rattle.sqlite.specs.Files.{AreFoundIn, IsEmpty, IsFullLeft, faults_left, faults_of, image_of}
use Rattle.sqlite.specs.Opening.{FailsAs}
use Rattle.sqlite.specs.Steps.{FailsToOpen}
use Rattle.sqlite.specs.declared.error.Error.{Error}
use Rattle.sqlite.specs.declared.file.Leftover.{Leftover}
use Rattle.sqlite.specs.declared.file.Leftover.TheVariants as left
use Rattle.sqlite_disk.specs.{Disk.MoreFaults, declared.Disk.Ghosts, declared.Files.Files}
use Rattle.sqlite_pool.specs.Opening.{IsBlankFile}
use Rattle.sqlite_pool.specs.Stored.{IsUnreadable, StandsAs, is_summed, stored_size}
use Rattle.sqlite_store.specs.Unopened.{state_of}
use Rattle.sqlite_trees.specs.Tree.{Trees}
use Rattle.sqlite_trees.specs.declared.error.StoreError.{StoreError}
use Rattle.sqlite_trees.specs.declared.error.StoreError.TheVariants as stored
use Rattle.sqlite_wal.specs.{Files.outcomes, Reads.OnlyReads, Recovery.Image}
use Rattle.bank_files.specs.Leftover.{FailsToOpen as FailsToOpenFiles, LeavesBlank}
use Rattle.bank_files.specs.declared.new_files.TheConstants.{PAGE_BYTES}

-- a check of a new database fails for memory or a call that failed
pub check_failed : (a b c : ℕ) (Limit Wanted : Type 0) (db : Trees) (e : Error) → a ≤ b → IsEmpty db
    → FailsToOpen db (MoreFaults b c) e → (kind : StoreError) × FailsAs kind a c Limit Wanted e
check_failed a b c Limit Wanted db e few empty (inl refused) = absurd (refused.1 _ (empty_is_sound db empty.1))
check_failed a b c Limit Wanted db e few empty (inr (stored.OutOfMemory, is, h)) = (stored.OutOfMemory, inl is)
check_failed a b c Limit Wanted db e few empty (inr (stored.Io, is, h)) = (stored.Io, inr (inr (inl (is, omega (arith, h)))))
check_failed a b c Limit Wanted db e few empty (inr (stored.Corrupt, is, h)) =
    (stored.Corrupt, inr (inr (inl (is, omega (arith, h)))))
check_failed a b c Limit Wanted db e few empty (inr (stored.Full, is, h)) =
    (stored.Full, inr (inr (inl (is, omega (arith, h)))))
check_failed a b c Limit Wanted db e few empty (inr (stored.Broken, is, h)) = absurd h
check_failed a b c Limit Wanted db e few empty (inr (stored.Unstorable, is, h)) = absurd h

-- fewer calls had failed before
pub fails_earlier : (kind : StoreError) (a b c : ℕ) (Limit Wanted : Type 0) (e : Error) → a ≤ b
    → FailsAs kind b c Limit Wanted e → FailsAs kind a c Limit Wanted e
fails_earlier kind a b c Limit Wanted e few (inl memory) = inl memory
fails_earlier kind a b c Limit Wanted e few (inr (inl refused)) = inr (inl refused)
fails_earlier kind a b c Limit Wanted e few (inr (inr (inl failed))) = inr (inr (inl (failed.0, omega (arith, failed.1))))
fails_earlier kind a b c Limit Wanted e few (inr (inr (inr full))) = inr (inr (inr full))

module _ {D : Type 0} {g : Ghosts D} (old new : Files D) (log : OnlyReads g old.log new.log)
    (db : OnlyReads g old.db new.db) where
  same : image_of g new ≡ image_of g old
  same = same_image log db

  was : (image : Image) → outcomes g new.log new.db image → outcomes g old.log old.db image
  was image may = (log.crash _ may.0, db.crash _ may.1)

  leaves_before : (rest : Leftover D g) → LeavesFiles new rest → LeavesFiles old rest
  leaves_before (left.Files now) h = λ image may. was image (h image may)
  leaves_before (left.Unopened now) (inl (nothing, h)) =
      inl (
        subst IsNothing same nothing,
        λ image may. elim (h image may) [
          | inl may ↦ inl (was image may)
          | inr way ↦ inr way
        ],
      )
  leaves_before (left.Unopened now) (inr (some, named, begins, says, kept)) = inr (
    subst (λ i. ¬ IsNothing i) same some,
    subst (λ i. NamesSize i (stored_size (state_of now).page_size)) same named,
    subst (BeginsWell (stored_size (state_of now).page_size)) same begins,
    subst (λ i. IsTrue (is_summed (state_of now).page_size) → SaysSums (stored_size (state_of now).page_size) i) same says,
    λ image may.
        let it = kept image may in
        record {
          same = elim it.same [
            | inl may ↦ inl (was image may)
            | inr stands ↦ inr (subst (λ i. StandsAs (state_of now).page_size i image) same stands)
          ];
          unread = λ unread. was image (it.unread (subst (IsUnreadable (state_of now).page_size) (sym same) unread));
          something = λ none. it.something (λ may. none (was image may));
        },
  )
  leaves_before (left.Store now) h = λ found may.
      let it = h found may in
      (subst (λ i. AreFoundIn i found) same it.0, λ held is. it.1 held (subst (λ i. HoldsDatabase i held) (sym same) is))

  blank_before : (rest : Leftover D g) → LeavesBlank new rest → LeavesBlank old rest
  blank_before (left.Files now) h = λ image may. was image (h image may)
  blank_before (left.Unopened now) h = λ image may. elim (h image may) [
    | inl may ↦ inl (was image may)
    | inr way ↦ inr way
  ]
  blank_before (left.Store now) h = h

  -- what an open that failed leaves of files that were only read before
  pub fails_before : faults_of g old ≤ faults_of g new → (e : Error × Leftover D g) → FailsToOpenFiles new e → FailsToOpenFiles old e
  fails_before few e failed = record {
    left = elim failed.left [
      | inl kept ↦ inl (leaves_before e.1 kept)
      | inr (blank, made) ↦ inr (subst (IsBlankFile PAGE_BYTES) same blank, blank_before e.1 made)
    ];
    kind = failed.kind;
    cause = fails_earlier failed.kind (faults_of g old) (faults_of g new) (faults_left e.1) (IsFullLeft e.1)
        (((held : Trees) × HoldsDatabase (image_of g old) held) ⊎ IsNothing (image_of g old)) e.0 few
        (subst (λ i. FailsAs failed.kind (faults_of g new) (faults_left e.1) (IsFullLeft e.1)
        (((held : Trees) × HoldsDatabase i held) ⊎ IsNothing i) e.0) same failed.cause);
  }
