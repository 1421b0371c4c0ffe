-- What an open that failed leaves of the files, and why it failed.
use Rattle.std.specs.Prelude.{◌⊎◌, [], ⊤}
use Rattle.sqlite.specs.Files.{FailsToOpenAs, IsEmpty, LeavesFiles, image_of}
use Rattle.sqlite.specs.Opening.{FailsFor}
use Rattle.sqlite.specs.declared.{error.Error.Error, file.Leftover.Leftover}
use Rattle.sqlite.specs.declared.file.Leftover.TheVariants as left
use Rattle.sqlite_disk.specs.{declared.Disk.Ghosts, declared.Files.Files}
use Rattle.sqlite_pool.specs.{Opening.IsBlankFile, Opening.IsNew, Stored.Recovers}
use Rattle.sqlite_store.specs.{FileStore.recovers, Opening.IsFresh}
use Rattle.sqlite_store.specs.Unopened.{IsFullFile, state_of}
use Rattle.sqlite_store.specs.declared.store.open.Unopened.{Unopened}
use Rattle.sqlite_trees.specs.Tree.{Trees}
use Rattle.sqlite_trees.specs.declared.error.StoreError.{StoreError}
use Rattle.sqlite_wal.specs.{Files.outcomes, Recovery.Image, Recovery.Pages}
use Rattle.bank_files.specs.declared.new_files.TheConstants.{PAGE_BYTES}

-- nothing still, or a database with no table
abbrev pub IsBeingMade : Image → Type 0
IsBeingMade left = IsBlankFile PAGE_BYTES left
    ⊎ ((pages : Pages) × Recovers PAGE_BYTES left pages × (IsNew PAGE_BYTES pages ⊎ ∥ IsFresh PAGE_BYTES [] pages ∥₁))

module _ {D : Type 0} {g : Ghosts D} where
  -- Of files that held nothing a crash leaves what it could before, nothing still, or a database with no table.
  abbrev pub LeavesBlank : Files D → Leftover D g → Type 0
  LeavesBlank files (left.Files now) = (image : Image) → outcomes g now.log now.db image → outcomes g files.log files.db image
  LeavesBlank files (left.Unopened now) =
      (image : Image) → (state_of now).may_leave image → outcomes g files.log files.db image ⊎ IsBeingMade image
  LeavesBlank files (left.Store now) = (found : Trees) → recovers now found → IsEmpty found

  -- An open failed, and this is left. Where the files held something, a crash leaves what it could before, or what stands
  -- for the same database. It failed for want of memory, for a call on the files that failed, at a limit of the format,
  -- or as the files hold no database.
  pub record FailsToOpen (files : Files D) (e : Error × Leftover D g) : Type 0 where
    pub left : LeavesFiles files e.1 ⊎ (IsBlankFile PAGE_BYTES (image_of g files) × LeavesBlank files e.1)
    pub kind : StoreError
    pub cause : FailsToOpenAs kind files e.1 e.0

  -- the same of files that held nothing, in which a database is being made, whatever else was to be there
  pub record FailsToMake (files : Unopened D g) (e : Error × Unopened D g) : Type 0 where
    pub left : (image : Image) → (state_of e.1).may_leave image → (state_of files).may_leave image ⊎ IsBeingMade image
    pub cause : FailsFor (state_of files).faults (state_of e.1).faults (IsFullFile e.1) ⊤ e.0
