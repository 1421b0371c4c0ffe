-- The store's disk is clean only where its files are, and what is left of a making is what it makes of blank files.
use Rattle.std.proofs.Common.{◌≡◌, ◌+◌, ap, arith, inl, inr, subst, sym, ◌∙◌}
use Rattle.sqlite.proofs.{FileLemmas.fails_wider, OpenLemmas.pool_files}
use Rattle.sqlite.specs.Files.{image_of}
use Rattle.sqlite_pool.specs.Opening.{IsBlankFile}
use Rattle.sqlite_store.specs.Unopened.{image}
use Rattle.sqlite_trees.specs.declared.error.StoreError.TheVariants.{Io}
use Rattle.sqlite_wal.specs.Files.{outcomes, seen_image}
use Rattle.sqlite_wal.specs.Reads.{are_clean}
use Rattle.bank_files.specs.declared.new_files.TheConstants.{PAGE_BYTES}
use Rattle.bank_files.proofs.new_files.make_store.Goals as goal

pub returns-in-Ok-made-clause-honest : goal.returns-in-Ok-made-clause-honest
returns-in-Ok-made-clause-honest g c clean =
    let it = c.in-Ok.files in
    sym ((pool_files it.pool).1 ∙ ap (λ f. are_clean g.D.Disk f.0 f.1) c.in-Ok.ensures.files)
    ∙ c.in-Ok-made.ensures.honest clean

pub returns-in-Ok-made-clause-counts : goal.returns-in-Ok-made-clause-counts
returns-in-Ok-made-clause-counts g c clean =
    let it = c.in-Ok.files in
    omega (
      arith,
      (pool_files it.pool).0,
      ap (λ f. g.D.Disk.faults f.0 + g.D.Disk.faults f.1) c.in-Ok.ensures.files,
      c.in-Ok-made.ensures.counts clean,
    )

pub returns-in-Err-made-clause-failed : goal.returns-in-Err-made-clause-failed
returns-in-Err-made-clause-failed g c clean =
    let it = c.in-Ok.files in
    let held = c.in-Ok.ensures in
    let e = c.in-Err-made.ensures in
    let honest = sym ((pool_files it.pool).1 ∙ ap (λ f. are_clean g.D.Disk f.0 f.1) held.files) ∙ e.falls clean in
    let blank = c.requires.blank honest in
    let seen : image it ≡ image_of g.D.Disk c.args.files = ap (λ f. seen_image g.D.Disk f.0 f.1) held.files in
    let failed = e.failed clean (subst (IsBlankFile PAGE_BYTES) (sym seen) blank) in
    record {
      left = inr (
        blank,
        λ left may. elim (failed.left left may) [
          | inl was ↦ inl (subst (λ f. outcomes g.D.Disk f.0 f.1 left) held.files ((pool_files it.pool).2 left was))
          | inr way ↦ inr way
        ],
      );
      kind = Io;
      cause = fails_wider _ _ _ _ _ _ _ c.in-Err-made.error
          (omega (arith, (pool_files it.pool).0, ap (λ f. g.D.Disk.faults f.0 + g.D.Disk.faults f.1) held.files))
          (λ full. full) (λ _. tt) failed.cause;
    }
