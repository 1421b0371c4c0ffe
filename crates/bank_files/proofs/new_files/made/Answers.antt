-- A store that was made has the version of the schema alone, and no tree. Where it wasn't, no table was asked for.
use Rattle.std.proofs.Common.{ap, arith, inl, inr, le_refl, refl, subst, sym, ◌∙◌}
use Rattle.std.proofs.Math.Logic.{∥∥₁_map}
use Rattle.std.proofs.lemmas.List.Elements.{All-nil}
use Rattle.sqlite.proofs.FileLemmas.{from_store}
use Rattle.sqlite_pool.specs.Opening.{IsBlankFile}
use Rattle.sqlite_store.proofs.StoreLemmas.{limit_wider}
use Rattle.sqlite_store.specs.Build.{CanBuild}
use Rattle.sqlite_store.specs.Unopened.{image, state_of}
use Rattle.sqlite_store.specs.{Listed.catalog_rows, Listing.listed_from}
use Rattle.sqlite_trees.proofs.Doubt.{no_doubt}
use Rattle.bank_files.proofs.new_files.made.Goals as goal

pub returns-in-Ok-clause-ok : goal.returns-in-Ok-clause-ok
returns-in-Ok-clause-ok g c clean =
    let e = c.in-Ok.ensures in
    record {
      fresh = record {
        sound = e.ready.sound (no_doubt _ clean);
        numbered = e.numbered;
        clean = e.ready.clean;
        unmarked = e.ready.unmarked;
      };
      is_open = e.ready.is_open (no_doubt _ clean);
      empty = (
        λ tree low. ap (λ d. d tree) e.ready.clean ∙ e.empty clean tree low,
        rw clean (catalog_rows _ _ _ ∙ ap (listed_from 0) (e.schema ∙ c.requires.none)),
      );
    }

pub returns-in-Ok-clause-counts : goal.returns-in-Ok-clause-counts
returns-in-Ok-clause-counts g c clean = omega (arith, (c.in-Ok.ensures.kept clean).counts, c.in-Ok.ensures.counted)

pub returns-in-Err-clause-failed : goal.returns-in-Err-clause-failed
returns-in-Err-clause-failed g c clean blank =
    let e = c.in-Err.ensures in
    let none = c.requires.none in
    let kept = e.unharmed clean in
    let held : IsBlankFile (state_of c.args.files).page_size (image c.args.files) = rw c.requires.size blank in
    record {
      left = λ left may. elim (kept.blank held left may) [
        | inl was ↦ inl was
        | inr way ↦ inr (rw (c.requires.size, none) at way)
      ];
      cause = rw c.open_error.ensures.value
          (from_store _ _ _ _ _ _ c.in-Err.error (le_refl _) kept.counts (λ _. record {
            few = rw none (omega arith);
            files = inl held;
            schema = subst CanBuild (sym none) (record { distinct = refl; shaped = All-nil _; short = All-nil _ });
          }) (limit_wider _ _ _ _ _ c.in-Err.error (λ stop. ∥∥₁_map stop (λ why. elim why [
            | inl full ↦ full
            | inr deep ↦ absurd (deep.0 (e.back ∙ none))
          ])) (e.cause clean)));
    }
