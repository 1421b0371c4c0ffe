-- The store's disk is clean where the connection's is, and what a check leaves of a new store has no table.
use Rattle.std.proofs.Common.{ap, arith, inr, subst, sym, ◌∙◌}
use Rattle.sqlite.specs.Files.{IsEmpty, file_state}
use Rattle.sqlite_store.specs.FileStore.{view}
use Rattle.sqlite_store.specs.Laws.{settled_at}
use Rattle.sqlite_trees.proofs.Doubt.{clean_of, no_doubt}
use Rattle.bank_files.proofs.{FoundFiles.made_on, Leftovers.check_failed}
use Rattle.bank_files.proofs.open_files.make_over.Goals as goal

pub over-requires : goal.over-requires
over-requires g c none = (c.in_ok-store.ensures.ok (clean_of _ none)).fresh

pub returns-in-Ok-clause-opened : goal.returns-in-Ok-clause-opened
returns-in-Ok-clause-opened g c now =
    let store = c.in_ok-store.ensures in
    let clean = clean_of (view c.in_ok-store.store).is_clean (omega (arith, c.in-Ok.ensures.clean)) in
    let opens = (c.in-Ok.ensures.opens now).0 in
    made_on _ (file_state c.in-Ok.conn) (c.requires.blank (store.honest clean)) (record {
      opens = opens;
      empty = subst IsEmpty (sym (c.in-Ok.ensures.trees now) ∙ ap (λ d. d.trees) opens.clean) (store.ok clean).empty;
    })

pub returns-in-Err-clause-failed : goal.returns-in-Err-clause-failed
returns-in-Err-clause-failed g c late =
    let store = c.in_ok-store.ensures in
    let e = c.in-Err.ensures in
    let clean = clean_of (view c.in_ok-store.store).is_clean (omega (arith, no_doubt _ late, e.unharmed.clean)) in
    let made = store.ok clean in
    let failed = check_failed _ _ _ _ _ _ c.in-Err.error (store.counts clean) made.empty (e.err (no_doubt _ late)) in
    record {
      left = inr (
        c.requires.blank (store.honest clean),
        λ found may. subst IsEmpty (made.fresh.clean
            ∙ sym (settled_at c.in_ok-store.store g.met.D.Disk.seen_may_stay found made.is_open (e.unharmed.outcomes found may)))
            made.empty,
      );
      kind = failed.0;
      cause = failed.1;
    }
