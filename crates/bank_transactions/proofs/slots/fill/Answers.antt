-- What is kept of requests is filled after the rest.
use Rattle.std.proofs.Common.{List, map, sym, ap, subst, ◌∙◌}
use Rattle.std.specs.List.{AllByRecursion}
use Rattle.std.proofs.lemmas.Result.{on_ok_weaker}
use Rattle.sqlite.specs.Effect.{Database}
use Rattle.smallvec.specs.SmallVec.{with_items}
use Rattle.posting_batch.specs.{declared.slots.RequestSlot.RequestSlot, View.view}
use Rattle.store_rows.specs.believed.Rules.{HoldsBank}
use Rattle.bank_transactions.specs.Filling.{RequestHeld, unkept}
use Rattle.bank_transactions.proofs.{HeldSlots.put_back, ToldBooks.emptied_unkept, ToldBooks.gathers_then}
use Rattle.bank_transactions.proofs.LookUps.{reads_ok, reads_so, reads_wider}
use Rattle.bank_transactions.proofs.FilledBatch.{emptied_kept, handed_last, kept_after, nothing_asked, with_kept}
use Rattle.bank_transactions.proofs.Exits.{clean_at, handed_on}
use Rattle.bank_transactions.proofs.slots.fill.Goals as goal

pub returns-in_err-fill_known : goal.returns-in_err-fill_known
returns-in_err-fill_known g c =
    let rows = c.in_err-fill_known.ensures.new_rows in
    let same = handed_on c.from_residual.result c.from_residual.ensures.1 in
    rw same (record {
      new_rows = (rows.0, rows.1, rows.2);
      says = record { says = c.in_err-fill_known.ensures.says.says };
      same = tt;
      stored = tt;
      own = tt;
      closed = tt;
      remembers = tt;
    })

pub returns-clause-new_rows : goal.returns-clause-new_rows
returns-clause-new_rows g c =
    let rows = c.in_ok-fill_known.ensures.new_rows in (rows.0, rows.1, rows.2)

pub returns-clause-says : goal.returns-clause-says
returns-clause-says g c =
    let p = view c.fill_known.new.overlay in
    let kv = c.fill_known.new.overlay.kept in
    let held = ap (λ (slots : List RequestSlot). with_kept slots p)
    (put_back kv _ c.fill_all.new.slots c.deref_mut.ensures.value c.fill_all.auto.slots) in
    let known = reads_ok c.in_ok-fill_known.ensures.says in
    reads_wider (handed_last c.fill_all.result known c.fill_all.ensures.says (λ last.
    reads_so (kept_after known c.deref_mut.ensures.value last)
    (λ t so. (so, λ e. held ∙ e))))

-- ---- of whatever rows a file holds

pub returns-clause-same : goal.returns-clause-same
returns-clause-same g c =
    let p = view c.fill_known.new.overlay in
    let kv = c.fill_known.new.overlay.kept in
    on_ok_weaker c.fill_all.result (λ same. emptied_kept p (with_items kv c.fill_all.new.slots).items
    (emptied_unkept (with_items kv c.fill_all.new.slots).items p.kept
    (ap (map unkept) (put_back kv _ c.fill_all.new.slots c.deref_mut.ensures.value c.fill_all.auto.slots)
    ∙ same ∙ ap (map unkept) c.deref_mut.ensures.value))
    ∙ c.in_ok-fill_known.ensures.same) c.fill_all.ensures.same

pub returns-clause-closed : goal.returns-clause-closed
returns-clause-closed g c =
    let kv = c.fill_known.new.overlay.kept in
    on_ok_weaker c.fill_all.result (λ same.
    gathers_then g.S.Store c.args.tx.now c.fill_known.new.tx kv.items c.in_ok-fill_known.ensures.closed c.fill_all.new.tx
    (with_items kv c.fill_all.new.slots).items
    (ap (map unkept) (put_back kv _ c.fill_all.new.slots c.deref_mut.ensures.value c.fill_all.auto.slots)
    ∙ same ∙ ap (map unkept) c.deref_mut.ensures.value) (clean_at c.fill_all.ensures.says.says.survives))
    c.fill_all.ensures.same

pub returns-clause-stored : goal.returns-clause-stored
returns-clause-stored g c = on_ok_weaker c.fill_all.result (λ stored clean homes rows has.
    let kv = c.fill_known.new.overlay.kept in
    let one = c.in_ok-fill_known.ensures in
    let before = clean_at c.fill_all.ensures.says.says.survives clean in
    let first = one.stored before homes rows has in
    let has1 = subst (λ (db : Database). HoldsBank db rows) (sym (one.says.says.leaves before).0.now) has in
    record {
      branches = first.branches;
      floors = first.floors;
      tellers = first.tellers;
      accounts = first.accounts;
      kept = subst (λ (slots : List RequestSlot). AllByRecursion (RequestHeld rows) slots)
          (sym (put_back kv _ c.fill_all.new.slots c.deref_mut.ensures.value c.fill_all.auto.slots))
          (stored clean rows has1 (nothing_asked _));
      decided = first.decided;
    }) c.fill_all.ensures.stored

pub returns-clause-own : goal.returns-clause-own
returns-clause-own g c = on_ok_weaker c.fill_all.result (λ done clean.
    c.in_ok-fill_known.ensures.own (clean_at c.fill_all.ensures.says.says.survives clean)) c.fill_all.ensures.own

-- ---- what is remembered

pub fill_known-requires : goal.fill_known-requires
fill_known-requires g c = c.requires

pub fill_all-requires : goal.fill_all-requires
fill_all-requires g c = c.in_ok-fill_known.ensures.remembers

pub returns-clause-remembers : goal.returns-clause-remembers
returns-clause-remembers g c = c.fill_all.ensures.remembers
