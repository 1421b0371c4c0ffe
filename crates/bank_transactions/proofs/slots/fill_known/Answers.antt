-- What closed books say is filled after the rows.
use Rattle.std.proofs.Common.{map, ap, ◌∙◌}
use Rattle.std.proofs.lemmas.Result.{on_ok_weaker}
use Rattle.smallvec.specs.SmallVec.{SmallVec}
use Rattle.posting_batch.specs.{declared.slots.RequestSlot.RequestSlot, View.view}
use Rattle.bank_transactions.specs.Filling.{unbooked}
use Rattle.bank_transactions.proofs.LookUps.{reads_ok, reads_wider}
use Rattle.bank_transactions.proofs.FilledBatch.{books_after, emptied_kept, handed_last}
use Rattle.bank_transactions.proofs.ToldBooks.{emptied_unbooked, gathers_since}
use Rattle.bank_transactions.proofs.Exits.{clean_at, handed_on}
use Rattle.bank_transactions.proofs.slots.fill_known.Goals as goal

pub fill_rows-requires : goal.fill_rows-requires
fill_rows-requires g c = c.requires

pub fill_books-requires : goal.fill_books-requires
fill_books-requires g c = c.in_ok-fill_rows.ensures.remembers

pub returns-in_err-fill_rows : goal.returns-in_err-fill_rows
returns-in_err-fill_rows g c =
    let rows = c.in_err-fill_rows.ensures.new_rows in
    rw (handed_on c.from_residual.result c.from_residual.ensures.1) (record {
      new_rows = (rows.0, rows.1, rows.2, ap (λ (v : SmallVec RequestSlot). map unbooked v.items) rows.3);
      says = record { says = c.in_err-fill_rows.ensures.says.says };
      same = tt;
      stored = tt;
      own = tt;
      closed = tt;
      remembers = tt;
    })

pub returns-clause-new_rows : goal.returns-clause-new_rows
returns-clause-new_rows g c =
    let rows = c.in_ok-fill_rows.ensures.new_rows in (
      rows.0,
      rows.1,
      rows.2,
      c.fill_books.ensures.same ∙ ap (λ (v : SmallVec RequestSlot). map unbooked v.items) rows.3,
    )

pub returns-clause-says : goal.returns-clause-says
returns-clause-says g c =
    let rows = reads_ok c.in_ok-fill_rows.ensures.says in
    reads_wider (handed_last c.fill_books.result rows c.fill_books.ensures.says
    (books_after rows (ap (λ (v : SmallVec RequestSlot). v.items) c.in_ok-fill_rows.ensures.new_rows.3)))

pub returns-clause-same : goal.returns-clause-same
returns-clause-same g c =
    let p = view c.fill_rows.new.overlay in
    on_ok_weaker c.fill_books.result (λ closed.
    emptied_kept p c.fill_books.new.slots.items
    (emptied_unbooked c.fill_books.new.slots.items p.kept c.fill_books.ensures.same) ∙ c.in_ok-fill_rows.ensures.same)
    c.fill_books.ensures.closed

pub returns-clause-stored : goal.returns-clause-stored
returns-clause-stored g c = on_ok_weaker c.fill_books.result (λ closed clean homes rows has.
    let held = c.in_ok-fill_rows.ensures.stored (clean_at c.fill_books.ensures.says.says.survives clean) homes rows has in
    record {
      branches = held.branches;
      floors = held.floors;
      tellers = held.tellers;
      accounts = held.accounts;
      decided = held.decided;
    }) c.fill_books.ensures.closed

pub returns-clause-own : goal.returns-clause-own
returns-clause-own g c = on_ok_weaker c.fill_books.result (λ closed clean.
    c.in_ok-fill_rows.ensures.own (clean_at c.fill_books.ensures.says.says.survives clean)) c.fill_books.ensures.closed

pub returns-clause-closed : goal.returns-clause-closed
returns-clause-closed g c = on_ok_weaker c.fill_books.result (λ closed.
    gathers_since g.S.Store c.fill_rows.new.tx c.fill_books.new.tx c.fill_books.new.slots.items closed c.args.tx.now
    (λ clean. (c.in_ok-fill_rows.ensures.says.says.leaves clean).0.now)
    (clean_at c.fill_books.ensures.says.says.survives)) c.fill_books.ensures.closed

pub returns-clause-remembers : goal.returns-clause-remembers
returns-clause-remembers g c = c.fill_books.ensures.remembers
