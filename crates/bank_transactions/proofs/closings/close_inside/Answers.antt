-- What is answered where some of the numbers are closed, and what is added where none is.
use Rattle.std.proofs.Common.{◌≡◌, true, Result, Err, refl, rules, sym, ap, ◌∙◌}
use Rattle.std.specs.Prelude.{is_some}
use Rattle.sqlite.specs.{Held.state, declared.transaction.Transaction.Transaction}
use Rattle.sqlite_trees.specs.declared.store.Store.{Ghosts}
use Rattle.posting_rules.specs.{Changes.with_closing, declared.rows.ClosingRow.ClosingRow}
use Rattle.posting_rules.specs.believed.{Closings.are_free, Damage.IsSoundClosing, Tables.closing_key, Tables.row_at}
use Rattle.store_rows.specs.believed.{BankTables.closing, Inserts.closing_insert, SeveralRows.given, View.closing_entry}
use Rattle.store_rows.specs.{Calls.AddsRow, declared.fault.TableFault.TableFault}
use Rattle.bank_transactions.specs.{Doing.Does, believed.Additions.AddsClosing, believed.Closed.AreClosed}
use Rattle.bank_transactions.proofs.Chained.{acts_read, acts_wrote, does_both, does_but, does_tell, still_in}
use Rattle.bank_transactions.proofs.ClosedAnswers.{closed_free, key_free, makes_since, not_free, now_closed, stays_closed}
use Rattle.bank_transactions.proofs.{Exits.clean_at, Exits.handed_on, Statements.does_add}
use Rattle.bank_transactions.proofs.LookUps.{acts_stray, does_look, reads_wider}
use Rattle.bank_transactions.proofs.closings.close_inside.Goals as goal

-- the row is put in
puts : {S : Type 0} (row : ClosingRow) → IsSoundClosing row → (g : Ghosts S) (old new : Transaction S)
    (r : Result (Unit {0}) TableFault)
    → AddsRow g old new closing_insert (given (closing_entry row)) closing
    (λ t. is_some (row_at closing_key t.closings row.last)) (with_closing row) r
    → Does {X = Unit {0}} g (AddsClosing row) old new
    (λ t. AreClosed t.closings × (are_free t.closings row.first row.last ≡ true)) (with_closing row) (λ _. tt {0}) r
puts row sound g old new r says = does_add g old new closing_insert (given (closing_entry row)) closing
    (λ t. is_some (row_at closing_key t.closings row.last)) (with_closing row) r says (refl, refl)
    (λ t so. ap is_some (key_free t.closings row sound so.0 so.1))

pub closing_of-requires : goal.closing_of-requires
closing_of-requires g c = c.requires

pub returns-in_err-closing : goal.returns-in_err-closing
returns-in_err-closing g c = rw (handed_on c.from_residual.result c.from_residual.ensures.1)
    (record { acts = acts_stray (reads_wider c.in_err-closing.ensures.says); stored = tt })

pub returns-in_default-clause-acts : goal.returns-in_default-clause-acts
returns-in_default-clause-acts g c =
    let row = c.args.row.now in
    acts_read (does_tell (does_look c.in_ok-closing.ensures.says) (λ t closed. (
      closed,
      λ found. (
        stays_closed t row (not_free t.closings row.first row.last (λ is. c.in_default.not-Closed (found ∙ sym is))),
        found,
      ),
    )))

pub returns-in_err-add_closing-in-Closed : goal.returns-in_err-add_closing-in-Closed
returns-in_err-add_closing-in-Closed g c =
    let row = c.args.row.now in
    let same : c.from_residual-in_err-add_closing-in-Closed.result ≡ Err c.in_err-add_closing-in-Closed.field-0.0
    = search rules in
    rw same (record {
      acts = acts_wrote (does_but (does_look c.in_ok-closing.ensures.says)
          (puts row c.requires g.S.Store _ _ _ c.in_err-add_closing-in-Closed.ensures.adds)
          (λ t closed found. (closed, closed_free t.closings row.first row.last (sym c.in-Closed.is ∙ found))));
      stored = tt;
    })

pub returns-in_ok-add_closing-in-Closed-clause-acts : goal.returns-in_ok-add_closing-in-Closed-clause-acts
returns-in_ok-add_closing-in-Closed-clause-acts g c =
    let row = c.args.row.now in
    acts_wrote (does_both (does_look c.in_ok-closing.ensures.says)
    (puts row c.requires g.S.Store _ _ _ c.in_ok-add_closing-in-Closed.ensures.adds)
    (λ t closed found.
    let is = sym c.in-Closed.is ∙ found in
    let free = closed_free t.closings row.first row.last is in
    ((closed, free), now_closed t row free, is)))

-- ---- of whatever rows the file holds

pub returns-in_default-clause-stored : goal.returns-in_default-clause-stored
returns-in_default-clause-stored g c clean live = record {
  answers = c.in_ok-closing.ensures.stored clean;
  stays = λ other. (c.in_ok-closing.ensures.says.says.leaves clean).0.now;
  wrote = λ is. absurd (c.in_default.not-Closed is);
}

pub returns-in_ok-add_closing-in-Closed-clause-stored : goal.returns-in_ok-add_closing-in-Closed-clause-stored
returns-in_ok-add_closing-in-Closed-clause-stored g c clean live =
    let added = c.in_ok-add_closing-in-Closed.ensures in
    let mid = clean_at added.adds.survives clean in
    let looked = (c.in_ok-closing.ensures.says.says.leaves mid).0 in
    let goes_on = still_in (state g.S.Store c.args.tx.now.conn.now) (state g.S.Store c.closing_of.new.tx.conn.now)
    looked.goes_on live in
    record {
      answers = rw c.in-Closed.is at (c.in_ok-closing.ensures.stored mid);
      stays = λ other. absurd (other refl);
      wrote = λ is. makes_since looked.now (added.adds.leaves clean goes_on).2;
    }
