-- What the row that was met says of the numbers.
use Rattle.std.proofs.Common.{◌∙◌}
use Rattle.sqlite.specs.Held.{state}
use Rattle.store_rows.specs.{Rules.stored_rows, believed.Readings.read_closing}
use Rattle.store_rows.proofs.{StoredRows.holds_shown, TableKinds.holds, TheTables.closings}
use Rattle.bank_transactions.specs.believed.Answered.{met_in}
use Rattle.bank_transactions.proofs.{ClosedAnswers.closing_met, ClosedAnswers.met_broken, Exits.handed_on}
use Rattle.bank_transactions.proofs.{LookUps.finds_so, LookUps.looked_at, ReadsInTurn.find_failed}
use Rattle.bank_transactions.proofs.closings.closing_of.Goals as goal

pub row_met-requires : goal.row_met-requires
row_met-requires g c = c.requires

pub returns-in_err-met : goal.returns-in_err-met
returns-in_err-met g c = rw (handed_on c.from_residual.result c.from_residual.ensures.1) (record {
  says = find_failed (λ rows. met_in rows.closings c.args.row.now.first) read_closing
      (met_broken _ c.args.row.now.first _) c.in_err-met.ensures;
  stored = tt;
})

pub returns-clause-says : goal.returns-clause-says
returns-clause-says g c =
    let looks = c.in_ok-met.ensures in
    finds_so (looked_at {So = λ t. Unit {0}} looks) (λ clean t shows closed.
    c.closing_by.ensures
    ∙ closing_met t.closings c.args.row.now c.requires
    (holds closings (state g.S.Store c.args.tx.now.conn.now).now t shows).rows.rise closed c.in_ok-met.met
    (looks.answers clean (stored_rows t) (holds_shown (state g.S.Store c.args.tx.now.conn.now).now t shows)).0)

pub returns-clause-stored : goal.returns-clause-stored
returns-clause-stored g c clean = record {
  met = c.in_ok-met.met;
  stored = λ rows has. (c.in_ok-met.ensures.answers clean rows has).0;
  is = c.closing_by.ensures;
}
