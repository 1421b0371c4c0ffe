-- The seal, if there is one, is the first.
use Rattle.std.proofs.Common.{◌∷◌, [], pos, Some, None, Ok, Option, subst}
use Rattle.posting_rules.specs.declared.rows.ClosingRow.{ClosingRow}
use Rattle.sql_meanings.specs.believed.Entries.{has_key}
use Rattle.store_rows.specs.believed.{Readings.read_closing, Rules.row_under, Stored.FindsStored}
use Rattle.bank_transactions.proofs.{Broken.closing_broken, ClosedRows.reads_seal, Exits.handed_on, ReadsInTurn.find_failed}
use Rattle.bank_transactions.proofs.gathering.gather_seal.Goals as goal

pub returns-in_err-row-clause-says : goal.returns-in_err-row-clause-says
returns-in_err-row-clause-says g c =
    rw (handed_on c.from_residual.result c.from_residual.ensures.1)
    (find_failed (λ rows. row_under rows.closings 0) read_closing (closing_broken _ (has_key (pos 0)) _)
    c.in_err-row.ensures.looks_up)

pub returns-in-Some-clause-told : goal.returns-in-Some-clause-told
returns-in-Some-clause-told g c = (
  c.in-Some.row ∷ [],
  c.add.ensures.told [] c.requires,
  λ clean file rows holds.
      reads_seal rows (Some c.in-Some.row) holds.rows.rise
      (subst (λ (o : Option ClosingRow). FindsStored (row_under rows 0) read_closing (Ok o)) c.in-Some.is
      (c.in_ok-row.ensures.lies clean file rows holds)),
)

pub returns-in_default-clause-told : goal.returns-in_default-clause-told
returns-in_default-clause-told g c = (
  [],
  c.requires,
  λ clean file rows holds.
      reads_seal rows None holds.rows.rise
      (subst (λ (o : Option ClosingRow). FindsStored (row_under rows 0) read_closing (Ok o)) c.in_default.is
      (c.in_ok-row.ensures.lies clean file rows holds)),
)
