-- What the row of a reference tells.
use Rattle.std.proofs.Common.{sym, ap, ◌∙◌}
use Rattle.std.specs.Prelude.{option_map}
use Rattle.posting_rules.specs.believed.LookUps.{text_of_reference}
use Rattle.store_rows.specs.believed.{Readings.read_reference, Rules.row_under}
use Rattle.bank_transactions.proofs.{Broken.reference_broken, SoundRows.reference_found}
use Rattle.bank_transactions.proofs.ReadsInTurn.{find_failed, find_tells}
use Rattle.bank_transactions.proofs.Exits.{handed_on}
use Rattle.bank_transactions.proofs.look_ups.reference_at.Goals as goal

pub returns-in_err-row : goal.returns-in_err-row
returns-in_err-row g c =
    let same = handed_on c.from_residual.result c.from_residual.ensures.1 in
    rw same (record {
      says = find_failed (λ rows. row_under rows.references c.args.ordinal) read_reference
          (reference_broken _ c.args.ordinal _) c.in_err-row.ensures.says;
      stored = tt;
    })

pub returns-in_default-clause-says : goal.returns-in_default-clause-says
returns-in_default-clause-says g c =
    find_tells (λ rows. row_under rows.references c.args.ordinal) read_reference _ c.in_ok-row.ensures.says
    (λ t sound finds. ap (option_map text_of_reference)
    (sym c.in_default.is ∙ reference_found t c.args.ordinal sound _ finds))

pub returns-clause-says : goal.returns-clause-says
returns-clause-says g c =
    find_tells (λ rows. row_under rows.references c.args.ordinal) read_reference _ c.in_ok-row.ensures.says
    (λ t sound finds. ap (option_map text_of_reference)
    (sym c.in-Some.is ∙ reference_found t c.args.ordinal sound _ finds))
