-- What the row of a kept request tells, and the row of its reference.
use Rattle.std.proofs.Common.{ℕ, pos, find, List, Option, Ok, Some, refl, sym, ap, subst, ◌∙◌}
use Rattle.std.specs.Prelude.{option_map}
use Rattle.sqlite.specs.Effect.{Database}
use Rattle.posting_rules.specs.believed.{Kept.KeptFields, Kept.kept_with, LookUps.kept_of_row}
use Rattle.posting_rules.specs.declared.rows.RequestRow.{RequestRow}
use Rattle.sql_meanings.specs.believed.Entries.{has_two}
use Rattle.store_rows.specs.{Columns.request_in, believed.Readings.read_request, believed.Rules.HoldsBank}
use Rattle.store_rows.specs.believed.{Rules.StoredRows, Stored.FindsStored}
use Rattle.bank_transactions.specs.believed.Stored.{HoldsKept, HoldsReference}
use Rattle.bank_transactions.proofs.{Broken.request_broken, SoundRows.request_found}
use Rattle.bank_transactions.proofs.LookUps.{looked_at, reads_both, reads_but}
use Rattle.bank_transactions.proofs.ReadsInTurn.{find_failed, find_tells}
use Rattle.bank_transactions.proofs.Exits.{clean_at, handed_on}
use Rattle.bank_transactions.proofs.look_ups.kept_request.Goals as goal

pub returns-in_err-row : goal.returns-in_err-row
returns-in_err-row g c =
    let same = handed_on c.from_residual.result c.from_residual.ensures.1 in
    rw same (record {
      says = find_failed (λ rows. find (has_two (pos c.args.teller) (pos c.args.number)) rows.requests) read_request
          (request_broken _ c.args.teller c.args.number _) c.in_err-row.ensures.says;
      stored = tt;
    })

pub returns-in_default-clause-says : goal.returns-in_default-clause-says
returns-in_default-clause-says g c =
    find_tells (λ rows. find (has_two (pos c.args.teller) (pos c.args.number)) rows.requests) read_request _
    c.in_ok-row.ensures.says
    (λ t sound finds. ap (option_map (kept_of_row t.references))
    (sym c.in_default.is ∙ request_found t c.args.teller c.args.number sound _ finds))

pub returns-in_err-reference : goal.returns-in_err-reference
returns-in_err-reference g c =
    let same = handed_on c.from_residual-in_err-reference.result c.from_residual-in_err-reference.ensures.1 in
    rw same (record {
      says = reads_but (looked_at c.in_ok-row.ensures.says) c.in_err-reference.ensures.says;
      stored = tt;
    })

pub returns-clause-says : goal.returns-clause-says
returns-clause-says g c =
    let row = c.in-Some.row in
    let first = find_tells (λ rows. find (has_two (pos c.args.teller) (pos c.args.number)) rows.requests) read_request
    {w = λ t. request_in t c.args.teller c.args.number} _ c.in_ok-row.ensures.says
    (λ t sound finds. sym c.in-Some.is ∙ request_found t c.args.teller c.args.number sound _ finds) in
    reads_both first c.in_ok-reference.ensures.says (λ t sound at. sound) (λ t sound at its.
    ap Some c.kept_with.ensures ∙ ap (λ reference. Some (kept_with reference row.decision)) its
    ∙ ap (option_map (kept_of_row t.references)) at)

-- a row and the reference under its ordinal
kept_held : (rows : StoredRows) (teller number : ℕ) (row : RequestRow) (reference : Option (List ℕ))
    → FindsStored (find (has_two (pos teller) (pos number)) rows.requests) read_request (Ok (Some row))
    → HoldsReference rows row.ordinal reference
    → HoldsKept rows teller number (Some (kept_with reference row.decision))
kept_held rows teller number row reference found held = (found.0, row, found.1, found.2, refl, held)

pub returns-clause-stored : goal.returns-clause-stored
returns-clause-stored g c clean rows has =
    let mid = clean_at c.in_ok-reference.ensures.says.says.survives clean in
    let found = rw c.in-Some.is at ((c.in_ok-row.ensures.says.answers mid rows has).0) in
    let there = subst (λ (db : Database). HoldsBank db rows) (sym (c.in_ok-row.ensures.says.leaves mid).0.now_is) has in
    subst (λ (kept : KeptFields). HoldsKept rows c.args.teller c.args.number (Some kept))
    (sym c.kept_with.ensures)
    (kept_held rows c.args.teller c.args.number c.in-Some.row c.in_ok-reference.reference found
    (c.in_ok-reference.ensures.stored clean rows there))
