-- The rows begin with the text.
use Rattle.std.proofs.Common.{◌≡◌, Some, Err, rules}
use Rattle.branch_loader.proofs.Remain.{start}
use Rattle.posting_sheets.specs.{Sheets.sheet_of}
use Rattle.posting_sheets.proofs.Begun.{begun-ends, begun-fault, rows-ends}
use Rattle.posting_sheets.proofs.decode.decode_beside_text.Goals as goal

pub returns-in_err-new-clause-decodes : goal.returns-in_err-new-clause-decodes
returns-in_err-new-clause-decodes g c =
    let same : c.from_residual.result ≡ Err c.in_err-new.field-0.0 = search rules in
    rw same (begun-fault _ (sheet_of c.args.text.now) _ _ c.in_err-new.field-0.0 (c.in_err-new.ensures.begun _
    (start _ c.from_reader-source.result (Some c.args.text.now) c.from_reader-source.ensures.source
    c.from_reader-source.ensures.state)))

pub returns-in_err-new-clause-ends : goal.returns-in_err-new-clause-ends
returns-in_err-new-clause-ends g c =
    let same : c.from_residual.result ≡ Err c.in_err-new.field-0.0 = search rules in
    rw same (begun-ends (sheet_of c.args.text.now) c.in_err-new.field-0.0 _ _ _ _ (c.in_err-new.ensures.begun _
    (start _ c.from_reader-source.result (Some c.args.text.now) c.from_reader-source.ensures.source
    c.from_reader-source.ensures.state)))

pub returns-clause-decodes : goal.returns-clause-decodes
returns-clause-decodes g c =
    let at = c.in_ok-new.ensures.begun _ (start _ c.from_reader-source.result (Some c.args.text.now)
    c.from_reader-source.ensures.source c.from_reader-source.ensures.state) in
    c.decode_lines-end.ensures.decodes (Some (sheet_of c.args.text.now)) at

pub returns-clause-ends : goal.returns-clause-ends
returns-clause-ends g c =
    let at = c.in_ok-new.ensures.begun _ (start _ c.from_reader-source.result (Some c.args.text.now)
    c.from_reader-source.ensures.source c.from_reader-source.ensures.state) in
    rows-ends c.decode_lines-end.result _ _ _ _ _
    (c.decode_lines-end.ensures.ends (Some (sheet_of c.args.text.now)) at)
