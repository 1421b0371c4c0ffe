use Rattle.std.proofs.Common.{◌≡◌, ◌++◌, ◌∙◌, List, ℕ, Some, ap, subst, sym}
use Rattle.branch_loader.proofs.Remain.{start}
use Rattle.posting_sheets.specs.{Encoding.IsPutSo, Sheets.sheet_of}
use Rattle.posting_sheets.proofs.encode.records_of_text.Goals as goal

pub returns : goal.returns
returns c =
    let put = c.put_records-end.ensures _ (start _ c.from_reader-source.result (Some c.args.text.now)
    c.from_reader-source.ensures.source c.from_reader-source.ensures.state) in
    let all : c.put_records-end.new.records.items ≡ put.0 = put.1
    ∙ ap (λ (t : List ℕ). t ++ put.0) c.new-records.ensures.items in
    subst (λ (t : List ℕ). IsPutSo (sheet_of c.args.text.now) c.put_records-end.result t) (sym all) put.2
