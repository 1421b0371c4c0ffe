-- The header.
use Rattle.std.proofs.Common.{◌∙◌, sym}
use Rattle.csv.specs.Records.{fields_of}
use Rattle.posting_sheets.proofs.Rowed.{begun, begun-not}
use Rattle.posting_sheets.proofs.rows.Rows.new.Goals as goal

pub returns-then-not-found-clause-begun : goal.returns-then-not-found-clause-begun
returns-then-not-found-clause-begun g c all left =
    begun-not (g.S.RecordSource.has_left c.next_record.new.source) c.in-Ok.found
    (fields_of c.next_record.new.fields) all (c.in-Ok.ensures.takes all left)
    (λ found. cc (found, c.if-not-found.true))

pub returns-in-Some-clause-begun : goal.returns-in-Some-clause-begun
returns-in-Some-clause-begun g c all left =
    begun g.S.RecordSource.has_left _ c.in-Ok.found (fields_of c.next_record.new.fields) all
    (c.in-Ok.ensures.takes all left) c.if-not-found.false (sym c.form_of.ensures ∙ c.in-Some.is)

pub returns-in-None-clause-begun : goal.returns-in-None-clause-begun
returns-in-None-clause-begun g c all left =
    begun-not (g.S.RecordSource.has_left c.next_record.new.source) c.in-Ok.found
    (fields_of c.next_record.new.fields) all (c.in-Ok.ensures.takes all left)
    (λ found. sym c.form_of.ensures ∙ c.in-None.is)
