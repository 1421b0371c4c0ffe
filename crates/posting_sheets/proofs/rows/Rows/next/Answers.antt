-- The row after so many.
use Rattle.std.proofs.Common.{◌∙◌, refl, sym}
use Rattle.csv.specs.Records.{fields_of}
use Rattle.posting_sheets.proofs.Rowed.{after-fault, after-last, after-row}
use Rattle.posting_sheets.proofs.rows.Rows.next.Goals as goal

pub returns-then-not-found-clause-next : goal.returns-then-not-found-clause-next
returns-then-not-found-clause-next g c postings a =
    after-last (g.S.RecordSource.has_left c.next_record.new.source) c.in-Ok.found
    (fields_of c.next_record.new.fields) a (c.in-Ok.ensures.takes a.rest a.there) c.if-not-found.true

pub returns-in-Ok-request_of_row-clause-next : goal.returns-in-Ok-request_of_row-clause-next
returns-in-Ok-request_of_row-clause-next g c postings a =
    after-row _ c.in-Ok.found (fields_of c.next_record.new.fields) c.in-Ok-request_of_row.request a
    (c.in-Ok.ensures.takes a.rest a.there) c.if-not-found.false
    (sym c.request_of_row.ensures ∙ c.in-Ok-request_of_row.is) refl

pub returns-in-Err-clause-next : goal.returns-in-Err-clause-next
returns-in-Err-clause-next g c postings a =
    after-fault (g.S.RecordSource.has_left c.next_record.new.source) c.in-Ok.found
    (fields_of c.next_record.new.fields) c.in-Err.bad a (c.in-Ok.ensures.takes a.rest a.there) c.if-not-found.false
    (sym c.request_of_row.ensures ∙ c.in-Err.is)
