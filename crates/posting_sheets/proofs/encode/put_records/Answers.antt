use Rattle.std.proofs.Common.{◌≡◌, ◌+◌, ◌++◌, ◌∙◌, true, false, List, ℕ, is_ok, rules, refl, sym, ap}
use Rattle.csv.specs.Records.{fields_of}
use Rattle.posting_sheets.proofs.Sheeted.{put-all, put-fault, put-first, put-no_header, put-nothing, put-row}
use Rattle.posting_sheets.proofs.Sheeted.{put-some}
use Rattle.posting_sheets.proofs.encode.put_records.Goals as goal

pub returns-in_default : goal.returns-in_default
returns-in_default g c all left = put-nothing all c.args.records.now.items

pub returns-then-not-found : goal.returns-then-not-found
returns-then-not-found g c all left =
    put-no_header (g.S.RecordSource.has_left c.next_record.new.source) c.in-Ok.found
    (fields_of c.next_record.new.fields) all c.args.records.now.items (c.in-Ok.ensures.takes all left)
    (λ found. cc (found, c.if-not-found.true))

pub returns-in_default-form_of : goal.returns-in_default-form_of
returns-in_default-form_of g c all left =
    put-no_header (g.S.RecordSource.has_left c.next_record.new.source) c.in-Ok.found
    (fields_of c.next_record.new.fields) all c.args.records.now.items (c.in-Ok.ensures.takes all left)
    (λ found. sym c.form_of.ensures ∙ c.in_default-form_of.is)

pub rows-init : goal.rows-init
rows-init g c = record {
  plain = c.in-Ok.ensures.plain;
  put = λ all left. put-first (g.S.RecordSource.has_left c.next_record.new.source) c.in-Ok.found
      (fields_of c.next_record.new.fields) all c.in-Some.form c.args.records.now.items
      (c.in-Ok.ensures.takes all left) c.if-not-found.false (sym c.form_of.ensures ∙ c.in-Some.is);
}

-- memory was refused
pub returns-in_default-next_record : goal.returns-in_default-next_record
returns-in_default-next_record g c all left = put-some (c.rows.invariant.put all left)

pub returns-then-is_err : goal.returns-then-is_err
returns-then-is_err g c all left =
    let refused : is_ok c.extend_from_slice.result ≡ false = search rules in
    rw (rw refused at c.extend_from_slice.ensures.items) (put-some (c.rows.invariant.put all left))

-- or there are too many rows
pub returns : goal.returns
returns g c all left = put-some (c.rows.invariant.put all left)

-- the sheet ended
pub returns-then-not-found-2 : goal.returns-then-not-found-2
returns-then-not-found-2 g c all left =
    let put = c.rows.invariant.put all left in
    put-all (g.S.RecordSource.has_left c.next_record-in-rows.new.source) c.in-Ok-next_record.found
    (fields_of c.next_record-in-rows.new.fields) put
    (c.in-Ok-next_record.ensures.takes put.rest put.there) c.if-not-found-2.true

-- a row states no posting
pub returns-in-Err : goal.returns-in-Err
returns-in-Err g c all left =
    let put = c.rows.invariant.put all left in
    put-fault (g.S.RecordSource.has_left c.next_record-in-rows.new.source) c.in-Ok-next_record.found
    (fields_of c.next_record-in-rows.new.fields) c.in-Err.bad (c.rows.count + 1) put
    (c.in-Ok-next_record.ensures.takes put.rest put.there) c.if-not-found-2.false
    (sym c.request_of_row.ensures ∙ c.in-Err.is) refl

-- a row states one
pub rows-preserved : goal.rows-preserved
rows-preserved g c =
    let good : is_ok c.extend_from_slice.result ≡ true = search rules in
    let items = rw good at c.extend_from_slice.ensures.items in
    record {
      plain = c.in-Ok-next_record.ensures.plain;
      put = λ all left.
          let put = c.rows.invariant.put all left in
          put-row c.in-Ok-next_record.found (fields_of c.next_record-in-rows.new.fields)
          c.in-Ok-request_of_row.request (c.rows.count + 1) c.extend_from_slice.new.self.items put
          (c.in-Ok-next_record.ensures.takes put.rest put.there) c.if-not-found-2.false
          (sym c.request_of_row.ensures ∙ c.in-Ok-request_of_row.is) refl
          (items ∙ ap (λ (t : List ℕ). c.rows.records.items ++ t) c.encode_request.ensures.spelling);
    }
