-- The draft is the spelling, which is read again.
use Rattle.std.proofs.Common.{◌≡◌, length, arith}
use Rattle.message_records.proofs.{Composed.request_put, References.in_range, Requests.request_again}
use Rattle.message_records.proofs.writing.encode_request.Goals as goal

pub returns-clause-spelling : goal.returns-clause-spelling
returns-clause-spelling c =
    let len : length c.put_fields.new.draft ≡ 51 = omega arith in
    request_put c.args.request.now c.tag_of.result.now c.new-draft.result c.put_text.new.self
    c.put_fields.new.draft c.put_reference.new.draft c.finish.result c.tag_of.ensures.value
    c.new-draft.ensures.value c.put_text.ensures.value c.put_fields.ensures.value
    c.put_reference.ensures.value len c.finish.ensures

pub returns-clause-read_again : goal.returns-clause-read_again
returns-clause-read_again c =
    request_again c.args.request.now c.finish.result
    (in_range c.args.request.now c.put_fields.ensures.in_range c.put_reference.ensures.is_reference)
    (returns-clause-spelling c)
