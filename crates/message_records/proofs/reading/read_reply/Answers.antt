-- Each field is read after those before it, up to the first faulty one.
use Rattle.std.proofs.Common.{rules, ◌≡◌, ◌∙◌, Err}
use Rattle.message_records.proofs.FirstFaults.{outcome_read, tag_faulty, outcome_faulty, request_faulty}
use Rattle.message_records.proofs.FirstFaults.{balance_faulty, name_faulty, filler_faulty, parts_found}
use Rattle.message_records.proofs.reading.read_reply.Goals as goal

pub returns-then-ne : goal.returns-then-ne
returns-then-ne c = tag_faulty c.args.bytes.now c.if-ne.ensures

pub returns-in_err-outcome : goal.returns-in_err-outcome
returns-in_err-outcome c =
    let same : c.from_residual.result ≡ Err c.in_err-outcome.field-0.0 = search rules in
    same
    ∙ outcome_faulty c.args.bytes.now _ c.if-ne.ensures
    (outcome_read c.args.bytes.now _ _ c.read_outcome.ensures c.in_err-outcome.ensures.value)

pub returns-in_err-request : goal.returns-in_err-request
returns-in_err-request c =
    let same : c.from_residual-in_err-request.result ≡ Err c.in_err-request.field-0.0 = search rules in
    same
    ∙ request_faulty c.args.bytes.now _ c.in_ok-outcome.outcome c.if-ne.ensures
    (outcome_read c.args.bytes.now _ _ c.read_outcome.ensures c.in_ok-outcome.ensures.value)
    c.in_err-request.ensures.value

pub returns-in_err-balance : goal.returns-in_err-balance
returns-in_err-balance c =
    let same : c.from_residual-in_err-balance.result ≡ Err c.in_err-balance.field-0.0 = search rules in
    same
    ∙ balance_faulty c.args.bytes.now _ c.in_ok-outcome.outcome c.in_ok-request.request c.if-ne.ensures
    (outcome_read c.args.bytes.now _ _ c.read_outcome.ensures c.in_ok-outcome.ensures.value)
    c.in_ok-request.ensures.value c.in_err-balance.ensures.value

pub returns-then-not-is_filled : goal.returns-then-not-is_filled
returns-then-not-is_filled c =
    name_faulty c.args.bytes.now c.as_bytes.result.now c.in_ok-outcome.outcome c.in_ok-request.request
    c.in_ok-balance.balance
    (record {
      tag = c.if-ne.ensures;
      outcome = outcome_read c.args.bytes.now _ _ c.read_outcome.ensures c.in_ok-outcome.ensures.value;
      request = c.in_ok-request.ensures.value;
      balance = c.in_ok-balance.ensures.value;
    })
    (c.as_bytes.ensures.value ∙ c.name.ensures) c.if-not-is_filled.ensures

pub returns-then-ne-2 : goal.returns-then-ne-2
returns-then-ne-2 c =
    filler_faulty c.args.bytes.now c.as_bytes.result.now c.in_ok-outcome.outcome c.in_ok-request.request
    c.in_ok-balance.balance
    (record {
      tag = c.if-ne.ensures;
      outcome = outcome_read c.args.bytes.now _ _ c.read_outcome.ensures c.in_ok-outcome.ensures.value;
      request = c.in_ok-request.ensures.value;
      balance = c.in_ok-balance.ensures.value;
    })
    (c.as_bytes.ensures.value ∙ c.name.ensures) c.if-not-is_filled.ensures c.if-ne-2.ensures

pub returns : goal.returns
returns c =
    c.ok_or-2.ensures.value
    ∙ parts_found c.args.bytes.now c.as_bytes.result.now c.in_ok-outcome.outcome c.in_ok-request.request
    c.in_ok-balance.balance c.new.result (search rules)
    (record {
      tag = c.if-ne.ensures;
      outcome = outcome_read c.args.bytes.now _ _ c.read_outcome.ensures c.in_ok-outcome.ensures.value;
      request = c.in_ok-request.ensures.value;
      balance = c.in_ok-balance.ensures.value;
    })
    (c.as_bytes.ensures.value ∙ c.name.ensures) c.if-not-is_filled.ensures c.if-ne-2.ensures
    c.in_ok-request.ensures.shown c.in_ok-balance.ensures.shown c.new.ensures
