-- The draft is the spelling, which is read again.
use Rattle.std.proofs.Common.{◌≡◌, ◌+◌, ◌++◌, ◌≤◌, length, Option, Some, None, ap, subst, ◌∙◌, arith}
use Rattle.std.specs.Prelude.{ℤ, pos, nat_abs, unwrap_or, IfSome}
use Rattle.message_records.specs.{declared.limits.TheConstants.MAX_BALANCE, believed.Outcomes.code_of}
use Rattle.message_records.specs.{believed.Outcomes.name_of}
use Rattle.message_records.specs.believed.Records.{RequestFields, unreferenced}
use Rattle.message_records.specs.Records.{IsRequest, IsShownRequest, IsReply}
use Rattle.message_records.specs.believed.Spelling.{signed, no_fields, fields_spelling}
use Rattle.message_records.proofs.{Composed.reply_put, SpelledReplies.reply_again}
use Rattle.message_records.proofs.writing.encode_reply.Goals as goal

pub returns-clause-spelling : goal.returns-clause-spelling
returns-clause-spelling c =
    let shown = c.shown-request.ensures in
    let coded = c.put_number.new.self in
    let with_request = c.put_shown.new.draft in
    let with_balance = c.put_balance.new.draft in
    let code = c.from.ensures ∙ c.code.ensures.value ∙ ap code_of c.outcome-outcome.ensures in
    let name = c.as_bytes.ensures.value ∙ c.name.ensures ∙ ap name_of c.outcome-outcome.ensures in
    let request = c.put_shown.ensures.value
    ∙ ap (λ (q : Option RequestFields). coded ++ fields_spelling (unwrap_or q no_fields)) shown.request in
    let balance = c.put_balance.ensures.value
    ∙ ap (λ (q : Option ℤ). with_request ++ signed 12 (unwrap_or q (pos 0))) shown.balance in
    let len : length c.put_text-2.new.self ≡ 66 + length c.as_bytes.result.now = omega arith in
    reply_put c.args.reply.now c.from.result c.as_bytes.result.now
    c.new-draft.result c.put_text.new.self coded with_request with_balance c.put_text-2.new.self
    c.finish.result
    code name c.new-draft.ensures.value c.put_text.ensures.value c.put_number.ensures.value request balance
    c.put_text-2.ensures.value len c.finish.ensures

-- the fields are in range
abbrev InFields : RequestFields → Type 0
InFields r = IsRequest (unreferenced r)

all_shown : (q : Option RequestFields) → IfSome q InFields → IfSome q (λ r. unreferenced r ≡ r)
    → IfSome q IsShownRequest
all_shown None h same = tt
all_shown (Some r) h same = (subst IsRequest same h, same)

pub returns-clause-read_again : goal.returns-clause-read_again
returns-clause-read_again c =
    let reply = c.args.reply.now in
    let shown = c.shown-request.ensures in
    let InRange : Option ℤ → Type 0 = λ q. IfSome q (λ z. nat_abs z ≤ MAX_BALANCE) in
    let is_reply : IsReply reply = record {
      shows_request = shown.shows_request;
      request = all_shown reply.request
          (subst (λ (q : Option RequestFields). IfSome q InFields) shown.request c.put_shown.ensures.in_range)
          shown.unreferenced;
      shows_balance = shown.shows_balance;
      balance = subst InRange shown.balance c.put_balance.ensures.in_range;
    } in
    reply_again reply c.finish.result is_reply (returns-clause-spelling c)
