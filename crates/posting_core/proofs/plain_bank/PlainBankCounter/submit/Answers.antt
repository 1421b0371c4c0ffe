use Rattle.std.proofs.Common.{[], ◌∷◌, List, ℕ, ap, ◌∙◌, rules}
use Rattle.posting_rules.specs.believed.{Commands.Post, Changes.reply_past, Changes.tables_past, Tables.Tables}
use Rattle.posting_rules.proofs.Records.{past_shown, past_reply}
use Rattle.posting_core.specs.Plain.{plain_tables}
use Rattle.posting_core.proofs.InMemory.{answered_plain, after_plain, by_tables_plain, memory_refused, no_answer, plain_shows}
use Rattle.posting_core.proofs.InMemory.{room_for_one, spared_plain, still_memory}
use Rattle.posting_core.proofs.plain_bank.PlainBankCounter.submit.Goals as goal

pub returns-clause-answer : goal.returns-clause-answer
returns-clause-answer c h log s =
    let t = plain_tables c.args.self.now in
    c.submit_within_capacity.ensures.reply
    ∙ ap (λ (u : Tables). reply_past u c.args.bytes.now) c.make_room.ensures.stays
    ∙ past_reply t log c.args.bytes.now (plain_shows c.args.self.now log s)

pub returns-clause-call : goal.returns-clause-call
returns-clause-call c =
    let t = plain_tables c.args.self.now in
    let m = c.args.moment in
    let bytes = c.args.bytes.now in
    answered_plain c.args.self.now c.submit_within_capacity.new.self (Post m bytes ∷ [])
    c.submit_within_capacity.result
    (after_plain c.args.self.now c.submit_within_capacity.new.self (Post m bytes ∷ [])
    (λ u. tables_past u m bytes) ((c.read_range.ensures, search rules), tt)
    (c.submit_within_capacity.ensures.tables ∙ ap (λ (u : Tables). tables_past u m bytes) c.make_room.ensures.stays)
    (λ log s. past_shown t log m bytes s))

pub returns-clause-by_tables : goal.returns-clause-by_tables
returns-clause-by_tables c =
    by_tables_plain c.args.self.now c.submit_within_capacity.new.self c.args.moment (c.args.bytes.now ∷ [])
    (c.submit_within_capacity.result ∷ [])
    (ap (λ (out : List ℕ). out ∷ []) (c.submit_within_capacity.ensures.reply
    ∙ ap (λ (u : Tables). reply_past u c.args.bytes.now) c.make_room.ensures.stays))
    (c.submit_within_capacity.ensures.tables
    ∙ ap (λ (u : Tables). tables_past u c.args.moment c.args.bytes.now) c.make_room.ensures.stays)

pub returns-clause-spares : goal.returns-clause-spares
returns-clause-spares c = tt

pub returns-in_err-make_room : goal.returns-in_err-make_room
returns-in_err-make_room c =
    let refused = still_memory _ _ c.from_residual.ensures.1 c.in_err-make_room.ensures.memory in
    record {
      answer = no_answer _ _ refused;
      call = spared_plain _ _ _ _ (memory_refused _ refused) c.make_room.ensures.stays;
      by_tables = no_answer _ _ refused;
      spares = tt;
    }

pub submit_within_capacity-requires-clause-history : goal.submit_within_capacity-requires-clause-history
submit_within_capacity-requires-clause-history c = room_for_one _ _ c.in_ok-make_room.ensures.history

pub submit_within_capacity-requires-clause-requests : goal.submit_within_capacity-requires-clause-requests
submit_within_capacity-requires-clause-requests c = room_for_one _ _ c.in_ok-make_room.ensures.requests

pub submit_within_capacity-requires-clause-references : goal.submit_within_capacity-requires-clause-references
submit_within_capacity-requires-clause-references c = room_for_one _ _ c.in_ok-make_room.ensures.references
