-- The parts are those of an entry, or no entry has them.
use Rattle.std.proofs.Common.{rules, ◌≡◌, ◌++◌, ◌∙◌, ℕ, List, None, ap, sym}
use Rattle.std.proofs.lemmas.Nat.{be_bytes_8}
use Rattle.message_records.specs.declared.records.Outcome.{Outcome}
use Rattle.posting_core.specs.Entries.{is_kept, moment_from}
use Rattle.posting_core.proofs.EntryParts.{moment_facts, unkept, unmoved, unread_reply, unread_request}
use Rattle.posting_core.proofs.entries.decode_entry.Goals as goal

bytes_are : (bytes a b d a' b' d' : List ℕ) → a ++ (b ++ d) ≡ bytes → a ≡ a' → b ≡ b' → d' ≡ d
    → a' ++ (b' ++ d') ≡ bytes
bytes_are bytes a b d a' b' d' all ea eb ed =
    ap (λ (t : List ℕ). a' ++ (b' ++ t)) ed
    ∙ ap (λ (t : List ℕ). a' ++ (t ++ d)) (sym eb)
    ∙ ap (λ (t : List ℕ). t ++ (b ++ d)) (sym ea)
    ∙ all

pub returns : goal.returns
returns c =
    let parts = c.parts_of-parts.result in
    let shown = c.outcome-outcome.ensures in
    let request = c.in-Ok.ensures.found in
    let reply = c.in-Ok-decode_reply.ensures.found in
    let facts =
    moment_facts c.in-Ok-decode_reply.reply.outcome c.from_be_bytes.result c.in_ok-moment.moment
    (sym c.in_ok-moment.was ∙ c.moment_from.ensures
    ∙ ap (λ (o : Outcome). moment_from o c.from_be_bytes.result) shown) in (
      record {
        request = request.0;
        reply = reply.0;
        kept = ap is_kept (sym shown) ∙ sym c.is_kept.ensures ∙ c.if-not-is_kept.false;
        moment = facts.most;
        zero = facts.zero;
      },
      bytes_are c.args.bytes.now parts.record parts.reply parts.seconds _ _ _ c.parts_of-parts.ensures.joined
          request.1 reply.1
          (be_bytes_8 parts.seconds _ c.parts_of-parts.ensures.seconds_length c.parts_of-parts.ensures.seconds
          (facts.same ∙ c.from_be_bytes.ensures)),
    )

-- ---- no entry has them

pub returns-in-Err : goal.returns-in-Err
returns-in-Err c = λ a is same.
    let parts = c.parts_of-parts in
    unread_request c.args.bytes.now parts.result.record parts.result.reply parts.result.seconds
    parts.ensures.record_length parts.ensures.reply_length parts.ensures.joined a is same _ c.decode_request.result
    c.in-Err.is c.decode_request.ensures.only

pub returns-in-Err-decode_reply : goal.returns-in-Err-decode_reply
returns-in-Err-decode_reply c = λ a is same.
    let parts = c.parts_of-parts in
    unread_reply c.args.bytes.now parts.result.record parts.result.reply parts.result.seconds
    parts.ensures.record_length parts.ensures.reply_length parts.ensures.joined a is same _ c.decode_reply.result
    c.in-Err-decode_reply.is c.decode_reply.ensures.only

pub returns-then-not-is_kept : goal.returns-then-not-is_kept
returns-then-not-is_kept c = λ a is same.
    let parts = c.parts_of-parts in
    unkept c.args.bytes.now parts.result.record parts.result.reply parts.result.seconds
    parts.ensures.record_length parts.ensures.reply_length parts.ensures.joined a is same c.in-Ok-decode_reply.reply
    c.decode_reply.result c.in-Ok-decode_reply.is c.decode_reply.ensures.only
    (ap is_kept (sym c.outcome-outcome.ensures) ∙ sym c.is_kept.ensures ∙ c.if-not-is_kept.true)

pub returns-in_err-moment : goal.returns-in_err-moment
returns-in_err-moment c =
    let none : c.from_residual.result ≡ None = search rules in
    rw none (λ a is same.
    let parts = c.parts_of-parts in
    let shown = c.outcome-outcome.ensures in
    unmoved c.args.bytes.now parts.result.record parts.result.reply parts.result.seconds
    parts.ensures.record_length parts.ensures.reply_length parts.ensures.joined a is same c.in-Ok-decode_reply.reply
    c.decode_reply.result c.in-Ok-decode_reply.is c.decode_reply.ensures.only c.from_be_bytes.result
    c.from_be_bytes.ensures
    (sym c.in_err-moment.was ∙ c.moment_from.ensures
    ∙ ap (λ (o : Outcome). moment_from o c.from_be_bytes.result) shown))
