-- Its counter refused; what it took wasn't appended; or it was, and is answered.
use Rattle.std.proofs.Common.{rules, ◌≡◌, ◌∙◌, Err, [], ◌∷◌, arith}
use Rattle.posting_rules.specs.believed.Commands.{Post}
use Rattle.shared_log.proofs.Carried.{by_tables, passed_on, published, unpublished, was_answered}
use Rattle.shared_log.proofs.replicated.ReplicatedCounter.submit.Goals as goal

pub returns-in_err-reply-clause-call : goal.returns-in_err-reply-clause-call
returns-in_err-reply-clause-call g c =
    let fault = c.in_err-reply.field-0.0 in
    let same : c.from_residual-in_err-reply.result ≡ Err fault = search rules in
    rw same
    (passed_on g.C.Counter.seen g.C.Counter.contents g.C.Counter.reason g.L.SharedLog.known c.args.self.now
    c.submit.new.self (Post c.args.moment c.args.bytes.now ∷ []) c.in_ok-check_up.ensures.up fault c.in_err-reply.ensures.call)

pub returns-in_err-publish-clause-call : goal.returns-in_err-publish-clause-call
returns-in_err-publish-clause-call g c =
    let fault = c.in_err-publish.field-0.0 in
    let same : c.from_residual-in_err-publish.result ≡ Err fault = search rules in
    let down = c.in_err-publish.ensures.down in
    let it = c.in_ok-reply.ensures.call in
    let became = c.publish.ensures.fault in
    rw (same, down.0)
    (unpublished g.C.Counter.seen g.C.Counter.contents g.C.Counter.reason g.L.SharedLog.known g.C.Counter.spares
    c.args.self.now c.publish.new.self c.submit.new.self c.args.moment (c.args.bytes.now ∷ []) (omega arith) c.in_ok-check_up.ensures.up
    (λ was. was_answered c.in_ok-reply.reply (it.down was)) it.done it.honest became.0 down.1 became.1)

pub returns-clause-call : goal.returns-clause-call
returns-clause-call g c =
    let it = c.in_ok-reply.ensures.call in
    let became = c.in_ok-publish.ensures.done in
    published g.C.Counter.seen g.C.Counter.contents g.C.Counter.reason g.L.SharedLog.known g.C.Counter.spares
    c.args.self.now c.publish.new.self c.submit.new.self c.args.moment (c.args.bytes.now ∷ []) (omega arith) c.in_ok-check_up.ensures.up
    (λ was. was_answered c.in_ok-reply.reply (it.down was)) it.done it.honest c.in_ok-reply.reply became.0
    (c.in_ok-publish.ensures.up ∙ c.in_ok-check_up.ensures.up) became.1

pub returns-clause-by_tables : goal.returns-clause-by_tables
returns-clause-by_tables g c =
    let it = c.in_ok-reply.ensures.call in
    let became = c.in_ok-publish.ensures.done in
    by_tables g.C.Counter.seen g.C.Counter.contents g.C.Counter.reason g.L.SharedLog.known g.C.Counter.spares
    c.args.self.now c.publish.new.self c.submit.new.self c.args.moment (c.args.bytes.now ∷ []) (omega arith) c.in_ok-check_up.ensures.up
    (λ was. was_answered c.in_ok-reply.reply (it.down was)) it.done it.honest (c.in_ok-reply.reply ∷ []) became.0
    c.in_ok-reply.ensures.by_tables became.1
