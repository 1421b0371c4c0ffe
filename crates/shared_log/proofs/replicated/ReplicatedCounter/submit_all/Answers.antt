-- Its counter refused; what it took wasn't appended; or it was, and is answered.
use Rattle.std.proofs.Common.{rules, ◌≡◌, ◌∙◌, Err, arith}
use Rattle.posting_rules.specs.believed.Runs.{posts}
use Rattle.shared_log.proofs.Carried.{by_tables, passed_on, published, unpublished, was_answered}
use Rattle.shared_log.proofs.replicated.ReplicatedCounter.submit_all.Goals as goal

pub returns-in_err-replies-clause-call : goal.returns-in_err-replies-clause-call
returns-in_err-replies-clause-call g c =
    let fault = c.in_err-replies.field-0.0 in
    let same : c.from_residual-in_err-replies.result ≡ Err fault = search rules in
    rw same
    (passed_on g.C.Counter.seen g.C.Counter.contents g.C.Counter.reason g.L.SharedLog.known c.args.self.now
    c.submit_all.new.self (posts c.args.moment c.args.records.now) c.in_ok-check_up.ensures.up fault c.in_err-replies.ensures.call)

pub returns-in_err-publish-clause-call : goal.returns-in_err-publish-clause-call
returns-in_err-publish-clause-call g c =
    let fault = c.in_err-publish.field-0.0 in
    let same : c.from_residual-in_err-publish.result ≡ Err fault = search rules in
    let down = c.in_err-publish.ensures.down in
    let it = c.in_ok-replies.ensures.call in
    let became = c.publish.ensures.fault in
    rw (same, down.0)
    (unpublished g.C.Counter.seen g.C.Counter.contents g.C.Counter.reason g.L.SharedLog.known g.C.Counter.spares
    c.args.self.now c.publish.new.self c.submit_all.new.self c.args.moment c.args.records.now (omega (arith, c.requires.few)) c.in_ok-check_up.ensures.up
    (λ was. was_answered c.in_ok-replies.replies (it.down was)) it.done it.honest became.0 down.1 became.1)

pub returns-clause-call : goal.returns-clause-call
returns-clause-call g c =
    let it = c.in_ok-replies.ensures.call in
    let became = c.in_ok-publish.ensures.done in
    published g.C.Counter.seen g.C.Counter.contents g.C.Counter.reason g.L.SharedLog.known g.C.Counter.spares
    c.args.self.now c.publish.new.self c.submit_all.new.self c.args.moment c.args.records.now (omega (arith, c.requires.few)) c.in_ok-check_up.ensures.up
    (λ was. was_answered c.in_ok-replies.replies (it.down was)) it.done it.honest c.in_ok-replies.replies became.0
    (c.in_ok-publish.ensures.up ∙ c.in_ok-check_up.ensures.up) became.1

pub returns-clause-by_tables : goal.returns-clause-by_tables
returns-clause-by_tables g c =
    let it = c.in_ok-replies.ensures.call in
    let became = c.in_ok-publish.ensures.done in
    by_tables g.C.Counter.seen g.C.Counter.contents g.C.Counter.reason g.L.SharedLog.known g.C.Counter.spares
    c.args.self.now c.publish.new.self c.submit_all.new.self c.args.moment c.args.records.now (omega (arith, c.requires.few)) c.in_ok-check_up.ensures.up
    (λ was. was_answered c.in_ok-replies.replies (it.down was)) it.done it.honest c.in_ok-replies.replies.items became.0
    c.in_ok-replies.ensures.by_tables became.1
