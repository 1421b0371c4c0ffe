-- Each way out.
use Rattle.std.proofs.Common.{rules, ◌≡◌, ◌∙◌, ℕ, List, length, Option, Some, refl, ap, arith}
use Rattle.std.proofs.lemmas.{Bool.Decides.nat_tests, Grind.common_steps, Result.err_from_is_err_and}
use Rattle.shared_log.specs.{Holding.holds_itself, Holding.holds_more, Known.with_more}
use Rattle.shared_log.specs.declared.publishing.PublishFault.TheVariants.{Fewer}
use Rattle.shared_log.proofs.Appends.{all_known, holds_after, is_published, more_of_none, not_published}
use Rattle.shared_log.proofs.publishing.publish.Goals as goal
use Rattle.shared_log.proofs.publishing.publish.Goals.{else-not-is_empty, then-not-is_empty+in_ok-append_settled}

pub returns-in_err-bytes : goal.returns-in_err-bytes
returns-in_err-bytes g c =
    let is = err_from_is_err_and c.from_residual.result c.from_residual.ensures.1 in
    rw is.1
    (not_published g.C.Counter.seen g.C.Counter.contents g.C.Counter.reason g.C.Counter.spares c.args.counter.now
    c.entries_after.new.self (g.L.SharedLog.known c.args.log.now) (g.L.SharedLog.known c.args.log.now)
    c.entries_after.result c.entries_after.ensures.call c.entries_after.ensures.spares
    (holds_itself (g.L.SharedLog.known c.args.log.now)) is.0)

pub returns-in_default : goal.returns-in_default
returns-in_default g c =
    not_published g.C.Counter.seen g.C.Counter.contents g.C.Counter.reason g.C.Counter.spares c.args.counter.now
    c.entries_after.new.self (g.L.SharedLog.known c.args.log.now) (g.L.SharedLog.known c.args.log.now)
    c.entries_after.result c.entries_after.ensures.call c.entries_after.ensures.spares
    (holds_itself (g.L.SharedLog.known c.args.log.now)) Fewer

pub returns-in_err-append_settled : goal.returns-in_err-append_settled
returns-in_err-append_settled g c =
    let is = err_from_is_err_and c.from_residual-in_err-append_settled.result
    c.from_residual-in_err-append_settled.ensures.1 in
    rw is.1
    (not_published g.C.Counter.seen g.C.Counter.contents g.C.Counter.reason g.C.Counter.spares c.args.counter.now
    c.entries_after.new.self (g.L.SharedLog.known c.args.log.now) (g.L.SharedLog.known c.append_settled.new.log)
    c.entries_after.result c.entries_after.ensures.call c.entries_after.ensures.spares
    (holds_after (g.L.SharedLog.known c.args.log.now) (g.L.SharedLog.known c.append_settled.new.log)
    c.as_chunks.result.0.now c.in_err-append_settled.field-0.0 c.in_err-append_settled.ensures.fault) is.0)

pub returns : goal.returns
returns g c =
    let old = g.L.SharedLog.known c.args.log.now in
    let chunks = c.as_chunks.result.0.now in
    let now : g.L.SharedLog.known c.if-not-is_empty.log ≡ with_more old chunks =
    elim c.if-not-is_empty.branch [
      | then-not-is_empty+in_ok-append_settled w ↦ rw w.log-is w.in_ok-append_settled.ensures.done
      | else-not-is_empty w ↦
          let none : length chunks ≡ 0 =
          first_of (grind (arith, nat_tests), grind (arith, common_steps), search rules) in
          rw w.log-is (more_of_none old chunks none)
    ] in
    is_published g.C.Counter.seen g.C.Counter.contents g.C.Counter.reason g.C.Counter.spares c.args.counter.now
    c.entries_after.new.self old (g.L.SharedLog.known c.if-not-is_empty.log) c.in_ok-bytes.field-0
    c.in_ok-bytes.ensures.call c.in_ok-bytes.ensures.spares (holds_more old (g.L.SharedLog.known c.if-not-is_empty.log) chunks now)
    (length chunks) c.in_ok-bytes.ensures.by_tables.shows
    (all_known (g.C.Counter.seen c.args.counter.now) (g.C.Counter.seen c.entries_after.new.self) old
    (g.L.SharedLog.known c.if-not-is_empty.log) c.as_slice.result.now chunks c.count.result (length chunks) c.count.ensures
    (λ h log s.
    ap (λ (b : List ℕ). let one : Option (List ℕ) = Some b in one) c.as_slice.ensures.value
    ∙ (rw c.in-Some.is at (c.in_ok-bytes.ensures.answer h log s)))
    c.as_chunks.ensures.front refl now)
