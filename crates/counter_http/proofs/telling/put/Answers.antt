use Rattle.std.proofs.Common.{◌≡◌, false, true, sym, ap, ◌∙◌}
use Rattle.std.specs.Prelude.{not}
use Rattle.posting_core.specs.EndCalls.{IsWriteFailure}
use Rattle.posting_core.proofs.Telling.{more_failed, more_more}
use Rattle.counter_http.proofs.PartsWritten.{on_ok_true, on_err_true, told_failed, told_held, told_sent, told_more}
use Rattle.counter_http.proofs.PartsWritten.{holding, telling}
use Rattle.counter_http.proofs.Sent.{taken_as, taken_each}
use Rattle.counter_http.proofs.telling.put.Goals as goal

pub returns-then-not-going-clause-text : goal.returns-then-not-going-clause-text
returns-then-not-going-clause-text g c before text t =
    told_failed _ _ text c.args.bytes.now
    (telling (let e : c.args.going ≡ false = cc c.if-not-going.true in e) t)

pub returns-then-not-going-clause-ends : goal.returns-then-not-going-clause-ends
returns-then-not-going-clause-ends g c before h =
    taken_as _ _ (let e : c.args.going ≡ false = cc c.if-not-going.true in e) h

pub returns-then-is_ok-clause-text : goal.returns-then-is_ok-clause-text
returns-then-is_ok-clause-text g c before text t =
    told_held _ _ text c.args.bytes.now
    (on_ok_true c.try_extend_from_slice.result c.try_extend_from_slice.ensures.ok
    (sym c.is_ok.ensures.value ∙ c.if-is_ok.true))
    (telling (let e : c.args.going ≡ true = cc c.if-not-going.false in e) t)

pub returns-then-is_ok-clause-ends : goal.returns-then-is_ok-clause-ends
returns-then-is_ok-clause-ends g c before h =
    taken_as _ _ (let e : c.args.going ≡ true = cc c.if-not-going.false in e) h

pub returns-then-is_err-clause-text : goal.returns-then-is_err-clause-text
returns-then-is_err-clause-text g c before text t =
    let going : c.args.going ≡ true = cc c.if-not-going.false in
    let same = on_err_true c.try_extend_from_slice.result c.try_extend_from_slice.ensures.err
    (sym c.is_ok.ensures.value ∙ c.if-is_ok.false) in
    let held : c.args.held.now.items ≡ c.as_slice.result.now = cc (same, c.as_slice.ensures.value) in
    told_failed _ _ text c.args.bytes.now
    (told_sent _ text c.write_each.result (holding held (telling going t)) c.write_each.ensures.written).1

-- what was held wasn't taken
pub returns-then-is_err-clause-ends : goal.returns-then-is_err-clause-ends
returns-then-is_err-clause-ends g c before h =
    let going : c.args.going ≡ true = cc c.if-not-going.false in
    more_failed IsWriteFailure (taken_as _ _ going h)
    (on_err_true c.write_each.result c.write_each.ensures.failed
    (c.is_err.ensures.negation ∙ ap not c.if-is_err.true))

pub returns-clause-text : goal.returns-clause-text
returns-clause-text g c before text t =
    let going : c.args.going ≡ true = cc c.if-not-going.false in
    let same = on_err_true c.try_extend_from_slice.result c.try_extend_from_slice.ensures.err
    (sym c.is_ok.ensures.value ∙ c.if-is_ok.false) in
    let held : c.args.held.now.items ≡ c.as_slice.result.now = cc (same, c.as_slice.ensures.value) in
    let sent = (told_sent _ text c.write_each.result (holding held (telling going t))
    c.write_each.ensures.written).0
    (c.is_err.ensures.negation ∙ ap not c.if-is_err.false) in
    holding (sym c.clear.ensures) (told_more text c.args.bytes.now _ c.write_each-2.result sent
    c.write_each-2.ensures.written c.is_ok-2.ensures.value)

pub returns-clause-ends : goal.returns-clause-ends
returns-clause-ends g c before h =
    let going : c.args.going ≡ true = cc c.if-not-going.false in
    let first = on_ok_true c.write_each.result c.write_each.ensures.more
    (c.is_err.ensures.negation ∙ ap not c.if-is_err.false) in
    taken_each _ _ _ _ c.write_each-2.result (more_more (taken_as _ _ going h) first)
    c.write_each-2.ensures.more c.write_each-2.ensures.failed
    c.is_ok-2.ensures.value
