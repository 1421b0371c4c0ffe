use Rattle.std.proofs.Common.{◌≡◌, sym, true, false}
use Rattle.counter_http.proofs.Sent.{sent_after, taken_as}
use Rattle.counter_http.proofs.PartsWritten.{told_part, told_all, holding, telling}
use Rattle.counter_http.proofs.telling.send.Goals as goal

pub returns-then-not-going-clause-text : goal.returns-then-not-going-clause-text
returns-then-not-going-clause-text g c before text t = let p = told_part text t in (p.0, p.1, tt)

pub returns-then-not-going-clause-ends : goal.returns-then-not-going-clause-ends
returns-then-not-going-clause-ends g c before h =
    taken_as _ _ (let e : c.args.going ≡ false = cc c.if-not-going.true in e) h

pub returns-clause-text : goal.returns-clause-text
returns-clause-text g c before text t =
    let going : c.args.going ≡ true = cc c.if-not-going.false in
    told_all before _ _ _ text c.write_out.result (holding (sym c.as_slice.ensures.value) (telling going t))
    c.write_out.ensures.written

pub returns-clause-ends : goal.returns-clause-ends
returns-clause-ends g c before h =
    let going : c.args.going ≡ true = cc c.if-not-going.false in
    sent_after _ _ _ c.write_out.result (taken_as _ _ going h) c.write_out.ensures.flushed
    c.write_out.ensures.failed
