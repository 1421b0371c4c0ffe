-- It joined, and then it listened.
use Rattle.std.proofs.Common.{rules, ◌≡◌, Err, ap, inl, inr, refl}
use Rattle.posting_core.specs.EndCalls.{IsFlush}
use Rattle.posting_core.proofs.Telling.{last_some}
use Rattle.report_contents.proofs.Written.{later_failed}
use Rattle.shared_log.specs.Replicated.{counter_of}
use Rattle.command_line.specs.Working.{done_after}
use Rattle.command_line.proofs.sharing.listen_joined.Goals as goal

pub returns-in_err-join_others : goal.returns-in_err-join_others
returns-in_err-join_others g c =
    let fault = c.in_err-join_others.field-0.0 in
    let same : c.from_residual.result ≡ Err fault = search rules in
    let it = c.in_err-join_others.ensures in
    record {
      serves = inl (fault, ap done_after same, it.joins, refl);
      unprinted = λ is. it.unprinted (rw same at is);
      spares = it.spares;
    }

pub returns : goal.returns
returns g c =
    let it = c.in_ok-join_others.ensures in
    record {
      serves = inr (c.join_others.new.machine, _, it.joins, c.listen.ensures.serves);
      unprinted = λ is. later_failed (last_some IsFlush it.flushed) (c.listen.ensures.unprinted is);
      spares = g.met.C.Counter.spares_then (counter_of c.args.machine.now) (counter_of c.join_others.new.machine)
          (counter_of c.listen.new.bank) it.spares c.listen.ensures.spares.0;
    }
