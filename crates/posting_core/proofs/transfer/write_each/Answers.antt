use Rattle.std.proofs.{Common.arith, Common.refl, Common.rules, lemmas.List.length-take, lemmas.List.length-drop}
use Rattle.posting_core.specs.EndCalls.{HasWriteFailed, IsWriteFailure}
use Rattle.posting_core.proofs.{Transferred.wrote_write, Telling.more_failed, Telling.more_more}
use Rattle.posting_core.proofs.transfer.write_each.Goals as goal

pub returns-in_err-done-clause-failed : goal.returns-in_err-done-clause-failed
returns-in_err-done-clause-failed g c =
    let failed : HasWriteFailed (g.W.Sink.calls c.args.writer.now) (g.W.Sink.calls c.write_some.new.writer) =
    more_failed IsWriteFailure c.writes.invariant.more c.in_err-done.ensures.failed in
    search rules

pub writes-preserved : goal.writes-preserved
writes-preserved g c =
    let some = c.in_ok-done.ensures.some in
    record {
      within = omega (arith, c.writes.invariant.within, simp (length-take, length-drop) at some.1);
      wrote = wrote_write _ _ _ c.args.bytes.now c.writes.done c.in_ok-done.field-0 _
          c.writes.invariant.wrote some.2 refl;
      more = more_more c.writes.invariant.more c.in_ok-done.ensures.more;
    }
