-- No bank was found, and nothing was done; or the work was done with the one that was.
use Rattle.std.proofs.Common.{refl}
use Rattle.bank_commands.proofs.{Spared.done_over, Spared.none_over, Unwritten.refused_not_write}
use Rattle.bank_commands.specs.Doing.{DoesOver}
use Rattle.bank_commands.proofs.command.work_over.Goals as goal

pub returns-in-Err : goal.returns-in-Err
unfolding DoesOver
returns-in-Err g c =
    let it = c.in-Err.ensures in
    record {
      does = none_over g.S.Store c.args.conn c.in-Err.ended.conn c.in-Err.ended.end it.missed (refl, refl);
      unprinted = refused_not_write _ _ c.in-Err.ended.end it.missed;
      idle = it.idle;
    }

pub returns : goal.returns
unfolding DoesOver
returns g c =
    let it = c.work_found-end.ensures in
    record {
      does = done_over g.S.Store c.args.conn c.release.result _ c.in-Ok.bank c.work_found-end.new.bank
          c.in-Ok.ensures.found (it.does, it.leaves) it.spares c.release.ensures.same;
      unprinted = it.unprinted;
      idle = c.release.ensures.idle;
    }
