-- The bank that was found is left as it is.
use Rattle.std.proofs.Common.{refl}
use Rattle.bank_store.specs.believed.Seen.{connection_of}
use Rattle.bank_store.proofs.Spared.{idle_spares}
use Rattle.bank_commands.proofs.{Spared.done_over, Spared.none_over}
use Rattle.bank_commands.proofs.{Told.line_told, Unwritten.line_not_written, Unwritten.refused_not_write}
use Rattle.bank_commands.proofs.reports.why_over.Goals as goal

pub returns-in-Err : goal.returns-in-Err
returns-in-Err g c =
    let it = c.in-Err.ensures in
    record {
      looks = none_over g.S.Store c.args.conn c.in-Err.ended.conn c.in-Err.ended.end it.missed refl;
      unprinted = refused_not_write _ _ c.in-Err.ended.end it.missed;
      idle = it.idle;
    }

pub returns : goal.returns
returns g c =
    let line = c.print_usable.ensures in
    record {
      looks = done_over g.S.Store c.args.conn c.release.result _ c.in-Ok.bank c.in-Ok.bank c.in-Ok.ensures.found (
        refl,
        rw c.done-end.ensures (line_told _ _ _ c.print_usable.result line.prints.line line.prints.part line.fault),
      ) (idle_spares g.S.Store (connection_of c.in-Ok.bank)) c.release.ensures.same;
      unprinted = rw c.done-end.ensures (line_not_written c.print_usable.result line.failed);
      idle = c.release.ensures.idle;
    }
