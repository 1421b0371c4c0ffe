-- The bank that was found is the one that joined the others, and that clients were served by.
use Rattle.std.proofs.Common.{refl}
use Rattle.bank_store.proofs.Spared.{call_spares}
use Rattle.bank_commands.proofs.Spared.{done_over, none_over}
use Rattle.bank_commands.proofs.Unwritten.{done_not_written, refused_not_write}
use Rattle.bank_commands.proofs.sharing.share_over.Goals as goal

pub returns-in-Err : goal.returns-in-Err
returns-in-Err g c =
    let it = c.in-Err.ensures in
    record {
      serves = none_over g.S.Store c.args.conn c.in-Err.ended.conn c.in-Err.ended.end it.missed (refl, refl);
      unprinted = refused_not_write _ _ c.in-Err.ended.end it.missed;
      idle = it.idle;
    }

pub returns : goal.returns
returns g c =
    let it = c.listen_shared-bank.ensures in
    let last = c.listen_shared-bank.result.0 in
    record {
      serves = done_over g.S.Store c.args.conn c.release.result _ c.in-Ok.bank last c.in-Ok.ensures.found
          (rw c.done-end.ensures it.serves) (call_spares g.S.Store c.in-Ok.bank last it.spares) c.release.ensures.same;
      unprinted = rw c.done-end.ensures (done_not_written c.listen_shared-bank.result.1 it.unprinted);
      idle = c.release.ensures.idle;
    }
