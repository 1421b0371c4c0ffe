-- It was driven.
use Rattle.bank_store.proofs.Spared.{call_spares}
use Rattle.bank_commands.proofs.Unwritten.{done_not_written}
use Rattle.bank_commands.proofs.commands.drive_found.Goals as goal

pub returns : goal.returns
returns g c =
    let it = c.drive_into.ensures in
    record {
      drives = rw c.done.ensures it.drives;
      unprinted = rw c.done.ensures (done_not_written c.drive_into.result it.unprinted);
      spares = call_spares g.S.Store c.args.bank.now c.drive_into.new.bank it.spares;
    }
