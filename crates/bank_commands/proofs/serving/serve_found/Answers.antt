-- Clients were served by it.
use Rattle.bank_store.proofs.Spared.{call_spares}
use Rattle.bank_commands.proofs.Unwritten.{done_not_written}
use Rattle.bank_commands.proofs.serving.serve_found.Goals as goal

pub returns : goal.returns
returns g c =
    let it = c.listen.ensures in
    record {
      serves = rw c.done.ensures it.serves;
      unprinted = rw c.done.ensures (done_not_written c.listen.result it.unprinted);
      spares = call_spares g.S.Store c.args.bank.now c.listen.new.bank it.spares;
    }
