-- The plan was loaded into it.
use Rattle.bank_store.proofs.Spared.{call_spares}
use Rattle.bank_commands.proofs.Unwritten.{load_not_written}
use Rattle.bank_commands.proofs.commands.load_found.Goals as goal

pub returns : goal.returns
returns g c =
    let it = c.load_into.ensures in
    record {
      loads = (rw c.loaded.ensures it.loads, it.honest);
      unprinted = rw c.loaded.ensures (load_not_written c.load_into.result it.unprinted);
      spares = call_spares g.S.Store c.args.bank.now c.load_into.new.bank it.spares;
    }
