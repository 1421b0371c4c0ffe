-- They were sealed.
use Rattle.bank_store.proofs.Spared.{call_spares}
use Rattle.bank_commands.proofs.commands.seal_found.Goals as goal

pub returns : goal.returns
returns g c =
    let it = c.seal.ensures in
    record {
      seals = (
        c.seal.result,
        c.print_seal.ensures.prints,
        record { answer = it.answer; call = it.call; frugal = it.frugal; spares = it.spares },
      );
      unprinted = c.print_seal.ensures.unprinted;
      spares = call_spares g.S.Store c.args.bank.now c.seal.new.self it.spares;
    }
