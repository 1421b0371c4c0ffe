-- Its requests were digested.
use Rattle.bank_store.proofs.AsFound.{as_found_spares}
use Rattle.bank_commands.proofs.Unwritten.{digest_not_written}
use Rattle.bank_commands.proofs.replaying.digest_found.Goals as goal

pub returns : goal.returns
returns g c =
    let it = c.digest.ensures in
    record {
      digests = (
        c.digest.result,
        c.print_first.ensures,
        record { rows = it.rows; log = it.log; why = it.why; frugal = it.frugal; reads = it.reads },
      );
      unprinted = digest_not_written c.args.requests c.digest.result _ _ _ _ c.print_first.result c.print_first.ensures;
      spares = as_found_spares g.S.Store c.args.bank.now c.digest.new.bank it.reads.leaves;
    }
