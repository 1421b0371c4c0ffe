-- Its entries were written.
use Rattle.bank_store.proofs.AsFound.{as_found_spares}
use Rattle.bank_commands.proofs.Unwritten.{log_not_written}
use Rattle.bank_commands.proofs.following.log_found.Goals as goal

pub returns : goal.returns
returns g c =
    let it = c.write_log.ensures in
    record {
      logs = (
        c.write_log.result,
        c.logged.ensures,
        record { rows = it.rows; log = it.log; writer = it.writer; why = it.why; reads = it.reads },
      );
      unprinted = rw c.logged.ensures (log_not_written c.args.after c.write_log.result it.writer.failed);
      spares = as_found_spares g.S.Store c.args.bank.now c.write_log.new.bank it.reads.leaves;
    }
