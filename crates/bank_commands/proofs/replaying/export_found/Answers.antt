-- Its requests were written.
use Rattle.bank_store.proofs.AsFound.{as_found_spares}
use Rattle.bank_commands.proofs.Unwritten.{text_not_written}
use Rattle.bank_commands.proofs.replaying.export_found.Goals as goal

pub returns : goal.returns
returns g c =
    let it = c.export.ensures in
    record {
      exports = (
        c.export.result,
        c.written.ensures,
        record { rows = it.rows; log = it.log; writer = it.writer; why = it.why; reads = it.reads },
      );
      unprinted = rw c.written.ensures (text_not_written c.export.result it.writer.failed);
      spares = as_found_spares g.S.Store c.args.bank.now c.export.new.bank it.reads.leaves;
    }
