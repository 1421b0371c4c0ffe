-- Its account was stated.
use Rattle.bank_store.proofs.AsFound.{commits_spares}
use Rattle.bank_commands.proofs.Unwritten.{stated_not_written}
use Rattle.bank_commands.proofs.reports.statement_found.Goals as goal

pub returns : goal.returns
returns g c =
    let it = c.write_selected.ensures in
    record {
      states = (
        c.write_selected.result,
        c.stated.ensures,
        record {
          bank = it.bank;
          file = it.file;
          refused = it.refused;
          flushed = it.writer.flushed;
          failed = it.writer.failed;
          frugal = it.frugal;
          leaves = it.leaves;
        },
      );
      unprinted = rw c.stated.ensures (stated_not_written c.args.account c.write_selected.result it.writer.failed);
      spares = commits_spares g.S.Store c.args.bank.now c.write_selected.new.bank it.leaves;
    }
