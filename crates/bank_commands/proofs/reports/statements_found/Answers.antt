-- Its accounts were stated.
use Rattle.bank_store.proofs.AsFound.{as_found_spares}
use Rattle.bank_commands.proofs.Unwritten.{all_not_written}
use Rattle.bank_commands.proofs.reports.statements_found.Goals as goal

pub all_stated-requires : goal.all_stated-requires
all_stated-requires g c = c.write_statements.ensures.bank.found

pub returns : goal.returns
returns g c =
    let it = c.write_statements.ensures in
    record {
      states = (
        c.write_statements.result,
        c.all_stated.ensures,
        record {
          bank = it.bank;
          file = it.file;
          flushed = it.writer.flushed;
          failed = it.writer.failed;
          memory = it.memory;
          up = it.up;
          leaves = it.leaves;
        },
      );
      unprinted = all_not_written c.write_statements.result c.all_stated.result c.all_stated.ensures it.writer.failed;
      spares = as_found_spares g.S.Store c.args.bank.now c.write_statements.new.bank it.leaves;
    }
