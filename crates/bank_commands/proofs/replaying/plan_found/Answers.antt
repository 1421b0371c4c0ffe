-- Its branches were written.
use Rattle.bank_store.proofs.AsFound.{as_found_spares}
use Rattle.bank_commands.proofs.Unwritten.{text_not_written}
use Rattle.bank_commands.proofs.replaying.plan_found.Goals as goal

pub returns : goal.returns
returns g c =
    let it = c.write_plan.ensures in
    record {
      plans = (
        c.write_plan.result,
        c.written.ensures,
        record { rows = it.rows; sound = it.sound; writer = it.writer; why = it.why; reads = it.reads },
      );
      unprinted = rw c.written.ensures (text_not_written c.write_plan.result it.writer.failed);
      spares = as_found_spares g.S.Store c.args.bank.now c.write_plan.new.bank it.reads.leaves;
    }
