-- It was replayed.
use Rattle.bank_store.proofs.AsFound.{as_found_spares}
use Rattle.bank_commands.proofs.Unwritten.{replay_not_written}
use Rattle.bank_commands.proofs.replaying.replay_found.Goals as goal

pub returns : goal.returns
returns g c =
    let it = c.replay.ensures in
    record {
      replays = (
        c.replay.result,
        c.print_replay.ensures,
        record {
          agrees = it.agrees;
          digest = it.digest;
          differs = it.differs;
          why = it.why;
          bank = it.bank;
          reads = it.reads;
        },
      );
      unprinted = replay_not_written c.replay.result _ _ _ _ c.print_replay.result c.print_replay.ensures;
      spares = as_found_spares g.S.Store c.args.bank.now c.replay.new.bank it.reads.leaves;
    }
