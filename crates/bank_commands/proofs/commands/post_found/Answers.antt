-- The records were posted to it.
use Rattle.bank_store.proofs.Spared.{call_spares}
use Rattle.bank_commands.proofs.Unwritten.{stream_not_written}
use Rattle.bank_commands.proofs.commands.post_found.Goals as goal

pub returns : goal.returns
returns g c =
    let it = c.post_stream.ensures in
    record {
      posts = (c.post_stream.result, c.posted.ensures, it.streams);
      unprinted = rw c.posted.ensures (stream_not_written _ _ _ _ c.post_stream.result it.streams.ends);
      spares = call_spares g.S.Store c.args.bank.now c.post_stream.new.bank it.spares;
    }
