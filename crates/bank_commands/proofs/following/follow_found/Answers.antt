-- It followed the log.
use Rattle.bank_commands.proofs.Unwritten.{done_not_written}
use Rattle.bank_commands.proofs.following.follow_found.Goals as goal

pub returns : goal.returns
returns g c =
    let it = c.follow_counting-end.ensures in
    record {
      follows = (c.follow_counting-end.result, c.done.ensures, it.follows);
      unprinted = rw c.done.ensures (done_not_written c.follow_counting-end.result it.unprinted);
      spares = it.spares;
    }
