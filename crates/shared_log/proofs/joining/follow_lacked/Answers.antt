-- All were followed, or some of them.
use Rattle.std.proofs.Common.{Err, Ok}
use Rattle.shared_log.proofs.Spared.{did_spare}
use Rattle.shared_log.proofs.joining.follow_lacked.Goals as goal

pub returns-in-Ok : goal.returns-in-Ok
returns-in-Ok g c =
    let it = c.in-Ok.ensures in
    record {
      followed = (it.entries, it.did);
      others = did_spare g.C.Counter.seen g.C.Counter.spares g.C.Counter.reason c.args.plan.now c.args.counter.now
          c.follow.new.bank it.entries (Ok c.in-Ok.field-0) (g.met.C.Counter.spares_itself c.args.counter.now) it.did;
    }

pub returns-in-Err : goal.returns-in-Err
returns-in-Err g c =
    let it = c.in-Err.ensures in
    record {
      followed = tt;
      others = did_spare g.C.Counter.seen g.C.Counter.spares g.C.Counter.reason c.args.plan.now c.args.counter.now
          c.follow.new.bank it.entries (Err c.in-Err.fault) (g.met.C.Counter.spares_itself c.args.counter.now) it.did;
    }
