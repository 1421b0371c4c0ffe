-- The entries were followed to the end, or up to a fault.
use Rattle.std.proofs.Common.{rules, ◌≡◌, Err, Ok}
use Rattle.std.proofs.KnownBytes.{Keeps-refl}
use Rattle.command_line.specs.CommandFaults.{fault_of_following}
use Rattle.shared_log.proofs.Spared.{did_spare}
use Rattle.command_line.proofs.FollowEnds.{err_holds, follow_not_write, followed_printed}
use Rattle.command_line.specs.declared.fault.CommandFault.TheVariants.{Write}
use Rattle.command_line.proofs.following.follow_log.Goals as goal

pub returns-in_err-followed : goal.returns-in_err-followed
returns-in_err-followed g c =
    let fault = c.in_err-followed.field-0.0 in
    let same : c.from_residual.result ≡ Err (fault_of_following fault) = search rules in
    let it = c.in_err-followed.ensures in
    record {
      follows = record {
        followed = Err fault;
        follows = it;
        tells = (same, Keeps-refl (g.W.Sink.contents c.args.output.now));
      };
      unprinted = λ is. absurd (follow_not_write fault (cc (same, is)));
      spares = did_spare g.C.Counter.seen g.C.Counter.spares g.C.Counter.reason c.args.plan.now c.args.bank.now
          c.follow.new.bank it.entries (Err fault) (g.met.C.Counter.spares_itself c.args.bank.now) it.did;
    }

pub returns : goal.returns
returns g c =
    let it = c.in_ok-followed.ensures in
    let count = c.in_ok-followed.followed in
    record {
      follows = record {
        followed = Ok count;
        follows = it;
        tells = followed_printed count _ _ _ _ c.print_followed.result c.print_followed.ensures.prints
            c.print_followed.ensures.fault;
      };
      unprinted = λ is. err_holds c.print_followed.result Write is c.print_followed.ensures.failed;
      spares = did_spare g.C.Counter.seen g.C.Counter.spares g.C.Counter.reason c.args.plan.now c.args.bank.now
          c.follow.new.bank it.entries (Ok count) (g.met.C.Counter.spares_itself c.args.bank.now) it.did;
    }
