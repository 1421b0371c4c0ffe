-- The others were joined, or not.
use Rattle.std.proofs.Common.{rules, ◌≡◌, ◌∙◌, Err, Ok, inl, refl, subst, sym}
use Rattle.std.proofs.KnownBytes.{Keeps-refl}
use Rattle.branch_loader.specs.believed.Plans.{Rows}
use Rattle.shared_log.specs.Joined.{HasJoined}
use Rattle.shared_log.specs.Replicated.{counter_of}
use Rattle.shared_log.specs.declared.joining.JoinFault.TheVariants as joining
use Rattle.shared_log.specs.declared.log.LogFault.TheVariants as log
use Rattle.command_line.specs.CommandFaults.{fault_of_joining}
use Rattle.command_line.specs.declared.fault.CommandFault.TheVariants.{Memory, Write}
use Rattle.command_line.proofs.{FollowEnds.err_holds, FollowEnds.joining_not_write, FollowEnds.memory_not_write, Joining.joined_printed}
use Rattle.command_line.proofs.sharing.join_others.Goals as goal

pub returns-in_err-plan : goal.returns-in_err-plan
returns-in_err-plan g c =
    let fault = c.in_err-plan.field-0.0 in
    let same : c.from_residual.result ≡ Err fault = search rules in
    let is : fault ≡ Memory = c.in_err-plan.ensures.fault in
    record {
      joins = rw (same, is)
          (inl (joining.Log log.Memory, refl, Keeps-refl (g.W.Sink.contents c.args.output.now), c.requires.stopped));
      unprinted = λ it. absurd (memory_not_write (sym is ∙ (cc (same, it))));
      flushed = rw same tt;
      spares = g.met.C.Counter.spares_itself (counter_of c.args.machine.now);
    }

pub returns-in_err-joined : goal.returns-in_err-joined
returns-in_err-joined g c =
    let fault = c.in_err-joined.field-0.0 in
    let same : c.from_residual-in_err-joined.result ≡ Err (fault_of_joining fault) = search rules in
    record {
      joins = rw same (inl (fault, refl, Keeps-refl (g.W.Sink.contents c.args.output.now), c.in_err-joined.ensures.down));
      unprinted = λ is. absurd (joining_not_write fault (cc (same, is)));
      flushed = rw same tt;
      spares = c.in_err-joined.ensures.others;
    }

pub returns : goal.returns
returns g c =
    let it = c.in_ok-joined.ensures in
    record {
      joins = joined_printed g.C.Counter.seen g.C.Counter.spares g.L.SharedLog.known c.in_ok-joined.joined
          c.args.machine.now c.join.new.self _ _ _ _ c.print_joined.result record {
            went = subst (λ (rows : Rows). HasJoined g.C.Counter.seen g.L.SharedLog.known g.C.Counter.spares rows c.args.machine.now
                c.join.new.self) c.in_ok-plan.ensures.none it.joined;
            holds = it.counts;
          }
          c.print_joined.ensures.prints c.print_joined.ensures.fault;
      unprinted = λ is. err_holds c.print_joined.result Write is c.print_joined.ensures.failed;
      flushed = c.print_joined.ensures.prints.flushed;
      spares = it.others;
    }
