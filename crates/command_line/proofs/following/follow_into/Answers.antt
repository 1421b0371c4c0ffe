-- Where there is no plan, nothing is done.
use Rattle.std.proofs.Common.{rules, ◌≡◌, Err, Ok, inl, inr, refl}
use Rattle.std.proofs.KnownBytes.{Keeps-refl}
use Rattle.command_line.specs.CommandFaults.{fault_of_plan}
use Rattle.command_line.proofs.LoadEnds.{file_not_write, not_write}
use Rattle.command_line.proofs.following.follow_into.Goals as goal

pub returns-in_err-source : goal.returns-in_err-source
returns-in_err-source g c =
    let same : c.from_residual.result ≡ Err c.in_err-source.field-0.0 = search rules in
    record {
      follows = inl (
        rw same c.in_err-source.ensures.refused,
        Keeps-refl (g.W.Sink.contents c.args.output.now),
        refl,
        refl,
      );
      unprinted = λ is.
          absurd (file_not_write c.in_err-source.field-0.0 c.in_err-source.ensures.refused (cc (same, is)));
      spares = g.met.C.Counter.spares_itself c.args.bank.now;
    }

pub returns-in_err-plan : goal.returns-in_err-plan
returns-in_err-plan g c =
    let fault = c.in_err-plan.field-0.0 in
    let same : c.from_residual-in_err-plan.result ≡ Err (fault_of_plan fault) = search rules in
    record {
      follows = inr (
        c.in_ok-source.source,
        c.read_plan.new.reader,
        Err fault,
        c.in_ok-source.ensures.named,
        c.in_err-plan.ensures,
        (same, Keeps-refl (g.W.Sink.contents c.args.output.now), refl, refl),
      );
      unprinted = λ is. absurd (not_write fault (cc (same, is)));
      spares = g.met.C.Counter.spares_itself c.args.bank.now;
    }

pub returns : goal.returns
returns g c = record {
  follows = inr (
    c.in_ok-source.source,
    c.read_plan.new.reader,
    Ok c.in_ok-plan.plan,
    c.in_ok-source.ensures.named,
    c.in_ok-plan.ensures,
    c.follow_by.ensures.follows,
  );
  unprinted = c.follow_by.ensures.unprinted;
  spares = c.follow_by.ensures.spares;
}
