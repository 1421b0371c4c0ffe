-- Where the line of the requests can't be printed, nothing is done.
use Rattle.std.proofs.Common.{rules, ◌≡◌, Err, inl, inr, refl}
use Rattle.posting_core.specs.EndCalls.{IsFlush}
use Rattle.posting_core.proofs.Telling.{last_some}
use Rattle.report_contents.proofs.Written.{later_failed}
use Rattle.command_line.specs.declared.fault.CommandFault.TheVariants.{Write}
use Rattle.command_line.proofs.Printed.{part_of}
use Rattle.command_line.proofs.following.follow_by.Goals as goal

pub returns-in_err-print_after : goal.returns-in_err-print_after
returns-in_err-print_after g c =
    let same : c.from_residual.result ≡ Err Write = search rules in
    record {
      follows = inl (same, part_of c.in_err-print_after.ensures.prints.part, refl, refl);
      unprinted = λ is. c.in_err-print_after.ensures.failed;
      spares = g.met.C.Counter.spares_itself c.args.bank.now;
    }

pub returns : goal.returns
returns g c = record {
  follows = inr (_, c.in_ok-print_after.ensures.prints.line, c.follow_log.ensures.follows);
  unprinted = λ is.
      later_failed (last_some IsFlush c.in_ok-print_after.ensures.prints.flushed) (c.follow_log.ensures.unprinted is);
  spares = c.follow_log.ensures.spares;
}
