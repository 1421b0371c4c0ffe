-- Where it can't be told where the counter listens, nothing is served.
use Rattle.std.proofs.Common.{rules, ◌≡◌, ap, inl, refl, Err}
use Rattle.command_line.specs.{declared.fault.CommandFault.TheVariants.Write}
use Rattle.command_line.specs.{Working.done_after}
use Rattle.command_line.proofs.Printed.{part_of}
use Rattle.command_line.proofs.serving.serve_at.Goals as goal

pub returns-in_err-print_listening-clause-serves : goal.returns-in_err-print_listening-clause-serves
returns-in_err-print_listening-clause-serves g c =
    let same : c.from_residual.result ≡ Err Write = search rules in
    inl (ap done_after same, part_of c.in_err-print_listening.ensures.prints.part, refl, refl)

-- what no call of the bank touches
pub returns-in_err-print_listening-clause-spares : goal.returns-in_err-print_listening-clause-spares
returns-in_err-print_listening-clause-spares g c = g.met.C.Counter.spares_itself c.args.bank.now
