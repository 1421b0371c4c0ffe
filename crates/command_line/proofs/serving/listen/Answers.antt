use Rattle.std.proofs.Common.{rules, ◌≡◌, ap, inl, inr, refl, Err}
use Rattle.std.proofs.KnownBytes.{Keeps-refl}
use Rattle.command_line.specs.{declared.fault.CommandFault.TheVariants.Network, Working.done_after}
use Rattle.command_line.proofs.serving.listen.Goals as goal

pub returns-in_err-clients-clause-serves : goal.returns-in_err-clients-clause-serves
returns-in_err-clients-clause-serves g c =
    let same : c.from_residual.result ≡ Err Network = search rules in
    inl (ap done_after same, Keeps-refl _, refl, refl)

pub returns-clause-serves : goal.returns-clause-serves
returns-clause-serves g c = inr (_, _, c.in_ok-clients.ensures.bound, _, c.serve_at.ensures.serves)

-- what no call of the bank touches
pub returns-in_err-clients-clause-spares : goal.returns-in_err-clients-clause-spares
returns-in_err-clients-clause-spares g c = g.met.C.Counter.spares_itself c.args.bank.now
