-- The line that is printed, or the fault.
use Rattle.std.proofs.{Common.Err, Common.ap, KnownBytes.Keeps-refl}
use Rattle.bank_commands.proofs.Told.{line_told}
use Rattle.bank_commands.proofs.Unwritten.{ends_by_bank, line_not_written}
use Rattle.bank_commands.proofs.commands.print_seal.Goals as goal

pub returns-in-Ok : goal.returns-in-Ok
returns-in-Ok g c =
    let line = c.print_sealed.ensures in
    rw (c.in-Ok.is, c.done.ensures) record {
      prints = line_told _ _ _ c.print_sealed.result line.prints.line line.prints.part line.fault;
      unprinted = line_not_written c.print_sealed.result line.failed;
    }

pub returns-in-Err : goal.returns-in-Err
returns-in-Err g c = rw c.in-Err.is record {
  prints = (ap Err c.from.ensures, Keeps-refl (g.W.Sink.contents c.args.output.now));
  unprinted = ends_by_bank c.in-Err.fault _ (ap Err c.from.ensures);
}
