-- The lines of what was found, or why there are none.
use Rattle.std.proofs.{Common.Err, Common.ap, Common.refl, KnownBytes.Keeps-refl}
use Rattle.bank_commands.proofs.replaying.print_first.Goals as goal

pub returns-in-Some : goal.returns-in-Some
returns-in-Some g c =
    rw (c.in-Ok.is, c.in-Some.is) (c.print_digest-printed.result, c.print_digest-printed.ensures, c.ended.ensures)

pub returns-in-None : goal.returns-in-None
returns-in-None g c = rw (c.in-Ok.is, c.in-None.is) (refl, Keeps-refl (g.W.Sink.contents c.args.output.now))

pub returns-in-Err : goal.returns-in-Err
returns-in-Err g c = rw c.in-Err.is (ap Err c.from.ensures, Keeps-refl (g.W.Sink.contents c.args.output.now))
