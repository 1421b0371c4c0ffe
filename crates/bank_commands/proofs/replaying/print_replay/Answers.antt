-- The lines of what was found, or its fault.
use Rattle.std.proofs.Common.{ℕ, List, Err, ap, subst}
use Rattle.std.proofs.KnownBytes.{Keeps-refl}
use Rattle.command_line.specs.Replaying.{PrintsText, differing_lines}
use Rattle.bank_commands.proofs.replaying.print_replay.Goals as goal

pub returns-in-Agrees : goal.returns-in-Agrees
returns-in-Agrees g c =
    rw (c.in-Ok.is, c.in-Agrees.is) (c.print_agreeing-printed.result, c.print_agreeing-printed.ensures, c.ended.ensures)

pub returns-in-Differs : goal.returns-in-Differs
returns-in-Differs g c =
    let it = c.print_differing.ensures in
    rw (c.in-Ok.is, c.in-Differs.is) (
      c.print_differing.result,
      subst (λ (text : List ℕ).
          PrintsText (differing_lines text) (g.W.Sink.contents c.args.output.now)
          (g.W.Sink.contents c.print_differing.new.output) (g.W.Sink.calls c.args.output.now)
          (g.W.Sink.calls c.print_differing.new.output) c.print_differing.result) it.1 it.2,
      c.ended-in-Differs.ensures,
    )

pub returns-in-Err : goal.returns-in-Err
returns-in-Err g c = rw c.in-Err.is (ap Err c.from.ensures, Keeps-refl (g.W.Sink.contents c.args.output.now))
