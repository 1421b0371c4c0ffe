-- What `create` says, and what was printed after it.
use Rattle.std.proofs.Common.{inl, inr, refl}
use Rattle.bank_commands.proofs.Told.{line_told, refused_over}
use Rattle.bank_commands.proofs.Unwritten.{line_not_written, opening_is_no_write}
use Rattle.bank_commands.proofs.commands.init_over.Goals as goal

pub returns-in-Err : goal.returns-in-Err
returns-in-Err g c =
    let it = c.in-Err.ensures in
    record {
      inits = inl (
        refused_over _ c.in-Err.refused c.refuse.result.conn c.refuse.result.end c.refuse.ensures.end
            c.refuse.ensures.conn record {
              fault = it.fault;
              taken = it.refused;
              cause = it.cause;
              empty = it.empty;
              back = it.back;
              survives = it.survives;
            },
        refl,
      );
      unprinted = λ is. opening_is_no_write c.in-Err.refused.fault c.refuse.result.end c.refuse.ensures.end is;
      idle = rw c.refuse.ensures.conn it.back.idle;
    }

pub returns : goal.returns
returns g c =
    let it = c.in-Ok.ensures in
    let line = c.print_created.ensures in
    record {
      inits = inr record {
        first = c.in-Ok.bank;
        last = c.in-Ok.bank;
        did = (
          record { made = it.made; survives = it.survives },
          refl,
          rw c.done-end.ensures (line_told _ _ _ c.print_created.result line.prints.line line.prints.part line.fault),
        );
        conn = c.release.ensures.same;
      };
      unprinted = rw c.done-end.ensures (line_not_written c.print_created.result line.failed);
      idle = c.release.ensures.idle;
    }
