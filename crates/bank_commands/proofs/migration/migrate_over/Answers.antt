-- What `migrate` says, and what was printed after it.
use Rattle.std.proofs.Common.{inl, inr, refl}
use Rattle.bank_commands.proofs.Told.{line_told, refused_over}
use Rattle.bank_commands.proofs.Unwritten.{line_not_written, opening_is_no_write}
use Rattle.bank_commands.proofs.migration.migrate_over.Goals as goal

pub returns-in-Err : goal.returns-in-Err
returns-in-Err g c =
    let it = c.in-Err.ensures in
    record {
      migrates = inl (
        refused_over _ c.in-Err.refused c.refuse.result.conn c.refuse.result.end c.refuse.ensures.end
            c.refuse.ensures.conn record {
              misplaced = it.misplaced;
              cause = it.cause;
              known = it.known;
              back = it.back;
              remains = it.remains;
              survives = it.survives;
            },
        refl,
      );
      unprinted = λ is. opening_is_no_write c.in-Err.refused.fault c.refuse.result.end c.refuse.ensures.end is;
      idle = rw c.refuse.ensures.conn it.back.idle;
    }

pub returns : goal.returns
returns g c =
    let it = c.in-Ok.ensures in
    let line = c.print_answer.ensures in
    record {
      migrates = inr record {
        first = c.in-Ok.done.0;
        last = c.in-Ok.done.0;
        did = (
          c.in-Ok.done.1,
          record { is = it.migrated; survives = it.survives },
          refl,
          rw c.done-end.ensures (line_told _ _ _ c.print_answer.result line.prints.line line.prints.part line.fault),
        );
        conn = c.release.ensures.same;
      };
      unprinted = rw c.done-end.ensures (line_not_written c.print_answer.result line.failed);
      idle = c.release.ensures.idle;
    }
