-- What `adopt` says.
use Rattle.bank_commands.proofs.Told.{refused_over}
use Rattle.bank_commands.proofs.ended.find.Goals as goal

pub returns-in-Ok-clause-found : goal.returns-in-Ok-clause-found
returns-in-Ok-clause-found g c = record { found = c.in-Ok.ensures.found; survives = c.in-Ok.ensures.survives }

pub returns-in-Err : goal.returns-in-Err
returns-in-Err g c =
    let it = c.in-Err.ensures in
    record {
      found = tt;
      missed = refused_over _ c.in-Err.refused c.refuse.result.conn c.refuse.result.end c.refuse.ensures.end
          c.refuse.ensures.conn record {
            missed = it.missed;
            cause = it.cause;
            known = it.known;
            back = it.back;
            remains = it.remains;
            survives = it.survives;
          };
      idle = rw c.refuse.ensures.conn it.back.idle;
    }
