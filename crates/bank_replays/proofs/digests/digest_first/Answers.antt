-- What was digested is the digest of the rows that were read, and why no more were.
use Rattle.std.proofs.Common.{sym, ◌∙◌, arith}
use Rattle.bank_replays.proofs.{Chained.digest_frugal, Chained.digest_is, Read.read_any, Read.read_fails}
use Rattle.bank_replays.proofs.Whys.{err_is, why_err, why_none}
use Rattle.bank_replays.proofs.digests.digest_first.Goals as goal

pub returns-in-Ok : goal.returns-in-Ok
returns-in-Ok g c =
    let it = c.in-Ok.ensures in
    record {
      bank = read_any it.bank _;
      rows = λ clean all has.
          digest_is c.none-digest.result c.visit_first.new.target _ _ c.none-digest.ensures.requests
          c.none-digest.ensures.sha256 it.visits.1 (it.visits.3 clean all has);
      why = why_none c.visit_first.new.target;
      frugal = λ is. absurd cc;
    }

pub returns-in-Err : goal.returns-in-Err
returns-in-Err g c =
    let it = c.in-Err.ensures in
    record {
      bank = read_fails _ it.bank;
      rows = λ clean all has. tt;
      why = why_err c.in-Err.fault _ (sym c.bank_fault.ensures) it.why;
      frugal = λ is.
          digest_frugal c.none-digest.result it.visits.0 c.args.count c.in-Err.fault (omega (arith, c.ranges.count.fits)) c.none-digest.ensures.requests
          it.visits.2 it.visits.3 (sym c.bank_fault.ensures ∙ err_is _ _ is);
    }
