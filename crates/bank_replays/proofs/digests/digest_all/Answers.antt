-- All rows were visited to the digest of none.
use Rattle.std.proofs.Common.{sym}
use Rattle.bank_replays.proofs.{Chained.digest_is, Read.read_any, Read.read_fails, Whys.why_err, Whys.why_none}
use Rattle.bank_replays.proofs.digests.digest_all.Goals as goal

pub returns-in-Ok : goal.returns-in-Ok
returns-in-Ok g c =
    let it = c.in-Ok.ensures in
    record {
      bank = read_any it.bank _;
      rows = λ clean all has.
          digest_is c.none-digest.result c.visit_all.new.target _ all c.none-digest.ensures.requests
          c.none-digest.ensures.sha256 it.visits.1 (it.visits.2 clean all has);
      why = why_none c.visit_all.new.target;
    }

pub returns-in-Err : goal.returns-in-Err
returns-in-Err g c = record {
  bank = read_fails _ c.in-Err.ensures.bank;
  rows = λ clean all has. tt;
  why = why_err c.in-Err.fault _ (sym c.bank_fault.ensures) c.in-Err.ensures.why;
}
