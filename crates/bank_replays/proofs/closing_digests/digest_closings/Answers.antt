-- The lines of all rows were hashed.
use Rattle.std.proofs.Common.{◌∙◌, ◌++◌, ℕ, [], List, sym, ap}
use Rattle.sha2.specs.Sha256.{sha256}
use Rattle.bank_replays.specs.ClosingDigests.{closing_lines}
use Rattle.bank_replays.proofs.{Read.read_any, Read.read_fails, Whys.why_err, Whys.why_none}
use Rattle.bank_replays.proofs.closing_digests.digest_closings.Goals as goal

pub returns-in-Ok : goal.returns-in-Ok
returns-in-Ok g c =
    let it = c.in-Ok.ensures in
    record {
      bank = read_any it.bank _;
      rows = λ clean rows has.
          c.finalize.ensures _ (it.visits.1 [] c.new-hasher.ensures)
          ∙ ap (λ l. sha256 (closing_lines l)) (it.visits.2 clean rows has);
      why = why_none _;
    }

pub returns-in-Err : goal.returns-in-Err
returns-in-Err g c = record {
  bank = read_fails _ c.in-Err.ensures.bank;
  rows = λ clean. tt;
  why = why_err c.in-Err.fault _ (sym c.bank_fault.ensures) c.in-Err.ensures.why;
}
