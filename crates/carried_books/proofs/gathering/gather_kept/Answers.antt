-- All rows were visited.
use Rattle.std.proofs.Common.{map, sym}
use Rattle.store_rows.specs.believed.View as view
use Rattle.walked_rows.proofs.Shown.{has_requests}
use Rattle.bank_store.specs.believed.Seen.{database_of}
use Rattle.bank_replays.proofs.{Read.read_any, Read.read_fails, Whys.why_err, Whys.why_none}
use Rattle.carried_books.proofs.GatheredRows.{kept_gathered}
use Rattle.carried_books.proofs.gathering.gather_kept.Goals as goal

pub returns-in-Ok : goal.returns-in-Ok
returns-in-Ok g c =
    let it = c.in-Ok.ensures in
    record {
      reads = record { bank = read_any it.bank _; why = why_none _ };
      rows = λ clean t shows.
          kept_gathered t c.args.gathered.now c.visit_all.new.target it.visits.0 it.visits.1
          (it.visits.2 clean (map view.request_entry t.requests) (has_requests (database_of g.S.Store c.args.bank.now) t shows));
    }

pub returns-in-Err : goal.returns-in-Err
returns-in-Err g c = record {
  reads = record {
    bank = read_fails _ c.in-Err.ensures.bank;
    why = why_err c.in-Err.fault _ (sym c.bank_fault.ensures) c.in-Err.ensures.why;
  };
  rows = λ clean t shows. tt;
}
