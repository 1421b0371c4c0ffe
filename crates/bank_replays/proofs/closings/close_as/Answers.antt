-- All rows were visited.
use Rattle.std.proofs.Common.{List, sym, subst}
use Rattle.posting_rules.specs.believed.Counter.{ShowsLog}
use Rattle.sql_meanings.specs.believed.Entries.{Entry}
use Rattle.bank_store.specs.believed.Seen.{bank_seen}
use Rattle.bank_replays.specs.Closed.{closed_by}
use Rattle.bank_replays.proofs.{Read.read_any, Read.read_fails, Whys.why_err, Whys.why_none}
use Rattle.bank_replays.proofs.closings.close_as.Goals as goal

pub returns-in-Ok : goal.returns-in-Ok
returns-in-Ok g c =
    let it = c.in-Ok.ensures in
    record {
      bank = read_any it.bank _;
      closes = λ clean sure rows has log shows.
          subst (λ (es : List Entry). ShowsLog (bank_seen g.T.Store c.visit_all.new.target) (closed_by es log))
          (it.visits.2 clean rows has) (it.visits.1 sure log shows);
      why = why_none _;
    }

pub returns-in-Err : goal.returns-in-Err
returns-in-Err g c = record {
  bank = read_fails _ c.in-Err.ensures.bank;
  closes = λ clean sure rows has log shows. tt;
  why = why_err c.in-Err.fault _ (sym c.bank_fault.ensures) c.in-Err.ensures.why;
}
