-- The fault in other words.
use Rattle.std.proofs.Common.{Ok, ap, refl}
use Rattle.carried_books.proofs.{GatheredRows.ok_is, Told.told_any, Told.told_fails}
use Rattle.carried_books.proofs.comparison.compare_new.Goals as goal

pub returns-in-Ok : goal.returns-in-Ok
returns-in-Ok g c = record {
  reads = told_any c.in-Ok.ensures.reads _;
  beside = tt;
  none = λ clean is t shows. c.in-Ok.ensures.none clean (ap Ok (ok_is _ _ is)) t shows;
}

pub returns-in-Err : goal.returns-in-Err
returns-in-Err g c = record {
  reads = told_fails _ refl c.in-Err.ensures.reads;
  beside = refl;
  none = λ clean is. absurd cc;
}
