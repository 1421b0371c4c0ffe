-- One more is added.
use Rattle.std.proofs.Common.{refl, arith}
use Rattle.posting_core.proofs.Telling.{more_none}
use Rattle.bank_reports.proofs.ReportEnds.{not_ok}
use Rattle.bank_reports.proofs.visitors.RangeSumsVisitor.visit.Goals as goal

pub add-requires : goal.add-requires
add-requires g c = omega (arith, c.requires.3.summed.count, c.requires.4)

pub returns : goal.returns
returns g c = record {
  visited = λ first bytes given it. record {
    summed = c.add.ensures first.range given it.summed;
    silent = it.silent;
  };
  faults = tt;
  more = more_none _;
  failed = λ write. absurd (not_ok _ _ _ refl write);
}
