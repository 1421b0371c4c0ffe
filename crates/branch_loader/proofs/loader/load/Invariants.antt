use Rattle.std.proofs.Common.{take}
use Rattle.branch_loader.proofs.Openings.{IsAfter}
use Rattle.branch_loader.proofs.loader.load.Given as goal

abbrev pub invariant-loop-row : goal.invariant-loop-row
invariant-loop-row g l = record {
  after : IsAfter g.C.Counter.seen l.fn.counter l.counter (take l.row-index l.row-items) l.loaded;
  spares : g.C.Counter.spares l.fn.counter l.counter;
}
