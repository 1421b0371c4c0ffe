use Rattle.std.proofs.Common.{◌≡◌, length}
use Rattle.load_driver.proofs.DriveLoop.{Going}
use Rattle.load_driver.proofs.drive.drive.Given as goal

abbrev pub invariant-loop-left : goal.invariant-loop-left
invariant-loop-left g l = record {
  room : length l.records ≡ 64;
  going : Going g.C.Counter.seen l.fn.counter l.counter (g.K.Clock.readings l.fn.clock)
      (g.K.Clock.readings l.clock)
      l.fn.driver l.driver l.count l.left l.driven;
  spares : g.C.Counter.spares l.fn.counter l.counter;
}

abbrev pub decreases-loop-left : goal.decreases-loop-left
decreases-loop-left g l = l.left
