-- The first of the entries were taken.
use Rattle.std.proofs.Common.{◌≡◌, take}
use Rattle.branch_loader.specs.Following.{TakesSome}
use Rattle.branch_loader.proofs.followers.Follower.take_all.Given as goal

abbrev pub invariant-loop-i : goal.invariant-loop-i
invariant-loop-i g l = record {
  plan : l.self.plan.now ≡ l.fn.self.plan.now;
  some : TakesSome g.C.Counter.seen g.C.Counter.spares l.fn.counter l.counter l.fn.self.plan.now l.fn.self.waiting
      l.fn.self.looked.items (take l.i l.entries) l.self.waiting l.self.looked.items;
}
