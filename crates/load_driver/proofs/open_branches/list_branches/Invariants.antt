use Rattle.std.proofs.Common.{◌-◌}
use Rattle.load_driver.proofs.Listed.{Listing}
use Rattle.posting_rules.specs.declared.limits.TheConstants.{LAST_BRANCH}
use Rattle.load_driver.proofs.open_branches.list_branches.Given as goal

abbrev pub invariant-loop-rows : goal.invariant-loop-rows
invariant-loop-rows g l = record {
  listing : Listing g.C.Counter.seen l.fn.counter l.counter l.rows.items l.after;
  spares : g.C.Counter.spares l.fn.counter l.counter;
}

abbrev pub decreases-loop-rows : goal.decreases-loop-rows
decreases-loop-rows g l = LAST_BRANCH - l.after
