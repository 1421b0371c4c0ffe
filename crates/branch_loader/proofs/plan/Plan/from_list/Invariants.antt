use Rattle.std.proofs.Common.{◌≡◌, take, drop}
use Rattle.branch_loader.specs.Plans.{IsPlan, plan_of_list, row_of_listed, rows_by}
use Rattle.branch_loader.proofs.plan.Plan.from_list.Given as goal

abbrev pub invariant-loop-i : goal.invariant-loop-i
invariant-loop-i l = record {
  plan : IsPlan (take l.i l.rows.items);
  states : plan_of_list l.rows.items ≡ rows_by row_of_listed (take l.i l.rows.items) (drop l.i l.rows.items);
}
