use Rattle.std.proofs.Common.{◌≡◌, ◌+◌, ◌-◌, length}
use Rattle.posting_rules.specs.declared.limits.TheConstants.{LAST_BRANCH}
use Rattle.branch_loader.specs.Plans.{IsPlan, plan_of_records, row_of_fields, rows_by}
use Rattle.posting_core.specs.EndCalls.{HasMore}
use Rattle.branch_loader.specs.Records.{Records}
use Rattle.branch_loader.proofs.read.read_rows.Given as goal

abbrev pub invariant-rows : goal.invariant-rows
invariant-rows g l = record {
  plain : g.S.RecordSource.is_plain l.records;
  more : HasMore (g.S.RecordSource.calls l.fn.records) (g.S.RecordSource.calls l.records);
  plan : IsPlan l.rows.items;
  states : (all : Records) → g.S.RecordSource.has_left l.fn.records all → (rest : Records)
      × g.S.RecordSource.has_left l.records rest ×
      (plan_of_records all ≡ rows_by (row_of_fields l.has_floors) l.rows.items rest);
}

abbrev pub decreases-rows : goal.decreases-rows
decreases-rows g l = LAST_BRANCH + 2 - length l.rows.items
