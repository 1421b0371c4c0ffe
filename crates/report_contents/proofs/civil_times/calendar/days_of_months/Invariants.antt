-- Month by month.
use Rattle.std.proofs.Common.{◌≡◌, ◌≤◌, ◌*◌}
use Rattle.report_contents.specs.Calendar.{days_of_months}
use Rattle.report_contents.proofs.civil_times.calendar.days_of_months.Given as goal

-- the days of those that were counted
abbrev pub invariant-months : goal.invariant-months
invariant-months l = record {
  days : l.days ≡ days_of_months l.fn.year l.month;
  most : l.days ≤ 31 * l.month;
}
