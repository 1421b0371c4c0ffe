-- Year by year.
use Rattle.std.proofs.Common.{◌≡◌, ◌≤◌, ◌*◌}
use Rattle.report_contents.specs.Calendar.{days_of_years}
use Rattle.report_contents.proofs.civil_times.calendar.days_of_years.Given as goal

-- the days of those that were counted
abbrev pub invariant-years : goal.invariant-years
invariant-years l = record {
  days : l.days ≡ days_of_years l.year;
  most : l.days ≤ 366 * l.year;
}
