-- Year by year.
use Rattle.std.proofs.Common.{◌≡◌, ◌≤◌, ◌*◌, ◌+◌}
use Rattle.report_contents.specs.Calendar.{days_of_years}
use Rattle.report_contents.proofs.civil_times.zoned.years_over.Given as goal

-- the days of those that are over, and the rest
abbrev pub invariant-passed : goal.invariant-passed
invariant-passed l = record {
  days : l.fn.day ≡ days_of_years l.years + l.rest;
  many : 365 * l.years + l.rest ≤ l.fn.day;
}
