-- Month by month.
use Rattle.std.proofs.Common.{◌≡◌, ◌+◌}
use Rattle.report_contents.specs.Calendar.{days_of_months}
use Rattle.report_contents.proofs.civil_times.zoned.months_over.Given as goal

-- the days of those that are over, and the rest
abbrev pub invariant-passed : goal.invariant-passed
invariant-passed l = l.fn.day ≡ days_of_months l.fn.year l.months + l.rest
