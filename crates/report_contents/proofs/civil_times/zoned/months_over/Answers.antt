-- A year has no more days than its months.
use Rattle.std.proofs.Common.{◌≡◌, ◌+◌, arith}
use Rattle.report_contents.specs.Calendar.{days_of_months}
use Rattle.report_contents.proofs.Dated.{months_make_year}
use Rattle.report_contents.proofs.civil_times.zoned.months_over.Goals as goal

pub unreachable-requires : goal.unreachable-requires
unreachable-requires c =
    let whole : c.passed.months ≡ 12 = omega arith in
    let days : c.args.day ≡ days_of_months c.args.year 12 + c.passed.rest = rw whole at c.passed.invariant in
    let year = months_make_year c.args.year in
    omega (arith, days, year, c.requires)
