use Rattle.std.proofs.Common.{sym, arith}
use Rattle.report_contents.proofs.Dated.{dated}
use Rattle.report_contents.proofs.civil_times.zoned.date_of.Goals as goal

pub returns : goal.returns
returns c =
    let years = c.years_over-years in
    let months = c.months_over-months in
    sym (dated c.args.day years.result.0 months.result.0 months.result.1 months.ensures.months months.ensures.last
    (omega (arith, years.ensures.days, months.ensures.days)))
