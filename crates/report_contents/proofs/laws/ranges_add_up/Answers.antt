use Rattle.report_contents.proofs.Added.{ranges_add_up}
use Rattle.report_contents.proofs.laws.ranges_add_up.Goals as goal

pub returns : goal.returns
returns c = ranges_add_up
