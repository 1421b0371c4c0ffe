use Rattle.report_contents.proofs.OfRows.{rows_tell}
use Rattle.report_contents.proofs.laws.rows_tell_of_tables.Goals as goal

pub returns : goal.returns
returns c = rows_tell
