-- The laws.
use Rattle.report_contents.proofs.{Telling.tells, OfTables.tells_of_tables}
use Rattle.report_contents.proofs.laws.audit_tells_consistency.Goals as goal

pub returns-clause-stored : goal.returns-clause-stored
returns-clause-stored c = tells

pub returns-clause-tables : goal.returns-clause-tables
returns-clause-tables c = tells_of_tables
