use Rattle.posting_rules.proofs.Consistent.{consistent}
use Rattle.posting_rules.proofs.laws.tables_are_consistent.Goals as goal

pub returns : goal.returns
returns c = consistent
