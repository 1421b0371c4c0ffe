use Rattle.posting_rules.proofs.Undamaged.{undamaged}
use Rattle.posting_rules.proofs.laws.tables_are_undamaged.Goals as goal

pub returns : goal.returns
returns c = undamaged
