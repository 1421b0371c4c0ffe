use Rattle.posting_rules.proofs.AboveFloors.{stays_above}
use Rattle.posting_rules.proofs.laws.accounts_stay_above.Goals as goal

pub returns : goal.returns
returns c = stays_above
