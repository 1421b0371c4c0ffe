use Rattle.posting_rules.proofs.BalanceLimits.{stays_within}
use Rattle.posting_rules.proofs.laws.balances_stay_within.Goals as goal

pub returns : goal.returns
returns c = stays_within
