use Rattle.posting_rules.proofs.TwoYears.{still_carries, two_years}
use Rattle.posting_rules.proofs.laws.two_years_law.Goals as goal

pub returns-clause-places : goal.returns-clause-places
returns-clause-places c = two_years

pub returns-clause-still : goal.returns-clause-still
returns-clause-still c = still_carries
