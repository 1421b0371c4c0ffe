use Rattle.posting_rules.proofs.AsStated.{decides, replied}
use Rattle.posting_rules.proofs.laws.cases_are_as_stated.Goals as goal

pub returns-clause-decided : goal.returns-clause-decided
returns-clause-decided c = decides

pub returns-clause-replied : goal.returns-clause-replied
returns-clause-replied c = replied
