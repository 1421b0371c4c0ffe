use Rattle.posting_rules.proofs.Alike.{answer_alike}
use Rattle.posting_rules.proofs.Answering.{balances_alike, branches_alike, openings_alike}
use Rattle.posting_rules.proofs.laws.equal_tables_answer_alike.Goals as goal

pub returns-clause-replies : goal.returns-clause-replies
returns-clause-replies c = answer_alike

pub returns-clause-openings : goal.returns-clause-openings
returns-clause-openings c = openings_alike

pub returns-clause-balances : goal.returns-clause-balances
returns-clause-balances c = balances_alike

pub returns-clause-branches : goal.returns-clause-branches
returns-clause-branches c = branches_alike
