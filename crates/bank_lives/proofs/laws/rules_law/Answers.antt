-- The tables of a log keep each rule.
use Rattle.bank_lives.proofs.KeepsRules.{keeps_all}
use Rattle.bank_lives.proofs.laws.rules_law.Goals as goal

pub returns : goal.returns
returns c tables log are shows rule = keeps_all tables log are shows rule
