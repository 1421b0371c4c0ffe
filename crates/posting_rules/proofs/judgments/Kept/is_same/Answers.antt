use Rattle.std.proofs.Common.{rules}
use Rattle.posting_rules.proofs.judgments.Kept.is_same.Goals as goal

pub returns-then-eq-3 : goal.returns-then-eq-3
returns-then-eq-3 c = search rules
