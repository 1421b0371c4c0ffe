use Rattle.std.proofs.Common.{rules}
use Rattle.posting_rules.proofs.cases.reply_to.Goals as goal

pub returns-in-Posted : goal.returns-in-Posted
returns-in-Posted c = search rules
