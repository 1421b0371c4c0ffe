use Rattle.posting_rules.specs.believed.Entries.{decided}
use Rattle.posting_rules.proofs.Requests.{none_shares, are_new}
use Rattle.posting_rules.proofs.laws.each_request_once.Goals as goal

pub returns : goal.returns
returns c = λ log. none_shares (decided log) (are_new log)
