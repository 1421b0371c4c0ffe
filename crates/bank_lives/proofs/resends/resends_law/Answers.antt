-- Records that come again.
use Rattle.posting_rules.specs.believed.Runs.{followed_by}
use Rattle.posting_rules.proofs.Resends.{shows_log_left_out}
use Rattle.bank_lives.proofs.Replied.{replied_again}
use Rattle.bank_lives.proofs.resends.resends_law.Goals as goal

pub returns : goal.returns
returns g c = record {
  replies = replied_again;
  tables = λ old new log p r added more hp hr skips shown.
      shows_log_left_out (g.C.Counter.seen new) log p r added hp hr skips (more (followed_by log p) shown);
}
