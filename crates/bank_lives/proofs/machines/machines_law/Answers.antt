-- The first requests are answered again, and the later ones are kept, which one that began as the leader did hasn't closed.
use Rattle.posting_rules.specs.believed.{Entries.decided, Runs.followed_by}
use Rattle.posting_rules.proofs.{Consistent.consistent, Requests.are_new, Requests.none_shares}
use Rattle.bank_lives.proofs.{Begun.later_are_current, Follower.all_have, Follower.first_again}
use Rattle.bank_lives.proofs.machines.machines_law.Goals as goal

pub returns-clause-first : goal.returns-clause-first
returns-clause-first c = first_again

pub returns-clause-later : goal.returns-clause-later
returns-clause-later c leader follower n sent it on = record {
  keeps = all_have leader follower n it sent on;
  once = none_shares (decided (followed_by follower sent)) (are_new (followed_by follower sent));
  sums = λ t shows. consistent t (followed_by follower sent) shows;
}

pub returns-clause-current : goal.returns-clause-current
returns-clause-current c = later_are_current
