-- The plan was looked at for no branch yet.
use Rattle.std.proofs.Common.{◌+◌, refl}
use Rattle.posting_rules.specs.declared.limits.TheConstants.{LAST_BRANCH}
use Rattle.branch_loader.proofs.Following.{none_looked_in}
use Rattle.branch_loader.proofs.followers.Follower.over.Goals as goal

pub returns : goal.returns
returns c =
    let items = c.in_ok-looked.ensures.items_if_clones_equal (λ y e. e) in
    (refl, c.none.ensures.waits, c.none.ensures.posted, none_looked_in c.in_ok-looked.looked.items (LAST_BRANCH + 1) items)
