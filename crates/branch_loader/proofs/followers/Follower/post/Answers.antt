-- What waits was posted, whatever the plan is.
use Rattle.branch_loader.proofs.followers.Follower.post.Goals as goal

pub returns-clause-follows : goal.returns-clause-follows
returns-clause-follows g c first rows looked given next it =
    c.post_waiting.ensures.follows first rows looked given next it
