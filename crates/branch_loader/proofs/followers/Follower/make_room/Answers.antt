-- What waits is of this moment and leaves room, or nothing waits.
use Rattle.std.proofs.Common.{rules, ◌≡◌, Err}
use Rattle.branch_loader.proofs.Following.{following_none, none_waits_at}
use Rattle.branch_loader.proofs.followers.Follower.make_room.Goals as goal

pub returns-in_err-post : goal.returns-in_err-post
returns-in_err-post g c =
    let fault = c.in_err-post.field-0.0 in
    let same : c.from_residual.result ≡ Err fault = search rules in
    record {
      follows = λ first rows given next it.
          rw same (c.in_err-post.ensures.follows first rows c.args.self.now.looked.items given next it);
      moment = rw same tt;
      room = rw same tt;
      plan = c.in_err-post.ensures.plan;
      looked = c.in_err-post.ensures.looked;
    }

pub returns-clause-follows : goal.returns-clause-follows
returns-clause-follows g c first rows given next it =
    let looked = c.args.self.now.looked.items in
    let posted = c.in_ok-post.ensures.follows first rows looked given next it in
    rw (c.in_ok-post.ensures.looked) (following_none g.C.Counter.seen g.C.Counter.spares g.C.Counter.reason rows first
    c.post.new.counter given next _ looked (record { opened = posted.opened; counted = posted.counted })
    (none_waits_at _ _ _ _ c.in_ok-post.ensures.empty))
