-- One more is noted.
use Rattle.std.proofs.Common.{arith}
use Rattle.branch_loader.proofs.Following.{looks_same, looks_set, set_marked}
use Rattle.branch_loader.proofs.followers.Follower.note.Goals as goal

pub returns-in-Some-clause-looked : goal.returns-in-Some-clause-looked
returns-in-Some-clause-looked c = looks_set c.args.self.now.looked.items c.args.branch

pub returns-in-Some-clause-has : goal.returns-in-Some-clause-has
returns-in-Some-clause-has c low =
    set_marked c.args.self.now.looked.items c.args.branch
    (omega (arith, low, c.args.self.now.sized, c.args.self.now.looked.ok.0))

-- no place is noted
pub returns-in_default-clause-looked : goal.returns-in_default-clause-looked
returns-in_default-clause-looked c = looks_same c.args.self.now.looked.items c.args.branch

pub returns-in_default-clause-has : goal.returns-in_default-clause-has
returns-in_default-clause-has c low =
    absurd (cc (c.in_default.ensures.variant.1 (omega (arith, low, c.args.self.now.sized, c.args.self.now.looked.ok.0))))
