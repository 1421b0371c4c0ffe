-- A call that was answered, and one that was refused.
use Rattle.bank_lives.proofs.Calls.{taken_is_call, refused_is_call}
use Rattle.bank_lives.proofs.laws.calls_law.Goals as goal

pub returns-clause-answered : goal.returns-clause-answered
returns-clause-answered g c old new commands =
    taken_is_call (g.C.Counter.seen old) (g.C.Counter.seen new) commands

pub returns-clause-refused : goal.returns-clause-refused
returns-clause-refused g c fault old new commands = refused_is_call fault (g.C.Counter.seen old)
    (g.C.Counter.seen new) commands
