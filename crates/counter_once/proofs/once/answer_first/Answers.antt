use Rattle.posting_core.proofs.InMemory.{shows_plain}
use Rattle.counter_once.proofs.First.{two_are_commands, answered, faulted}
use Rattle.counter_once.specs.First.{two_branches}
use Rattle.counter_once.proofs.once.answer_first.Goals as goal

pub returns-clause-ok : goal.returns-clause-ok
returns-clause-ok g c = answered c.answer_once.result _ _ _ _ _ _ _ tt
    (shows_plain c.in-Ok.bank two_branches two_are_commands c.in-Ok.ensures.shows) c.answer_once.ensures.ok

pub returns-clause-fault : goal.returns-clause-fault
returns-clause-fault g c = faulted c.answer_once.result _ _ _ _ c.in-Ok.bank c.answer_once.new.bank _
    (shows_plain c.in-Ok.bank two_branches two_are_commands c.in-Ok.ensures.shows) c.answer_once.ensures.fault
