-- Each by its lemma.
use Rattle.shared_log.proofs.Shared.{all_had, answered_shared, are_shared, none_behind, one_order}
use Rattle.shared_log.proofs.laws.sharing_law.Goals as goal

pub returns-clause-shared : goal.returns-clause-shared
returns-clause-shared g c = are_shared g.C.Counter.seen g.L.SharedLog.known

pub returns-clause-answered : goal.returns-clause-answered
returns-clause-answered g c = answered_shared g.C.Counter.seen g.L.SharedLog.known

pub returns-clause-had : goal.returns-clause-had
returns-clause-had g c = all_had g.C.Counter.seen g.L.SharedLog.known

pub returns-clause-behind : goal.returns-clause-behind
returns-clause-behind g c = none_behind g.C.Counter.seen g.L.SharedLog.known

pub returns-clause-order : goal.returns-clause-order
returns-clause-order g c = one_order g.C.Counter.seen g.L.SharedLog.known
