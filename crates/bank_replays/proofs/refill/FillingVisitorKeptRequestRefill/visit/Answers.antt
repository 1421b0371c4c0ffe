-- The request follows those before it.
use Rattle.bank_replays.proofs.Exits.{memory_refuses, nothing_said}
use Rattle.bank_replays.proofs.TakenRows.{follows_next, follows_none_read}
use Rattle.bank_replays.proofs.refill.FillingVisitorKeptRequestRefill.visit.Goals as goal

pub returns-clause-visited : goal.returns-clause-visited
returns-clause-visited g c first rows visited =
    follows_next first c.args.refill.now rows c.args.row visited c.take.new.self c.in-Some.request
    c.had_account.result c.in-Some.ensures.some.0 c.in-Some.ensures.some.1 c.had_account.ensures c.take.result
    (λ sure plan is log holds. c.take.ensures.holds sure plan is log (c.reach.ensures plan log holds))

pub returns-in_default-clause-visited : goal.returns-in_default-clause-visited
returns-in_default-clause-visited g c first rows visited =
    follows_none_read first c.args.refill.now rows c.args.row visited c.reach.new.self c.in_default.ensures.none
    c.reach.ensures

pub returns-clause-part : goal.returns-clause-part
returns-clause-part g c first rows visited = nothing_said c.take.result

pub returns-clause-why : goal.returns-clause-why
returns-clause-why g c = memory_refuses _ c.take.result c.take.ensures.memory

pub returns-in_default-clause-part : goal.returns-in_default-clause-part
returns-in_default-clause-part g c first rows visited = tt

pub returns-in_default-clause-why : goal.returns-in_default-clause-why
returns-in_default-clause-why g c = tt
