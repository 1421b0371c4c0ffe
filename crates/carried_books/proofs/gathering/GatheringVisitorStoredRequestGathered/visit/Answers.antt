-- The row is one more, or that of no request.
use Rattle.std.proofs.Common.{refl}
use Rattle.bank_replays.proofs.Exits.{memory_refuses, nothing_said}
use Rattle.carried_books.proofs.{GatheredRows.request_more, Told.told_ok, Told.told_refuses}
use Rattle.carried_books.proofs.gathering.GatheringVisitorStoredRequestGathered.visit.Goals as goal

pub returns-in_default-clause-why : goal.returns-in_default-clause-why
returns-in_default-clause-why c = (refl, c.in_default.ensures.none)

pub returns-clause-visited : goal.returns-clause-visited
returns-clause-visited c first rows visited =
    rw c.told.ensures (told_ok _ c.add.result
    (request_more first c.args.gathered.now c.add.new.self rows c.args.row c.in-Some.run' c.add.result
    c.in-Some.ensures.some visited c.add.ensures))

pub returns-clause-part : goal.returns-clause-part
returns-clause-part c first rows visited = nothing_said c.told.result

pub returns-clause-why : goal.returns-clause-why
returns-clause-why c = memory_refuses _ c.told.result (rw c.told.ensures (told_refuses c.add.result))
