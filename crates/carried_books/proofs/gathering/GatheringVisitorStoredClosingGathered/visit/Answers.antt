-- The row is one more.
use Rattle.bank_replays.proofs.Exits.{memory_refuses, nothing_said}
use Rattle.carried_books.proofs.{GatheredRows.closing_more, Told.told_ok, Told.told_refuses}
use Rattle.carried_books.proofs.gathering.GatheringVisitorStoredClosingGathered.visit.Goals as goal

pub returns-clause-visited : goal.returns-clause-visited
returns-clause-visited c first rows visited =
    rw c.told.ensures (told_ok _ c.add.result
    (closing_more first c.args.gathered.now c.add.new.self rows c.args.row c.run_in.result c.has_seal.result
    c.add.result c.run_in.ensures c.has_seal.ensures visited c.add.ensures))

pub returns-clause-part : goal.returns-clause-part
returns-clause-part c first rows visited = nothing_said c.told.result

pub returns-clause-why : goal.returns-clause-why
returns-clause-why c = memory_refuses _ c.told.result (rw c.told.ensures (told_refuses c.add.result))
