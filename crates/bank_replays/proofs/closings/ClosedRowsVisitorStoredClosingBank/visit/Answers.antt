-- The row is one more.
use Rattle.bank_replays.proofs.{Closed.closes_next, Exits.memory_refuses, Exits.nothing_said}
use Rattle.bank_replays.proofs.closings.ClosedRowsVisitorStoredClosingBank.visit.Goals as goal

pub returns-clause-visited : goal.returns-clause-visited
returns-clause-visited g c first rows visited = closes_next g.T.Store first c.args.due.now c.close_row.new.due rows c.args.row
    c.close_row.result visited c.close_row.ensures.closes

pub returns-clause-part : goal.returns-clause-part
returns-clause-part g c first rows visited = nothing_said c.close_row.result

pub returns-clause-why : goal.returns-clause-why
returns-clause-why g c = memory_refuses _ c.close_row.result c.close_row.ensures.memory
