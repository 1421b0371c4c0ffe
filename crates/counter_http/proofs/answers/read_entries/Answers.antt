use Rattle.counter_http.proofs.Asked.{asked_refused}
use Rattle.counter_http.proofs.answers.read_entries.Goals as goal

-- the bank refused the call
pub returns-in-Err-clause-asked : goal.returns-in-Err-clause-asked
returns-in-Err-clause-asked g c =
    asked_refused g.C.Counter.seen g.C.Counter.contents g.C.Counter.reason c.args.bank.now c.entries_after.new.self
    c.in-Err.fault c.in-Err.ensures.call
