use Rattle.counter_http.proofs.Asked.{asked_refused}
use Rattle.counter_http.proofs.answers.read_balance.Goals as goal

-- the bank refused the call
pub returns-in-Err-clause-asked : goal.returns-in-Err-clause-asked
returns-in-Err-clause-asked g c =
    asked_refused g.C.Counter.seen g.C.Counter.contents g.C.Counter.reason c.args.bank.now c.balance_of.new.bank
    c.in-Err.fault c.in-Err.ensures.call
