use Rattle.counter_http.proofs.Ended.{nobody_came, serves_together}
use Rattle.counter_http.proofs.together.serve_together.Goals as goal

-- memory was refused before anybody came
pub returns-in_default-clause-serves : goal.returns-in_default-clause-serves
returns-in_default-clause-serves g c = nobody_came g.C.Counter.seen _ _ c.args.bank.now c.args.connections

-- all who are here at the end leave
pub returns-clause-serves : goal.returns-clause-serves
returns-clause-serves g c =
    let served = c.serve_rounds-served in
    serves_together g.C.Counter.seen c.args.bank.now served.new.bank served.new.here.items c.part_from_all.new.here.items
    served.result served.ensures.serves c.part_from_all.ensures.leave c.part_from_all.ensures.none _ c.ended.ensures
