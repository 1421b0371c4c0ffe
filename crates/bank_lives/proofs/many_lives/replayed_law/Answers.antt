-- A bank that was replayed stands at the log that its tables show.
use Rattle.bank_lives.proofs.Replayed.{begins_replayed, stands_replayed}
use Rattle.bank_lives.proofs.many_lives.replayed_law.Goals as goal

pub returns-clause-begins : goal.returns-clause-begins
returns-clause-begins g c bank last log it = begins_replayed g.S.Store c.args.conn.now bank last log it
    (λ db may. g.met.S.Store.settled c.args.conn.now.store db it.opens.is_open may)

pub returns-clause-stands : goal.returns-clause-stands
returns-clause-stands g c bank last log it = stands_replayed g.S.Store c.args.conn.now bank last log it
    (λ db may. g.met.S.Store.settled c.args.conn.now.store db it.opens.is_open may)
