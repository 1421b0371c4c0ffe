-- What its trees show is what its database shows, and all that a crash may leave.
use Rattle.sqlite.specs.Held.{state}
use Rattle.bank_store.proofs.JustOpened.{stands_earlier}
use Rattle.bank_store.proofs.laws.opened_earlier_law.Goals as goal

pub returns : goal.returns
returns g c opens from log left =
    let conn = c.args.conn.now in
    stands_earlier from (state g.S.Store conn) opens
    (λ db may. g.met.S.Store.settled conn.store db opens.is_open may)
    (c.schema-schema.ensures.live opens.is_open).0 log left
