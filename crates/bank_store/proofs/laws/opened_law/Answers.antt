-- What its trees show is what its database shows, and all that a crash may leave.
use Rattle.sqlite.specs.Held.{state}
use Rattle.bank_store.proofs.JustOpened.{stands_opened}
use Rattle.bank_store.proofs.laws.opened_law.Goals as goal

pub returns : goal.returns
returns g c opens t log are left shown =
    let conn = c.args.conn.now in
    stands_opened (state g.S.Store conn) ⊥ (λ none. none) opens
    (λ db may. g.met.S.Store.settled conn.store db opens.is_open may) t log are left
    (c.trees_show_law.ensures.finds opens.is_open t left) shown
