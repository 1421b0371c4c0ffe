-- The changed balance of one slot.
use Rattle.bank_transactions.proofs.{Rows.one_changed, Rows.teller_made, Running.writes_adds, Running.writes_for}
use Rattle.bank_transactions.proofs.batch_changes.TellerSlotChange.make.Goals as goal

pub returns-clause-writes : goal.returns-clause-writes
returns-clause-writes g c = writes_for (writes_adds (λ clean. one_changed _ _ c.args.self.now) c.write_change.ensures.writes)
    (λ t may. (may.1.0, teller_made c.args.self.now t))
