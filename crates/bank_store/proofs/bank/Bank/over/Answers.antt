-- A bank that remembers nothing yet, over a file with its tables.
use Rattle.bank_transactions.proofs.Remembered.{blank}
use Rattle.bank_store.proofs.bank.Bank.over.Goals as goal

pub invariant_of-result-clause-remembers : goal.invariant_of-result-clause-remembers
invariant_of-result-clause-remembers g c = blank g.S.Store c.args.conn c.with_room.result c.with_room.ensures

pub invariant_of-result-clause-tables : goal.invariant_of-result-clause-tables
invariant_of-result-clause-tables g c = ∣ c.requires.tables ∣₁
