-- What is known of a floor.
use Rattle.bank_transactions.proofs.KnownRows.{low_known}
use Rattle.bank_transactions.proofs.memory.Memory.floor_row.Goals as goal

pub returns-clause-within : goal.returns-clause-within
returns-clause-within c =
    low_known c.args.self.now.floors c.args.self.now.low c.args.branch _ (rw c.get.ensures.value at c.get-2.ensures)
