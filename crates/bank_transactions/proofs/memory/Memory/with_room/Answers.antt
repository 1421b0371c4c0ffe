-- Nothing is remembered.
use Rattle.std.proofs.Common.{refl}
use Rattle.bank_transactions.proofs.Fitting.{fits_nothing}
use Rattle.bank_transactions.proofs.memory.Memory.with_room.Goals as goal

pub returns : goal.returns
returns c = fits_nothing _ refl refl c.table.ensures c.table-2.ensures c.table-3.ensures c.table-4.ensures
