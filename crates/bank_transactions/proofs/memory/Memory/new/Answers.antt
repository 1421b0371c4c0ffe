-- Nothing is remembered.
use Rattle.std.proofs.Common.{refl}
use Rattle.bank_transactions.proofs.Fitting.{fits_nothing}
use Rattle.bank_transactions.proofs.memory.Memory.new.Goals as goal

pub returns : goal.returns
returns c = fits_nothing _ refl refl c.none.ensures.nothing c.none-2.ensures.nothing c.none-3.ensures.nothing c.none-4.ensures.nothing
