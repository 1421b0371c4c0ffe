-- Nothing is remembered.
use Rattle.std.proofs.Common.{refl}
use Rattle.bank_transactions.proofs.Fitting.{fits_nothing}
use Rattle.bank_transactions.proofs.memory.Memory.forget.Goals as goal

pub returns-clause-blank : goal.returns-clause-blank
returns-clause-blank c = fits_nothing _ refl refl c.forget.ensures.nothing c.forget-2.ensures.nothing c.forget-3.ensures.nothing c.forget-4.ensures.nothing
