-- What is left is blank.
use Rattle.std.proofs.Common.{sym, subst}
use Rattle.bank_transactions.specs.Memory.{IsBlank}
use Rattle.bank_transactions.specs.declared.memory.Memory.{Memory}
use Rattle.bank_transactions.proofs.memory.Memory.take.Goals as goal

pub returns-clause-blank : goal.returns-clause-blank
returns-clause-blank c = subst (λ (m : Memory). IsBlank m) (sym c.replace.ensures.after) c.new.ensures
