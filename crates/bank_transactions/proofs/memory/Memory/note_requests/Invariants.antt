-- What is remembered of rows stays.
use Rattle.sqlite.specs.Effect.{Database}
use Rattle.bank_transactions.specs.Memory.{Fits}
use Rattle.bank_transactions.proofs.memory.Memory.note_requests.Given as goal

abbrev pub invariant-loop-slot : goal.invariant-loop-slot
invariant-loop-slot l = (db : Database) → Fits db l.fn.self → Fits db l.self
