-- The floor that is noted lies there.
use Rattle.std.proofs.Common.{refl}
use Rattle.store_rows.specs.Lying.{FloorLies}
use Rattle.bank_transactions.proofs.{Fitting.floors_noted, KnownRows.known_put, KnownRows.low_noted}
use Rattle.bank_transactions.proofs.memory.Memory.note_floor.Goals as goal

pub invariant_of-self-clause-low : goal.invariant_of-self-clause-low
invariant_of-self-clause-low c = low_noted c.args.self.now.floors c.put.new.self c.args.branch c.args.row.now
    (rw c.get.ensures.value at c.put.ensures.true_after) c.requires c.args.self.now.low

pub returns-clause-fits : goal.returns-clause-fits
returns-clause-fits c was now left lies fits =
    floors_noted c.args.self.now _ was now fits c.args.branch refl refl refl refl refl left (λ still.
    known_put (λ k row. FloorLies k was row) (λ k row. FloorLies k now row) c.args.branch still c.args.self.now.floors
    c.put.new.self c.args.row.now (rw c.get.ensures.value at c.put.ensures.true_after) lies fits.floors)
