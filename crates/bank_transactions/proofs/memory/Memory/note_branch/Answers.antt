-- The row that is noted lies there.
use Rattle.std.proofs.Common.{refl}
use Rattle.store_rows.specs.Lying.{BranchLies}
use Rattle.bank_transactions.proofs.{Fitting.branches_noted, KnownRows.known_put}
use Rattle.bank_transactions.proofs.memory.Memory.note_branch.Goals as goal

pub returns-clause-fits : goal.returns-clause-fits
returns-clause-fits c was now left lies fits =
    branches_noted c.args.self.now _ was now fits c.args.branch refl refl refl refl refl left (λ still.
    known_put (λ k row. BranchLies k was row) (λ k row. BranchLies k now row) c.args.branch still c.args.self.now.branches
    c.put.new.self c.args.row.now (rw c.get.ensures.value at c.put.ensures.true_after) lies fits.branches)
