-- The rows before those that are left are put in.
use Rattle.std.proofs.Common.{length}
use Rattle.bank_transactions.specs.{Memory.IsFollowed, declared.memory.Memory.Memory}
use Rattle.bank_transactions.proofs.Loops.{Stands}
use Rattle.bank_transactions.proofs.batch_changes.make_rows.Given as goal

abbrev pub invariant-loop-eight : goal.invariant-loop-eight
invariant-loop-eight g l = record {
  puts : Stands g.S.Store (g.R.Change.Adds l.fn.rows) l.fn.tx l.tx g.R.Change.made g.R.Change.May l.fn.rows l.left;
  follows : (memory : Memory) → IsFollowed g.S.Store l.fn.tx l.tx memory memory;
}

abbrev pub decreases-loop-eight : goal.decreases-loop-eight
decreases-loop-eight g l = length l.left
