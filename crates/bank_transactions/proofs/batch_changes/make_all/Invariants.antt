-- The changes so far are made.
use Rattle.std.proofs.Common.{Ok, take}
use Rattle.bank_transactions.specs.{Memory.IsFollowed, Running.Writes}
use Rattle.bank_transactions.proofs.batch_changes.make_all.Given as goal

abbrev pub invariant-loop-change : goal.invariant-loop-change
invariant-loop-change g l = record {
  writes : Writes g.S.Store (g.C.Change.Adds l.changes) l.fn.tx l.tx (g.C.Change.May l.changes)
      (g.C.Change.made (take l.change-index l.changes)) (Ok (tt {0}));
  follows : IsFollowed g.S.Store l.fn.tx l.tx l.fn.memory l.memory;
}
