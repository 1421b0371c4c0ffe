-- So many tables were made.
use Rattle.std.proofs.Common.{◌-◌, ◌≤◌, drop}
use Rattle.store_rows.specs.Creation.{all_texts}
use Rattle.store_rows.proofs.MadeSoFar.{Going}
use Rattle.store_rows.proofs.creation.make_tables.Given as goal

abbrev pub invariant-loop-at : goal.invariant-loop-at
invariant-loop-at g l = record {
  past : l.fn.first ≤ l.at;
  going : Going (drop l.fn.first all_texts) g.S.Store l.initial.tx l.tx (l.at - l.fn.first);
}
