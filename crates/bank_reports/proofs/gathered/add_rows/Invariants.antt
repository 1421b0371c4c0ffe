-- The rows that the walk gave were added.
use Rattle.std.proofs.Common.{◌≡◌, Ok}
use Rattle.sqlite.specs.{State.HasCleanDisk, Held.state}
use Rattle.walked_rows.specs.Broken.{HasBroken}
use Rattle.bank_store.specs.Walking.{ComesFrom, HasToldFault, items_to_come}
use Rattle.bank_reports.specs.Leaving.{ReadsRows}
use Rattle.bank_reports.proofs.AddedRows.{IsAlong, IsGathered}
use Rattle.bank_reports.proofs.gathered.add_rows.Given as goal

abbrev pub invariant-rows : goal.invariant-rows
invariant-rows g l =
    let old = state g.S.Store l.fn.walk.bank.now.conn in
    let now = state g.S.Store l.walk.bank.now.conn in
    record {
      reference : l.walk.bank.ghost_name ≡ l.fn.walk.bank.ghost_name;
      fresh : HasToldFault l.walk → ⊥;
      reads : ReadsRows g.S.Store g.R.WalkedRow.HasItems (λ all rule. HasBroken (g.R.WalkedRow.Breaks rule)
          (items_to_come g.R.WalkedRow.key g.R.WalkedRow.item g.R.WalkedRow.is_given all l.fn.walk)) ⊥
          l.fn.walk.bank.now l.walk.bank.now (Ok tt);
      gathered : IsGathered g.R.WalkedRow.item g.R.WalkedRow.HasItems g.R.Summed.with_rows old.now
          (HasCleanDisk now) l.fn.sums l.sums
          (λ all. items_to_come g.R.WalkedRow.key g.R.WalkedRow.item g.R.WalkedRow.is_given all l.fn.walk)
          (λ all. items_to_come g.R.WalkedRow.key g.R.WalkedRow.item g.R.WalkedRow.is_given all l.walk)
          l.counter;
      along : IsAlong (λ k. ComesFrom (λ r. g.R.WalkedRow.key (g.R.WalkedRow.item r)) k l.walk) l.counter;
    }
