-- The target has what the walk gave, and the bank isn't changed.
use Rattle.std.proofs.Common.{◌≡◌, Ok}
use Rattle.sqlite.specs.{State.HasCleanDisk, Held.state}
use Rattle.bank_store.specs.Walking.{HasToldFault, items_to_come}
use Rattle.bank_replays.specs.{Reading.ReadsBank, declared.fault.ReplayFault.ReplayFault}
use Rattle.bank_replays.proofs.Visits.{IsVisited}
use Rattle.bank_replays.proofs.visitors.visit_rows.Given as goal

abbrev pub invariant-rows : goal.invariant-rows
invariant-rows g l = record {
  reference : l.walk.bank.ghost_name ≡ l.fn.walk.bank.ghost_name;
  bank : ReadsBank {X = Unit {0}} {E = ReplayFault} g.S.Store l.fn.walk.bank.now l.walk.bank.now (Ok tt);
  fresh : HasToldFault l.walk → ⊥;
  so_far : IsVisited g.R.WalkedRow.item (g.P.Visitor.Visited l.visitor l.fn.target l.target)
      (HasCleanDisk (state g.S.Store l.walk.bank.now.conn))
      (g.R.WalkedRow.HasItems (state g.S.Store l.fn.walk.bank.now.conn).now)
      (λ all. items_to_come g.R.WalkedRow.key g.R.WalkedRow.item g.R.WalkedRow.is_given all l.fn.walk)
      (λ all. items_to_come g.R.WalkedRow.key g.R.WalkedRow.item g.R.WalkedRow.is_given all l.walk) l.i;
}
