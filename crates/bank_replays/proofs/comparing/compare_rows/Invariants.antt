-- What was given of both was the same, and neither bank is changed.
use Rattle.std.proofs.Common.{◌≡◌, ◌++◌, List, Ok}
use Rattle.sqlite.specs.{State.HasCleanDisk, Held.state}
use Rattle.posting_rules.specs.declared.fault.Fault.{Fault}
use Rattle.bank_store.specs.Walking.{HasToldFault, items_to_come}
use Rattle.bank_replays.specs.Reading.{ReadsBank}
use Rattle.bank_replays.proofs.FirstDifference.{SameSoFar}
use Rattle.bank_replays.proofs.comparing.compare_rows.Given as goal

abbrev pub invariant-rows : goal.invariant-rows
invariant-rows g l = record {
  reference : l.stood.bank.ghost_name ≡ l.fn.stood.bank.ghost_name;
  reference_due : l.due.bank.ghost_name ≡ l.fn.due.bank.ghost_name;
  bank : ReadsBank {X = Unit {0}} {E = Fault} g.S.Store l.fn.stood.bank.now l.stood.bank.now (Ok tt);
  due : ReadsBank {X = Unit {0}} {E = Fault} g.T.Store l.fn.due.bank.now l.due.bank.now (Ok tt);
  fresh : HasToldFault l.stood → ⊥;
  along : HasCleanDisk (state g.S.Store l.stood.bank.now.conn) → (all : List g.R.WalkedRow.Item)
      → g.R.WalkedRow.HasItems (state g.S.Store l.fn.stood.bank.now.conn).now all → (given : List g.R.WalkedRow.Item)
      × (given ++ items_to_come g.R.WalkedRow.key g.R.WalkedRow.item g.R.WalkedRow.is_given all l.stood
      ≡ items_to_come g.R.WalkedRow.key g.R.WalkedRow.item g.R.WalkedRow.is_given all l.fn.stood);
  same : HasCleanDisk (state g.S.Store l.stood.bank.now.conn) → HasCleanDisk (state g.T.Store l.due.bank.now.conn)
      → (all others : List g.R.WalkedRow.Item)
      → g.R.WalkedRow.HasItems (state g.S.Store l.fn.stood.bank.now.conn).now all
      → g.R.WalkedRow.HasItems (state g.T.Store l.fn.due.bank.now.conn).now others
      → SameSoFar
      (items_to_come g.R.WalkedRow.key g.R.WalkedRow.item g.R.WalkedRow.is_given all l.fn.stood)
      (items_to_come g.R.WalkedRow.key g.R.WalkedRow.item g.R.WalkedRow.is_given others l.fn.due)
      (items_to_come g.R.WalkedRow.key g.R.WalkedRow.item g.R.WalkedRow.is_given all l.stood)
      (items_to_come g.R.WalkedRow.key g.R.WalkedRow.item g.R.WalkedRow.is_given others l.due);
}
