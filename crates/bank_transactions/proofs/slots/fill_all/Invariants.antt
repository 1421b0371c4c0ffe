-- The slots so far are filled.
use Rattle.std.proofs.Common.{◌≡◌, Ok}
use Rattle.std.specs.{List.AllByRecursion, Prelude.⊤}
use Rattle.sqlite.specs.{Held.state, State.HasCleanDisk}
use Rattle.posting_rules.specs.believed.Damage.{IsUndamaged}
use Rattle.store_rows.specs.believed.Rules.{OfRows}
use Rattle.bank_transactions.specs.{Doing.ReadsWhere, Memory.Remembers}
use Rattle.bank_transactions.proofs.{Loops.filled_so_far, Partly.Partly}
use Rattle.bank_transactions.proofs.slots.fill_all.Given as goal

abbrev pub invariant-loop-slot : goal.invariant-loop-slot
invariant-loop-slot g l = record {
  says : ReadsWhere g.S.Store l.fn.tx l.tx
      (λ t. IsUndamaged t × AllByRecursion (g.T.Slot.Knows l.branches t) l.fn.slots)
      (filled_so_far g.T.Slot.filled_from l.fn.slots l.slot-index) (Ok l.slots);
  same : Partly (λ x y. g.T.Slot.bare y ≡ g.T.Slot.bare x) l.fn.slots l.slots l.slot-index;
  stored : HasCleanDisk (state g.S.Store l.tx.conn.now)
      → OfRows (λ rows. Partly (λ x y. g.T.Slot.KnowsRow l.branches l.floors rows x → g.T.Slot.Held rows y) l.fn.slots
      l.slots l.slot-index) (state g.S.Store l.fn.tx.conn.now).now;
  own : HasCleanDisk (state g.S.Store l.tx.conn.now)
      → Partly (λ x y. ⊤ → g.T.Slot.Own y) l.fn.slots l.slots l.slot-index;
  remembers : ∥ Remembers g.S.Store l.tx.conn.now l.memory ∥₁;
}
