-- The rows so far are told, in the order of their keys.
use Rattle.std.proofs.Common.{◌≡◌, ◌≤◌, Ok}
use Rattle.std.specs.Prelude.{⊤}
use Rattle.sqlite.specs.{Held.state, State.HasCleanDisk}
use Rattle.posting_rules.specs.declared.limits.TheConstants.{LAST_KEY}
use Rattle.store_rows.specs.Lying.{IsBankFile, OfClosings}
use Rattle.bank_transactions.specs.{Doing.ReadsWhere, Gathering.Gathers, Gathering.ReadsUpTo}
use Rattle.bank_transactions.proofs.gathering.gather_closings.Given as goal

abbrev pub invariant-loop-step : goal.invariant-loop-step
invariant-loop-step g l = record {
  says : ReadsWhere {X = Unit {0}} g.S.Store l.fn.tx l.tx (λ _. ⊤) (λ _. tt {0}) (Ok (tt {0}));
  low : l.after ≤ LAST_KEY;
  core : g.G.Gather.core l.gathered ≡ g.G.Gather.core l.fn.gathered;
  told : Gathers g.S.Store l.fn.tx l.tx (ReadsUpTo l.after) (λ runs. g.G.Gather.Told runs l.gathered);
  far : HasCleanDisk (state g.S.Store l.tx.conn.now) → IsBankFile (state g.S.Store l.fn.tx.conn.now).now
      → OfClosings (λ _. l._step ≤ l.after) (state g.S.Store l.fn.tx.conn.now).now;
}
