-- The requests before those that are left are put in.
use Rattle.std.proofs.Common.{length}
use Rattle.std.specs.Prelude.{IsTrue}
use Rattle.sqlite.specs.{Held.state, State.HasCleanDisk}
use Rattle.sqlite_rules.specs.Lists.{Has}
use Rattle.posting_batch.specs.Overlay.{requests_put}
use Rattle.store_rows.specs.SeveralRows.{PutsNew}
use Rattle.bank_transactions.specs.{believed.Additions.AddsRequests, Writing.MayAddRequests}
use Rattle.bank_transactions.proofs.Loops.{Stands}
use Rattle.bank_transactions.specs.{Memory.IsFollowed, declared.memory.Memory.Memory}
use Rattle.bank_transactions.proofs.batch_changes.put_requests.Given as goal

abbrev pub invariant-loop-eight : goal.invariant-loop-eight
invariant-loop-eight g l = record {
  puts : Stands g.S.Store (AddsRequests (Has l.fn.rows)) l.fn.tx l.tx requests_put MayAddRequests l.fn.rows l.left;
  unknown : HasCleanDisk (state g.S.Store l.tx.conn.now)
      → IsTrue (state g.S.Store l.fn.tx.conn.now).in_transaction
      → PutsNew (state g.S.Store l.fn.tx.conn.now).now (state g.S.Store l.tx.conn.now).now puts.front;
  follows : (memory : Memory) → IsFollowed g.S.Store l.fn.tx l.tx memory memory;
}

abbrev pub decreases-loop-eight : goal.decreases-loop-eight
decreases-loop-eight g l = length l.left
