-- The requests so far are put in.
use Rattle.std.proofs.Common.{Ok, take}
use Rattle.std.specs.Prelude.{IsTrue}
use Rattle.sqlite.specs.{Held.state, State.HasCleanDisk}
use Rattle.sqlite_rules.specs.Lists.{Has}
use Rattle.posting_batch.specs.Overlay.{requests_put}
use Rattle.store_rows.specs.SeveralRows.{PutsNew}
use Rattle.bank_transactions.specs.{believed.Additions.AddsRequests, Running.Writes, Writing.MayAddRequests}
use Rattle.bank_transactions.specs.{Memory.IsFollowed, declared.memory.Memory.Memory}
use Rattle.bank_transactions.proofs.batch_changes.put_singly.Given as goal

abbrev pub invariant-loop-row : goal.invariant-loop-row
invariant-loop-row g l = record {
  puts : Writes g.S.Store (AddsRequests (Has l.rows)) l.fn.tx l.tx (MayAddRequests l.rows)
      (requests_put (take l.row-index l.rows)) (Ok (tt {0}));
  unknown : HasCleanDisk (state g.S.Store l.tx.conn.now)
      → IsTrue (state g.S.Store l.fn.tx.conn.now).in_transaction
      → PutsNew (state g.S.Store l.fn.tx.conn.now).now (state g.S.Store l.tx.conn.now).now (take l.row-index l.rows);
  follows : (memory : Memory) → IsFollowed g.S.Store l.fn.tx l.tx memory memory;
}
