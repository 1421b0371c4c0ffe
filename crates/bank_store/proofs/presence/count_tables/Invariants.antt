-- How many there are of those so far, and everything is as it was.
use Rattle.std.proofs.Common.{◌∷◌, map, take, Ok}
use Rattle.sqlite.specs.{State.HasCleanDisk, Held.state}
use Rattle.bank_store.specs.{Connections.IsAsBefore, StoreFaults.LooksIn, TablePresence.IsPresent}
use Rattle.store_rows.specs.Probes.{probe_of}
use Rattle.bank_store.proofs.presence.count_tables.Given as goal

abbrev pub invariant-loop-table : goal.invariant-loop-table
invariant-loop-table g l =
    let old = state g.S.Store l.fn.conn in
    let new = state g.S.Store l.conn in
    record {
      answers : HasCleanDisk new
          → IsPresent old.now (map probe_of (l.fn.first ∷ take l.table-index l.fn.others)) l.there
          × IsAsBefore old new;
      looks : LooksIn g.S.Store l.fn.conn l.conn (Ok l.there);
    }
