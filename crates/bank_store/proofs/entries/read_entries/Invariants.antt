-- The entries of the pieces so far were put, and the file is as it was.
use Rattle.std.proofs.Common.{◌≡◌, ◌≤◌, ◌+◌, ◌-◌, ◌*◌, List, pos, false}
use Rattle.std.specs.Prelude.{vec_capacity, vec_len}
use Rattle.sqlite.specs.{Held.state, State.HasCleanDisk, State.Survives}
use Rattle.posting_core.specs.declared.entries.TheConstants.{ENTRY_BYTES}
use Rattle.posting_core.specs.declared.followed.TheConstants.{ENTRIES_PER_ANSWER}
use Rattle.walked_rows.specs.{KeptRows.HoldsKept, KeptRows.KeptItem, KeptRows.kept_key, Rows.items_from}
use Rattle.bank_store.specs.Walks.{IsStill}
use Rattle.bank_store.proofs.PiecesRead.{SoFar}
use Rattle.bank_store.proofs.entries.read_entries.Given as goal

abbrev pub invariant-pieces : goal.invariant-pieces
invariant-pieces g l =
    let old = state g.S.Store l.fn.conn in
    let now = state g.S.Store l.conn in
    record {
      some : 1 ≤ l.left;
      count : l.left + l.counter ≤ ENTRIES_PER_ANSWER;
      room : vec_len l.entries + l.left * ENTRY_BYTES ≤ vec_capacity l.entries;
      mode : l.conn.in_transaction ≡ false;
      still : HasCleanDisk now → IsStill old now;
      survives : Survives old now (λ _. ⊥);
      answers : HasCleanDisk now → (all : List KeptItem) → HoldsKept old.now all
          → SoFar (items_from kept_key (pos (l.fn.after + 1)) all) (items_from kept_key l.from all)
          (ENTRIES_PER_ANSWER - l.left) l.fn.entries.items l.entries.items;
    }
