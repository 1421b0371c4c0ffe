-- What is shown over a connection that is given back, in a bank or alone, and what a crash leaves of it.
use Rattle.std.proofs.Common.{List, sym, subst, inl, inr}
use Rattle.sqlite.specs.{Held.Held, Held.state, State.State, State.HasCleanDisk, State.Survives, Tree.Trees}
use Rattle.sqlite_trees.specs.declared.store.Store.{Ghosts}
use Rattle.posting_rules.specs.believed.{Commands.Command, Counter.LeavesOnly, Counter.ShowsLog, Tables.Tables}
use Rattle.store_rows.specs.believed.View.{Shows}
use Rattle.bank_store.specs.Connections.{IsAsBefore, conn_seen}
use Rattle.bank_store.specs.{FoundBank.BankIsFound, FoundBank.IsTakenUp, declared.bank.Bank.Bank}
use Rattle.bank_store.specs.believed.Seen.{bank_seen, file_of, seen_in}

module _ (old new : State) (D E : Type 0) where
  still_shown : (log : List Command) → IsAsBefore old new → ShowsLog (seen_in old D) log
      → ShowsLog (seen_in new E) log
  still_shown log same s = record {
    commands = s.commands;
    tables = s.tables;
    are = subst (λ db. Shows db s.tables) (sym same.now_is) s.are;
    shows = s.shows;
  }

  -- where a crash can leave no more
  pub still_left : (More : Trees → Type 0) (P : Tables → Type 0) → Survives old new More
      → ((left : Trees) → More left → ⊥) → HasCleanDisk new → LeavesOnly (seen_in old D) P
      → LeavesOnly (seen_in new E) P
  still_left More P survives no_more clean left trees may = elim (survives.crash clean trees may) [
    | inl before ↦ left trees before
    | inr more ↦ absurd (no_more trees more)
  ]

-- a bank that is found is taken up
pub taken_up : {S : Type 0} (g : Ghosts S) (conn : Held S) (bank : Bank S g) (More : Trees → Type 0)
    → (HasCleanDisk (file_of bank) → BankIsFound (state g conn) (file_of bank))
    → Survives (state g conn) (file_of bank) More
    → ((log : List Command) → ShowsLog (conn_seen g conn) log → (left : Trees) → More left → ⊥)
    → ((bank_seen g bank).is_down → ⊥) → IsTakenUp g conn bank
taken_up g conn bank More found survives no_more up = record {
  found = found;
  shows = λ clean log.
      still_shown (state g conn) (file_of bank) ⊥ (bank_seen g bank).is_down log (found clean).there.same;
  stands = λ clean log at. record {
    shows =
        still_shown (state g conn) (file_of bank) ⊥ (bank_seen g bank).is_down log (found clean).there.same at.shows;
    up = up;
    survives = still_left (state g conn) (file_of bank) ⊥ (bank_seen g bank).is_down More _ survives
        (no_more log at.shows) clean at.survives;
  };
  up = up;
}
