-- A connection that a call left as it was, but for what its store failed in.
use Rattle.std.proofs.Common.{◌≡◌, [], List, sym, subst, arith, inl, inr}
use Rattle.sqlite.specs.{Effect.Database, State.State, State.HasCleanDisk, State.Survives, Held.Held}
use Rattle.posting_rules.specs.{believed.Commands.Command, believed.Tables.AreTablesOf}
use Rattle.posting_rules.specs.believed.Counter.{LeavesNoMore, LeavesOnly, StandsAt}
use Rattle.posting_rules.proofs.Remaining.{leaves_still}
use Rattle.store_rows.specs.believed.View.{Shows}
use Rattle.sqlite_trees.specs.declared.store.Store.{Ghosts}
use Rattle.bank_store.specs.{Connections.conn_seen, declared.bank.Bank.Bank, Walks.IsStill}
use Rattle.bank_store.specs.believed.Seen.{bank_seen, connection_of, seen_in}
use Rattle.bank_lives.specs.believed.Lives.{EndsLife, IsCall}
use Rattle.bank_lives.proofs.Calls.{stood_is_call, told_is_call}

module _ (old new : State) (quiet : Survives old new (λ _. ⊥)) where
  pub was_clean : HasCleanDisk new → HasCleanDisk old
  was_clean clean = omega (arith, quiet.clean)

  pub left_no_more : (D E : Type 0) → HasCleanDisk new → LeavesNoMore (seen_in old D) (seen_in new E)
  left_no_more D E clean trees may = elim (quiet.crash clean trees may) [
    | inl before ↦ (trees, before, λ t found. found)
    | inr none ↦ absurd none
  ]

  left_shown : (D E : Type 0) (log : List Command) → HasCleanDisk new → StandsAt (seen_in old D) log
      → LeavesOnly (seen_in new E) (λ t. AreTablesOf t log)
  left_shown D E log clean stood = leaves_still (seen_in old D) (seen_in new E) (λ t. AreTablesOf t log)
      (left_no_more D E clean) stood.survives

  -- whatever it met, a crash leaves what it could leave before
  pub ends_quietly : (D E : Type 0) → EndsLife (seen_in old D) (seen_in new E)
  ends_quietly D E = record {
    honest = was_clean;
    survives = λ clean log stood. left_shown D E log clean stood;
    down = λ clean was. left_no_more D E clean;
  }

  -- a call that is given nothing, and after which a log is shown yet
  pub call_of_nothing : (D E : Type 0) → (D → ⊥)
      → (HasCleanDisk new → (log : List Command) → StandsAt (seen_in old D) log → StandsAt (seen_in new E) log)
      → IsCall (seen_in old D) (seen_in new E) [] 0
  call_of_nothing D E up stands =
      told_is_call (seen_in old D) (seen_in new E) up was_clean
      (λ clean log stood. left_shown D E log clean stood) (λ clean log stood. inl (stands clean log stood))

  -- a step that left all as it was
  pub still_stands : (D E : Type 0) → (E → ⊥) → (HasCleanDisk new → IsStill old new) → HasCleanDisk new
      → (log : List Command) → StandsAt (seen_in old D) log → StandsAt (seen_in new E) log
  still_stands D E up still clean log stood = record {
    shows = record {
      commands = stood.shows.commands;
      tables = stood.shows.tables;
      are = subst (λ (db : Database). Shows db stood.shows.tables) (sym ((still clean).0)) stood.shows.are;
      shows = stood.shows.shows;
    };
    up = up;
    survives = left_shown D E log clean stood;
  }

-- a connection that a bank which was up gave back
pub released_call : {S : Type 0} (g : Ghosts S) (bank : Bank S g) (conn : Held S)
    → conn ≡ connection_of bank → ((bank_seen g bank).is_down → ⊥)
    → IsCall (bank_seen g bank) (conn_seen g conn) [] 0
released_call g bank conn same up =
    subst (λ (it : Held _). IsCall (bank_seen g bank) (conn_seen g it) [] 0) (sym same)
    (stood_is_call (bank_seen g bank) (conn_seen g (connection_of bank)) [] up (λ h. h)
    (λ h log stood. record {
      shows = record {
        commands = stood.shows.commands;
        tables = stood.shows.tables;
        are = stood.shows.are;
        shows = stood.shows.shows;
      };
      up = λ none. none;
      survives = stood.survives;
    }))
