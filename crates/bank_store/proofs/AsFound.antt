-- A bank whose database is left as it was found, stands where it stood, and spares the tables of other products.
use Rattle.std.proofs.Common.{Result, Ok, Err, arith, inl, inr, refl, sym, subst, ◌∙◌, ◌≡◌}
use Rattle.std.specs.Prelude.{IsTrue}
use Rattle.sqlite.specs.{Effect.Database, Held.Held, Held.state, State.HasCleanDisk, State.Survives, Tree.Trees}
use Rattle.sqlite.proofs.StateLemmas.{survives_then, survives_weaker}
use Rattle.sqlite_trees.specs.declared.store.Store.{Ghosts}
use Rattle.posting_rules.specs.declared.fault.Fault.{Fault}
use Rattle.sql_meanings.proofs.Sparing.{spares_itself}
use Rattle.walked_rows.proofs.Causes.{nothing_called}
use Rattle.store_rows.specs.believed.Sparing.{SparesOthers, bank_names}
use Rattle.bank_transactions.specs.Undone.{IsUndone}
use Rattle.bank_store.specs.Leaving.{CommitsAsFound, LeavesAsFound, OnlyReads}
use Rattle.bank_store.specs.{OpenBankSparing.SparesWhileOpen, Walks.IsUntouchedIfOpen, declared.bank.Bank.Bank}
use Rattle.posting_rules.specs.Counter.{StaysByTables}
use Rattle.store_rows.specs.believed.View.{Shows, ShowsTrees}
use Rattle.bank_store.specs.believed.Seen.{bank_seen, connection_of, database_of, file_of}

module _ {S : Type 0} (g : Ghosts S) where
  -- nothing was done
  pub idle_as_found : (bank : Bank S g) → LeavesAsFound g bank bank
  idle_as_found bank = record { now = λ clean is_open. refl; left = nothing_called (file_of bank) }

  module _ (old new : Bank S g) where
    -- it was only read
    pub untouched_as_found : (HasCleanDisk (file_of new) → IsUntouchedIfOpen (file_of old) (file_of new))
        → Survives (file_of old) (file_of new) (λ _. ⊥) → LeavesAsFound g old new
    untouched_as_found undone quiet =
        record { now = λ clean is_open. (undone clean is_open).now_is; left = quiet }

    -- nothing was committed
    pub as_found_commits : LeavesAsFound g old new → CommitsAsFound g old new
    as_found_commits leaves = record {
      now = leaves.now;
      left = survives_weaker (file_of old) (file_of new) (λ _. ⊥) _ (λ clean db none. absurd none) leaves.left;
    }

  -- nothing was done, or the bank went down: no more is left
  pub idle_keeps : (bank : Bank S g) (P : Trees → Type 0) → Survives (file_of bank) (file_of bank) P
  idle_keeps bank P = survives_weaker (file_of bank) (file_of bank) (λ _. ⊥) P (λ clean db none. absurd none)
      (nothing_called (file_of bank))

  pub down_keeps : (old new : Bank S g) (mid : Held S) (P : Trees → Type 0) → Survives (file_of old) (state g mid) P
      → Survives (state g mid) (file_of new) (λ _. ⊥) → Survives (file_of old) (file_of new) P
  down_keeps old new mid P left quiet = survives_then (file_of old) (state g mid) (file_of new) P (λ _. ⊥) P
      (λ clean db h. h) (λ clean db none. absurd none) left quiet

  pub idle_commits : (bank : Bank S g) → CommitsAsFound g bank bank
  idle_commits bank = as_found_commits bank bank (idle_as_found bank)

  -- a call that only reads tried nothing
  pub idle_reads : {X : Type 0} (bank : Bank S g) (r : Result X Fault) → OnlyReads g bank bank r
  idle_reads bank (Ok x) = record {
    still = λ clean. refl;
    by_tables = record { shows = λ clean t shown. shown; survives = λ clean t shown only. only };
    leaves = idle_commits bank;
  }
  idle_reads bank (Err fault) = record { still = tt; by_tables = tt; leaves = idle_commits bank }

  module _ (old new : Bank S g) where
    -- the database that was found may be committed, and then rows were read, or the bank went down
    pub commits_then : (mid : Held S)
        → (HasCleanDisk (state g mid) → IsTrue (state g mid).is_open → (state g mid).now ≡ database_of g old)
        → Survives (file_of old) (state g mid) (λ trees. trees ≡ (database_of g old).trees)
        → (HasCleanDisk (file_of new) → IsUntouchedIfOpen (state g mid) (file_of new))
        → Survives (state g mid) (file_of new) (λ _. ⊥) → CommitsAsFound g old new
    commits_then mid now left undone quiet = record {
      now = λ clean is_open.
          let same = undone clean is_open in
          same.now_is ∙ now (omega (arith, quiet.clean, clean)) same.was_open;
      left = down_keeps old new mid _ left quiet;
    }

    -- where it is the same, and a crash leaves what it could leave, or that one, all tables stay
    stays_by : (HasCleanDisk (file_of new) → database_of g new ≡ database_of g old)
        → Survives (file_of old) (file_of new) (λ trees. trees ≡ (database_of g old).trees)
        → StaysByTables (bank_seen g old) (bank_seen g new)
    stays_by still left = record {
      shows = λ clean t shown. subst (λ (db : Database). Shows db t) (sym (still clean)) shown;
      survives = λ clean t shown only trees may. elim (left.crash clean trees may) [
        | inl before ↦ only trees before
        | inr is ↦ (
          t,
          subst (λ (found : Trees). ShowsTrees found t) (sym is) ((database_of g old).schema, shown),
          refl,
        )
      ];
    }

    -- a call that only reads was answered
    pub reads_done : {X : Type 0} (x : X) → (HasCleanDisk (file_of new) → database_of g new ≡ database_of g old)
        → Survives (file_of old) (file_of new) (λ trees. trees ≡ (database_of g old).trees)
        → OnlyReads g old new (Ok x)
    reads_done x still left =
        record {
          still = still;
          by_tables = stays_by still left;
          leaves = record { now = λ clean is_open. still clean; left = left };
        }

    -- it was refused, and the bank went down
    pub reads_down : {X : Type 0} (mid : Held S) (fault : Fault)
        → (HasCleanDisk (state g mid) → IsUndone (file_of old) (state g mid))
        → Survives (file_of old) (state g mid) (λ trees. trees ≡ (database_of g old).trees)
        → (HasCleanDisk (file_of new) → IsUntouchedIfOpen (state g mid) (file_of new))
        → Survives (state g mid) (file_of new) (λ _. ⊥) → OnlyReads {X = X} g old new (Err fault)
    reads_down mid fault undone left back quiet = record {
      still = tt;
      by_tables = tt;
      leaves = commits_then mid (λ clean is_open. (undone clean is_open).1) left back quiet;
    }

    module _ (leaves : CommitsAsFound g old new) where
      pub commits_spares : SparesWhileOpen g (connection_of old) (connection_of new)
      commits_spares = record {
        now = λ clean is_open.
            subst (λ (db : Database). SparesOthers (database_of g old) db) (sym (leaves.now clean is_open))
            (spares_itself bank_names (database_of g old));
        left = survives_weaker (file_of old) (file_of new) _ _
            (λ clean db found. (database_of g old, found, spares_itself bank_names (database_of g old)))
            leaves.left;
      }

    pub as_found_spares : LeavesAsFound g old new → SparesWhileOpen g (connection_of old) (connection_of new)
    as_found_spares leaves = commits_spares (as_found_commits old new leaves)
