-- A bank that is carried over stands at the plain log, and what is known of the answer and of what a refusal leaves.
use Rattle.std.proofs.Common.{ℕ, pos, List, Ok, Err, refl, ap, subst, sym, ◌∙◌, inl, inr}
use Rattle.sqlite.specs.{Effect.Database, Held.Held, Held.state, State.State, State.HasCleanDisk, State.Survives}
use Rattle.sqlite_trees.specs.declared.store.Store.{Ghosts}
use Rattle.posting_rules.specs.{believed.Commands.Command, believed.Counter.StandsAt, Editions.plain}
use Rattle.posting_rules.proofs.Editions.{plain_are_commands}
use Rattle.store_rows.specs.believed.BankTables.{HasBankTables}
use Rattle.bank_store.specs.Migration.{BankIsMoved, HasCarriedOver, HasMoved, IsFromEarlier, IsMigrated, KnowsAnswer}
use Rattle.bank_store.specs.Migration.{LeavesBank, Migrates, Misplaces, ShowsEarlier}
use Rattle.bank_store.specs.believed.Seen.{bank_seen, file_of, seen_in}
use Rattle.bank_store.specs.declared.{bank.Bank.Bank, migration.Migrated.Migrated, refused.Refused.Refused}
use Rattle.bank_store.specs.declared.migration.Migrated.TheVariants.{Moved, Already}
use Rattle.bank_store.proofs.FoundEarlier.{not_earlier, not_found, not_misplaced, ours_misplaced, plainly}
use Rattle.bank_store.proofs.FoundEarlier.{same_version, shows_less}
use Rattle.bank_store.proofs.TakenUp.{still_left, taken_up}

-- where a log of that version was shown, a moved bank stands at the plain one
stands_plain : (from : ℕ) (old new : State) (D : Type 0) (log : List Command) → (D → ⊥)
    → ShowsEarlier from old.now log → BankIsMoved from old.now new → StandsAt (seen_in new D) (plain from log)
stands_plain from old new D log up it moved =
    let now = moved.0 it.tables (shows_less from old.now log it) in
    record {
      shows = record {
        commands = plain_are_commands from log it.commands;
        tables = it.tables;
        are = now.shows;
        shows = plainly from old.now log it;
      };
      up = up;
      survives = λ left may. (it.tables, now.left left may, plainly from old.now log it);
    }

-- its tables are a bank's
pub has_tables : (old new : State) (migrated : Migrated) → IsFromEarlier migrated → Migrates old new (Ok migrated)
    → HasBankTables new.now.schema
has_tables old new Already from found =
    subst (λ (db : Database). HasBankTables db.schema) (sym found.there.same.now_is) found.there.made
has_tables old new (Moved version) (from, is) moved =
    let it = moved from is in (it.2.2 it.1.there.made).tables

module _ {S : Type 0} (g : Ghosts S) (conn : Held S) (bank : Bank S g) (up : (bank_seen g bank).is_down → ⊥) where
  pub is_migrated : (migrated : Migrated)
      → (HasCleanDisk (file_of bank) → Migrates (state g conn) (file_of bank) (Ok migrated)) → IsFromEarlier migrated
      → Survives (state g conn) (file_of bank) (HasCarriedOver (state g conn)) → IsMigrated g conn (bank, migrated)
  is_migrated Already answers from survives =
      taken_up g conn bank (HasCarriedOver (state g conn)) answers survives
      (λ log s left carried. not_earlier (state g conn) s.tables log s.are s.commands s.shows carried.0 carried.1) up
  is_migrated (Moved version) answers (from, is) survives = (
    from,
    is,
    record {
      was = λ clean. ((answers clean from is).0, (answers clean from is).1);
      moved = λ clean. (answers clean from is).2;
      stands = λ clean log it.
          stands_plain from (state g conn) (file_of bank) (bank_seen g bank).is_down log up it (answers clean from is).2;
      up = up;
    },
  )

  pub knows_migrated : (migrated : Migrated)
      → (HasCleanDisk (file_of bank) → Migrates (state g conn) (file_of bank) (Ok migrated)) → IsFromEarlier migrated
      → KnowsAnswer g conn (Ok (bank, migrated))
  knows_migrated Already answers from = record {
    ours = λ clean log s. (refl, tt);
    earlier = λ clean from log it takes. absurd (not_found from (state g conn) log it (file_of bank) (answers clean));
  }
  knows_migrated (Moved version) answers (from, is) = record {
    ours = λ clean log s.
        absurd (not_earlier (state g conn) s.tables log s.are s.commands s.shows from (answers clean from is).0);
    earlier = λ clean other log it takes. (
      ap Moved (is.0 ∙ ap pos (same_version other (state g conn) log it from (answers clean from is).0)),
      tt,
    );
  }

module _ {S : Type 0} (g : Ghosts S) (conn : Held S) (refused : Refused S) where
  pub knows_refused : (HasCleanDisk (state g refused.conn) → Misplaces (state g conn) refused.fault)
      → KnowsAnswer g conn (Err refused)
  knows_refused why = record {
    ours = λ clean log s.
        (tt, ours_misplaced (state g conn) s.tables log s.are s.commands s.shows refused.fault (why clean));
    earlier = λ clean from log it takes.
        (tt, not_misplaced from (state g conn) log it takes refused.fault (why clean));
  }

  pub leaves_bank : Survives (state g conn) (state g refused.conn) (HasCarriedOver (state g conn))
      → LeavesBank g conn refused
  leaves_bank survives = record {
    ours = λ clean log at.
        let s = at.shows in
        still_left (state g conn) (state g refused.conn) ⊥ ⊥ (HasCarriedOver (state g conn)) _ survives
        (λ left carried. not_earlier (state g conn) s.tables log s.are s.commands s.shows carried.0 carried.1) clean
        at.survives;
    earlier = λ clean from log it left may. elim (survives.crash clean left may) [
      | inl before ↦ inl (it.survives left before)
      | inr carried ↦ inr (
        it.shows.tables,
        (subst (λ n. HasMoved n (state g conn).now left)
            (same_version from (state g conn) log it.shows carried.0 carried.1) carried.2).0 it.shows.tables
            (shows_less from (state g conn).now log it.shows),
        plainly from (state g conn).now log it.shows,
      )
    ];
  }
