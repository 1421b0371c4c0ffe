-- What reads leave of a bank that stands at a log.
use Rattle.std.proofs.Common.{List, [], sym, subst, inl, inr, arith}
use Rattle.sqlite.specs.{Effect.Database, State.State, State.HasCleanDisk, State.Survives}
use Rattle.posting_rules.specs.{believed.Commands.Command, believed.Tables.AreTablesOf}
use Rattle.posting_rules.specs.believed.Counter.{Seen, ShowsLog, Takes, LeavesOnly}
use Rattle.store_rows.specs.believed.View.{Shows}
use Rattle.bank_store.specs.{Leaving.TakesNone, believed.Seen.seen_in, Walks.IsStill}

-- where the connection sees what it saw, all stands as it stood
pub takes_then : (old mid new : State) (D E F : Type 0) → Takes (seen_in old D) (seen_in mid E) []
    → (HasCleanDisk new → IsStill mid new)
    → Survives mid new (λ _. ⊥) → (F → E) → Takes (seen_in old D) (seen_in new F) []
takes_then old mid new D E F takes still quiet up = record {
  shows = λ clean log s. shown clean log (takes.shows (before clean) log s);
  stands = λ clean log at.
      let mine = takes.stands (before clean) log at in
      record {
        shows = shown clean log mine.shows;
        up = λ down. mine.up (up down);
        survives = λ trees may. elim (quiet.crash clean trees may) [
          | inl earlier ↦ mine.survives trees earlier
          | inr none ↦ absurd none
        ];
      };
}
  where
    before : HasCleanDisk new → HasCleanDisk mid
    before clean = omega (arith, quiet.clean)

    shown : HasCleanDisk new → (log : List Command) → ShowsLog (seen_in mid E) log
        → ShowsLog (seen_in new F) log
    shown clean log s = record {
      commands = s.commands;
      tables = s.tables;
      are = subst (λ (db : Database). Shows db s.tables) (sym (still clean).0) s.are;
      shows = s.shows;
    }

-- ---- what a call that only reads leaves

pub clean_before : (old new : State) → Survives old new (λ _. ⊥) → HasCleanDisk new → HasCleanDisk old
clean_before old new quiet clean = omega (arith, quiet.clean, clean)

pub quiet_leaves : (old new : State) (D : Type 0) → Survives old new (λ _. ⊥) → HasCleanDisk new
    → (log : List Command) → LeavesOnly (seen_in old D) (λ t. AreTablesOf t log)
    → LeavesOnly (seen_in new D) (λ t. AreTablesOf t log)
quiet_leaves old new D quiet clean log only = λ trees may. elim (quiet.crash clean trees may) [
  | inl earlier ↦ only trees earlier
  | inr none ↦ absurd none
]

-- ---- what reads leave

-- nothing was done
pub idle_takes : (seen : Seen) (answered : Type 0) → TakesNone seen seen answered
idle_takes seen answered = record {
  done = λ yes. record { shows = λ clean log s. s; stands = λ clean log at. at };
  survives = λ clean log at. at.survives;
  honest = λ clean. clean;
}

-- a call of no command, and then reads
pub reads_after : (old mid new : State) (D E F answered : Type 0) → Takes (seen_in old D) (seen_in mid E) []
    → (HasCleanDisk mid → HasCleanDisk old)
    → (answered → HasCleanDisk new → IsStill mid new) → Survives mid new (λ _. ⊥) → (F → E)
    → TakesNone (seen_in old D) (seen_in new F) answered
reads_after old mid new D E F answered takes before still quiet up = record {
  done = λ yes. takes_then old mid new D E F takes (still yes) quiet up;
  survives = λ clean log at.
      quiet_leaves mid new E quiet clean log
      (takes.stands (clean_before mid new quiet clean) log at).survives;
  honest = λ clean. before (clean_before mid new quiet clean);
}

-- reads alone
pub reads_take_none : (old new : State) (D E answered : Type 0)
    → (answered → HasCleanDisk new → IsStill old new) → Survives old new (λ _. ⊥) → (E → D)
    → TakesNone (seen_in old D) (seen_in new E) answered
reads_take_none old new D E answered still quiet up =
    reads_after old old new D D E answered
    (record { shows = λ clean log s. s; stands = λ clean log at. at }) (λ clean. clean) still quiet up
