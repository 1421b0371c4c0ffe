-- The one row of `meta`: what is read of it, and what a write of the count leaves.
use Rattle.std.proofs.Common.{◌≡◌, ◌<◌, ◌∙◌, ℕ, pos, Bool, true, nat_eq, List, [], ◌∷◌, codes, find, slice_get}
use Rattle.std.proofs.Common.{slice_set, Some, None, Option, option_map, Ok, Err, Result, lit≤, refl, sym, subst}
use Rattle.std.proofs.Common.{arith}
use Rattle.sqlite.specs.{Order.Row, Effect.Database, declared.error.Error.Error, declared.types.Value.TheVariants.Int}
use Rattle.sqlite.specs.State.{State, ExecutesInside, QueriesRowInside}
use Rattle.sqlite.specs.Term.{Term, col, eval_all}
use Rattle.posting_rules.specs.believed.{Changes.with_decided, Tables.Tables}
use Rattle.sql_meanings.specs.{believed.Contents.HoldsEach, StatementAnswers.TellsRow, believed.Tables.Holds}
use Rattle.sql_meanings.specs.believed.Entries.{Entry, HasWidth, has_key, stored}
use Rattle.sql_meanings.proofs.{Contents.held, Contents.one_written, Failures.set_fails_as, ReadRows.reads_key}
use Rattle.sql_meanings.proofs.{SetFailures.refuses_update, SetRows.sets_row}
use Rattle.sql_meanings.proofs.TableWrites.{IsPlain, Leaves, spares_standing}
use Rattle.store_rows.specs.{believed.Columns.meta_in, believed.Columns.meta_numbers, Columns.meta_shown}
use Rattle.store_rows.specs.{TableAnswers.IsForbidden, TableAnswers.SetsRow, believed.BankTables.bank_tables}
use Rattle.store_rows.specs.{Statements.MeetsOne, believed.View.Shows, believed.View.meta_entry, View.HoldsRows}
use Rattle.store_rows.specs.{View.contents, declared.metas.TheConstants.META_ID, declared.metas.TheConstants.VERSION}
use Rattle.store_rows.specs.believed.BankTables as bank
use Rattle.store_rows.specs.declared.texts.TheConstants.{GET_META, SET_META}
use Rattle.store_rows.proofs.{ShownValues.number_shown, Failing.forbidden, Failing.key_fits, Getting.gets}
use Rattle.store_rows.proofs.{Setting.set_second, Setting.sets, StoredRows.shown_as}
use Rattle.store_rows.proofs.Lookups.{one_written as one_met}

-- it is a table of a key and numbers
pub is_plain : IsPlain bank.meta
is_plain = record {
  free = refl;
  keyed = refl;
  uncomputed = refl;
  key = codes "id";
  names = codes "version" ∷ codes "decided" ∷ [];
  texts = [];
  columns = refl;
  width = refl;
  narrow = lit≤ tt;
}

-- where tables are shown, it is the one row with their count
pub holds_one : (db : Database) (t : Tables) → Shows db t
    → Holds db bank.meta (meta_entry VERSION t.decided ∷ [])
holds_one db t shows =
    held db bank_tables (contents t) shows.each 0 bank.meta (meta_entry VERSION t.decided ∷ []) refl refl

pub has_one : (db : Database) (t : Tables) → Shows db t
    → HoldsRows db bank.meta (meta_entry VERSION t.decided ∷ [])
has_one db t shows = record { sound = shows.sound; holds = holds_one db t shows }

-- ---- what is read

abbrev project : List Term
project = col 1 2 ∷ col 1 3 ∷ []

two_shown : (given : Row) (e : Entry) → HasWidth (2, 0) e
    → eval_all project (given ∷ stored e ∷ []) ≡ meta_shown (meta_numbers e)
two_shown given e wide =
    let at = λ (n : ℕ) (low : n < 2). number_shown n e.values e.texts (subst (λ m. n < m) (sym wide.0) low) in
    rw (at 0 (omega arith), at 1 (omega arith)) refl

numbers_of : (o : Option Entry) → option_map (λ e. meta_shown (meta_numbers e)) o
    ≡ option_map meta_shown (option_map meta_numbers o)
numbers_of None = refl
numbers_of (Some e) = refl

-- the row under the bank's id is reported
pub tells_meta : (old new : State) (rows : List Entry) → HoldsRows old.now bank.meta rows
    → (r : Result Row Error)
    → QueriesRowInside GET_META.now (Int (pos META_ID) ∷ []) old new r
    → TellsRow old new (option_map meta_shown (meta_in rows)) r
tells_meta old new rows has r h =
    subst (λ o. TellsRow old new o r)
    (shown_as (2, 0) _ (λ e. meta_shown (meta_numbers e)) (two_shown (Int (pos META_ID) ∷ []))
    (has_key (pos META_ID)) rows has.holds.rows.wide
    ∙ numbers_of (find (has_key (pos META_ID)) rows))
    (reads_key old new bank.meta refl has.sound rows has.holds GET_META.now project (pos META_ID)
    (gets.meta.reads (pos META_ID)) r h)

-- ---- what is written

-- after a write of `meta` each other table holds what it held
pub meta_written : (old new : State) (all : List (List Entry)) → HoldsEach old.now bank_tables all
    → (before after : List Entry)
    → slice_get all 0 ≡ Some before → Leaves old new bank.meta after
    → HoldsEach new.now bank_tables (slice_set all 0 after)
meta_written old new all each before after is left =
    one_written old new bank.meta refl before after
    (held old.now bank_tables all each 0 bank.meta before refl is) left bank_tables all refl each 0 refl

module _ (old new : State) (t : Tables) (shows : Shows old.now t) (n : ℕ) where
  -- the count is written, since the row is there
  set : (count : ℕ) → ExecutesInside 0 SET_META.now (Int (pos META_ID) ∷ Int (pos n) ∷ []) old new (Ok count)
      → SetsRow old new bank.meta true (with_decided n t) (Ok (nat_eq count 1))
  unfolding with_decided
  set count h =
      let done = sets_row old new bank.meta is_plain shows.sound _ (holds_one old.now t shows) SET_META.now
      (pos META_ID) _ (set_second (pos n))
      (sets.meta (pos n)) count h.0 in (
        one_met count true done.1,
        record {
          sound = ∣ done.0.sound ∣₁;
          each = meta_written old new (contents t) shows.each
              (meta_entry VERSION t.decided ∷ []) _ refl done.0;
          early = shows.early;
        },
        (h.1, done.0.marks),
        spares_standing old new bank.meta _ done.0,
      )

  -- or why it can't be
  fails : (e : Error) → ExecutesInside 0 SET_META.now (Int (pos META_ID) ∷ Int (pos n) ∷ []) old new (Err e)
      → SetsRow old new bank.meta true (with_decided n t) (Err e)
  unfolding with_decided
  fails e h =
      set_fails_as old new bank.meta _ e (IsForbidden old.now.schema bank.meta (with_decided n t))
      (forbidden old.now.schema (with_decided n t) bank.meta (meta_entry VERSION n ∷ [])
      (λ db s. holds_one db (with_decided n t) s))
      (refuses_update old new bank.meta is_plain shows.sound _ (holds_one old.now t shows) SET_META.now
      (pos META_ID) _ (set_second (pos n))
      (sets.meta (pos n)) (key_fits META_ID (lit≤ tt)) e h)

  -- either
  pub tells_decided : (answer : Result Bool Error)
      → MeetsOne SET_META.now (Int (pos META_ID) ∷ Int (pos n) ∷ []) old new answer
      → SetsRow old new bank.meta true (with_decided n t) answer
  tells_decided (Ok met) h = subst (λ b. SetsRow old new bank.meta true (with_decided n t) (Ok b)) (sym h.2)
      (set h.0 h.1)
  tells_decided (Err e) h = fails e h
