-- The tables of the bank, each with its typed rows: what a statement on one of them leaves is said once for
-- all.
use Rattle.std.proofs.Common.{◌++◌, ◌+◌, length, ◌≡◌, ℕ, ◌≤◌, pos, Bool, true, cond, nat_eq, is_some, List, [], ◌∷◌}
use Rattle.std.proofs.Common.{drop, map, find, take, slice_get, slice_set, Some, Option, Ok, Err, Result, refl, sym, ap, subst}
use Rattle.std.proofs.Common.{◌∙◌, arith}
use Rattle.std.specs.List.{flat_map}
use Rattle.sqlite.specs.{Order.Row, Effect.Database, State.State, State.ExecutesInside, Table.Table}
use Rattle.sqlite.specs.{declared.error.Error.Error, declared.types.Value.TheVariants.Int}
use Rattle.sqlite_sql.specs.Ops.{fits_i64}
use Rattle.posting_rules.specs.believed.{Changes.row_changed, Changes.row_put, Tables.Tables, Tables.row_at}
use Rattle.sql_meanings.specs.{believed.Contents.HoldsEach, Entries.changed, StatementAnswers.Forbids}
use Rattle.sql_meanings.specs.believed.{Entries.Entry, Entries.has_key, Tables.Holds, Tables.width_of}
use Rattle.sql_meanings.specs.believed.Plain.{key_column, number_column, text_column}
use Rattle.sql_meanings.proofs.{Contents.held, Contents.one_written, Failures.set_fails_as}
use Rattle.sql_meanings.proofs.{PutFailures.refuses_insert, PutRows.PutsAs, PutRows.puts_row}
use Rattle.sql_meanings.proofs.{SetFailures.refuses_update, SetRows.ChangesAs, SetRows.sets_row, Writing.uncounted}
use Rattle.sql_meanings.proofs.TableWrites.{IsPlain, Leaves, spares_standing}
use Rattle.store_rows.specs.{Faults.added, believed.BankTables.bank_tables, Statements.MeetsOne, believed.View.Shows}
use Rattle.store_rows.specs.{View.contents, declared.statements.TheConstants.MAX_KEY}
use Rattle.store_rows.specs.TableAnswers.{PutsOneRow, IsForbidden, SetsRow}
use Rattle.store_rows.proofs.Failing.{adds_err, forbidden, forbidden_put, key_fits}
use Rattle.store_rows.proofs.Lookups.{one_written as one_met}
use Rattle.store_rows.proofs.RowLists.{changed_rows, put_rows, taken_row_key}

-- a table of the bank: its place among them, and how a file holds its rows
pub record Kind (R : Type 0) : Type 0 where
  pub place : ℕ
  pub table : Table
  pub key : R → ℕ
  pub entry : R → Entry
  pub rows : Tables → List R
  pub having : List R → Tables → Tables
  pub keyed : (r : R) → (entry r).key ≡ pos (key r)
  pub listed : slice_get bank_tables place ≡ Some (uncounted table)
  pub has : (t : Tables) → slice_get (contents t) place ≡ Some (map entry (rows t))
  pub replaced : (t : Tables) (rs : List R)
      → slice_set (contents t) place (map entry rs) ≡ contents (having rs t)
  pub again : (t : Tables) (rs : List R) → rows (having rs t) ≡ rs
  pub is_plain : IsPlain (uncounted table)

-- the names of its key, of its columns of numbers and of those of texts after them
abbrev key_name : Table → List ℕ
key_name table = flat_map (λ c. c.name) (take 1 table.columns)

abbrev number_names : Table → List (List ℕ)
number_names table = map (λ c. c.name) (take (width_of table).0 (drop 1 table.columns))

abbrev text_names : Table → List (List ℕ)
text_names table = map (λ c. c.name) (drop (1 + (width_of table).0) table.columns)

-- a table of a key, numbers and texts, where all that computes
abbrev pub kind_of : {R : Type 0} (place : ℕ) (table : Table) (key : R → ℕ) (entry : R → Entry)
    (rows : Tables → List R)
    (having : List R → Tables → Tables) → ((r : R) → (entry r).key ≡ pos (key r))
    → slice_get bank_tables place ≡ Some (uncounted table)
    → ((t : Tables) → slice_get (contents t) place ≡ Some (map entry (rows t)))
    → ((t : Tables) (rs : List R) → slice_set (contents t) place (map entry rs) ≡ contents (having rs t))
    → ((t : Tables) (rs : List R) → rows (having rs t) ≡ rs)
    → table.references ≡ []
    → table.key ≡ Some 0 → table.computed ≡ []
    → width_of table ≡ (length (number_names table), length (text_names table))
    → length (number_names table) + length (text_names table) ≤ 1999
    → table.columns ≡ key_column (key_name table)
    ∷ (map number_column (number_names table) ++ map text_column (text_names table)) → Kind R
kind_of place table key entry rows having keyed listed has replaced again free at_first uncomputed wide narrow
    columns = record {
      place = place;
      table = table;
      key = key;
      entry = entry;
      rows = rows;
      having = having;
      keyed = keyed;
      listed = listed;
      has = has;
      replaced = replaced;
      again = again;
      is_plain = record {
        free = free;
        keyed = at_first;
        uncomputed = uncomputed;
        key = key_name table;
        names = number_names table;
        texts = text_names table;
        columns = columns;
        width = wide;
        narrow = narrow;
      };
    }

-- the table itself
abbrev pub table_of : {R : Type 0} → Kind R → Table
table_of kind = uncounted kind.table

module _ {R : Type 0} (kind : Kind R) where
  abbrev table : Table
  table = table_of kind

  abbrev under : Tables → ℕ → Option R
  under t k = row_at kind.key (kind.rows t) k

  -- what is shown is held
  pub holds : (db : Database) (t : Tables) → Shows db t → Holds db table (map kind.entry (kind.rows t))
  holds db t shows = held db bank_tables (contents t) shows.each kind.place table
      (map kind.entry (kind.rows t)) kind.listed (kind.has t)

  -- after a write the database shows the same tables, but for this one
  pub written : (old new : State) (t : Tables) → Shows old.now t → (rs : List R)
      → Leaves old new table (map kind.entry rs)
      → Shows new.now (kind.having rs t)
  written old new t shows rs left = record {
    sound = ∣ left.sound ∣₁;
    each = subst (HoldsEach new.now bank_tables) (kind.replaced t rs)
        (one_written old new table kind.is_plain.free (map kind.entry (kind.rows t)) (map kind.entry rs)
        (holds old.now t shows) left bank_tables (contents t) refl shows.each kind.place kind.listed);
    early = λ low. absurd (omega (arith, low));
  }

  pub shows_rows : (t : Tables) (rs : List R) (db : Database) → Shows db (kind.having rs t)
      → Holds db table (map kind.entry rs)
  shows_rows t rs db shows = subst (λ x. Holds db table (map kind.entry x)) (kind.again t rs)
      (holds db (kind.having rs t) shows)

  -- ---- a row more

  module _ (old new : State) (t : Tables) (shows : Shows old.now t) (text : List ℕ) (params : Row) (r : R)
      (puts : PutsAs table text params (kind.entry r)) (low : kind.key r ≤ MAX_KEY) where
    taken_is : is_some (find (has_key (kind.entry r).key) (map kind.entry (kind.rows t)))
        ≡ is_some (under t (kind.key r))
    taken_is = rw (kind.keyed r) (taken_row_key kind.key kind.entry kind.keyed (kind.key r) (kind.rows t))

    -- the row is there now, and each other row and table is as it was; or the key was taken; or why it isn't
    -- there
    pub tells_added : (answer : Result ℕ Error) → ExecutesInside 0 text params old new answer
        → PutsOneRow old new table (is_some (under t (kind.key r)))
        (kind.having (row_put kind.key r (kind.rows t)) t) (added answer)
    tells_added (Ok count) h =
        let done = puts_row old new kind.table kind.is_plain shows.sound _ (holds old.now t shows) text params
        (kind.entry r) puts count h.0 in
        let free = sym taken_is ∙ done.1 in
        let rows = put_rows kind.key kind.entry kind.keyed r (kind.rows t) free in (
          free,
          written old new t shows _ (subst (Leaves old new table) rows done.0),
          (h.1, done.0.marks),
          done.2,
        )
    tells_added (Err e) h =
        let after = row_put kind.key r (kind.rows t) in
        adds_err old new table _ _ _ _ e taken_is
        (forbidden_put kind.key kind.entry kind.keyed old.now.schema (kind.having after t) table r
        (kind.rows t) (holds old.now t shows).rows.rise
        (shows_rows t after))
        (refuses_insert old new kind.table kind.is_plain shows.sound _ (holds old.now t shows) text params
        (kind.entry r) puts
        (subst (λ z. fits_i64 z ≡ true) (sym (kind.keyed r)) (key_fits (kind.key r) low)) e h)

  -- ---- a number of a row

  module _ (old new : State) (t : Tables) (shows : Shows old.now t) (text : List ℕ) (k : ℕ) (more : Row)
      (change : R → R)
      (change_entry : Entry → Entry) (changes : ChangesAs table text (pos k) more change_entry)
      (same : (r : R) → change_entry (kind.entry r) ≡ kind.entry (change r)) where
    abbrev after : List R
    after = row_changed kind.key change k (kind.rows t)

    rows_are : changed change_entry (pos k) (map kind.entry (kind.rows t)) ≡ map kind.entry after
    rows_are = changed_rows kind.key kind.entry kind.keyed change change_entry same k (kind.rows t)

    -- the row under the key is changed, and each other row and table is as it was
    tells_set : (count : ℕ) → ExecutesInside 0 text (Int (pos k) ∷ more) old new (Ok count)
        → SetsRow old new table (is_some (under t k)) (kind.having after t) (Ok (nat_eq count 1))
    tells_set count h =
        let done = sets_row old new table kind.is_plain shows.sound _ (holds old.now t shows) text (pos k)
        more change_entry changes count h.0 in (
          one_met count _ (done.1 ∙ ap (λ b. cond b 1 0)
              (taken_row_key kind.key kind.entry kind.keyed k (kind.rows t))),
          written old new t shows _ (subst (Leaves old new table) rows_are done.0),
          (h.1, done.0.marks),
          spares_standing old new table _ done.0,
        )

    -- why it can't be
    fails_to_set : k ≤ MAX_KEY → (e : Error) → ExecutesInside 0 text (Int (pos k) ∷ more) old new (Err e)
        → SetsRow old new table (is_some (under t k)) (kind.having after t) (Err e)
    fails_to_set low e h =
        set_fails_as old new table _ e (IsForbidden old.now.schema table (kind.having after t))
        (λ none. forbidden old.now.schema (kind.having after t) table _ (shows_rows t after)
        (subst (Forbids old.now.schema table) rows_are none))
        (refuses_update old new table kind.is_plain shows.sound _ (holds old.now t shows) text (pos k) more
        change_entry changes
        (key_fits k low) e h)

    -- either
    pub tells_write : k ≤ MAX_KEY → (answer : Result Bool Error)
        → MeetsOne text (Int (pos k) ∷ more) old new answer
        → SetsRow old new table (is_some (under t k)) (kind.having after t) answer
    tells_write low (Ok met) h =
        subst (λ b. SetsRow old new table (is_some (under t k)) (kind.having after t) (Ok b)) (sym h.2)
        (tells_set h.0 h.1)
    tells_write low (Err e) h = fails_to_set low e h
