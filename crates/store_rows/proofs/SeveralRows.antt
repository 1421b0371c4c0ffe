-- What an INSERT of several rows leaves of the tables.
use Rattle.std.proofs.Common.{◌≡◌, ◌≤◌, ◌||◌, ℕ, pos, List, [], ◌∷◌, map, find, is_some, cond, nat_lt, Bool, true}
use Rattle.std.proofs.Common.{false, ℤ, Ok, Err, Result, Less, int_cmp, refl, sym, ap, subst, ◌∙◌, inl, inr}
use Rattle.std.specs.List.{AllByRecursion, flat_map}
use Rattle.std.proofs.lemmas.Bool.{cases_Bool}
use Rattle.sqlite.specs.{Effect.Database, Order.Row, Schema.Schema, Table.Table, declared.error.Error.Error}
use Rattle.sqlite.specs.{declared.transaction.Transaction.Transaction, declared.types.Value.TheVariants.Int}
use Rattle.sqlite.specs.State.{State, ExecutesInside}
use Rattle.sqlite_rules.specs.Lists.{Has}
use Rattle.sqlite_sql.specs.Ops.{fits_i64}
use Rattle.sqlite_trees.specs.declared.store.Store.{Ghosts}
use Rattle.posting_rules.specs.believed.{Changes.row_put, Tables.Tables, Tables.row_at}
use Rattle.sql_meanings.specs.believed.Entries.{Entry, Rise, has_key}
use Rattle.sql_meanings.specs.{Entries.put, StatementAnswers.Forbids, believed.Tables.Holds}
use Rattle.sql_meanings.specs.SeveralRows.{put_each, meets_key as entries_meet}
use Rattle.sql_meanings.proofs.{EntryLists.rise_put, PutFailures.refuses_rows, SeveralRows.IsKey, TableWrites.Leaves}
use Rattle.sql_meanings.proofs.PutRows.{PutsEachAs, puts_rows}
use Rattle.store_rows.specs.{believed.Failures.inserts, Faults.added, believed.SeveralRows.given, Statements.PutsRow}
use Rattle.store_rows.specs.{TableAnswers.PutsOneRow, TableAnswers.IsForbidden, believed.View.Shows}
use Rattle.store_rows.specs.{declared.fault.TableFault.TableFault, declared.statements.TheConstants.MAX_KEY}
use Rattle.store_rows.specs.SeveralRows.{AddsRows, meets_key, with_each}
use Rattle.store_rows.proofs.Failing.{adds_err, forbidden, key_fits, taken_falls}
use Rattle.store_rows.proofs.{RowLists.put_rows, RowLists.taken_row_key, Telling.tells_tables}
use Rattle.store_rows.proofs.SparedTexts.{Spares, spared_put}
use Rattle.store_rows.proofs.TableKinds.{Kind, holds, shows_rows, table_of, written}

-- ---- lists of rows

module _ {R : Type 0} (key : R → ℕ) (entry : R → Entry) (keyed : (r : R) → (entry r).key ≡ pos (key r)) where
  -- the rows with these put in, one after another
  abbrev pub put_in : List R → List R → List R
  put_in [] rows = rows
  put_in (r ∷ news) rows = put_in news (row_put key r rows)

  -- a key is taken by then
  abbrev pub is_met : List R → List R → Bool
  is_met [] rows = false
  is_met (r ∷ news) rows = is_some (row_at key rows (key r)) || is_met news (row_put key r rows)

  taken_is : (r : R) (rows : List R)
      → is_some (find (has_key (entry r).key) (map entry rows)) ≡ is_some (row_at key rows (key r))
  taken_is r rows = rw (keyed r) (taken_row_key key entry keyed (key r) rows)

  -- so it is of the entries
  pub entries_met : (news rows : List R) → entries_meet (map entry news) (map entry rows) ≡ is_met news rows
  entries_met [] rows = refl
  entries_met (r ∷ news) rows = rw (taken_is r rows)
      (go (is_some (row_at key rows (key r))) refl (entries_met news (row_put key r rows)))
    where
      go : (b : Bool) → is_some (row_at key rows (key r)) ≡ b
          → entries_meet (map entry news) (map entry (row_put key r rows)) ≡ is_met news (row_put key r rows)
          → (b || entries_meet (map entry news) (put (entry r) (map entry rows)))
          ≡ (b || is_met news (row_put key r rows))
      go true taken more = refl
      go false free more = ap (entries_meet (map entry news)) (put_rows key entry keyed r rows free) ∙ more

  -- where each key is free, to put the entries in is to put the rows in
  pub entries_put : (news rows : List R) → is_met news rows ≡ false
      → put_each (map entry news) (map entry rows) ≡ map entry (put_in news rows)
  entries_put [] rows free = refl
  entries_put (r ∷ news) rows free = go (is_some (row_at key rows (key r))) refl free
      (entries_put news (row_put key r rows))
    where
      go : (b : Bool) → is_some (row_at key rows (key r)) ≡ b
          → (b || is_met news (row_put key r rows)) ≡ false
          → (is_met news (row_put key r rows) ≡ false
          → put_each (map entry news) (map entry (row_put key r rows))
          ≡ map entry (put_in news (row_put key r rows)))
          → put_each (map entry news) (put (entry r) (map entry rows))
          ≡ map entry (put_in news (row_put key r rows))
      go true taken none more = absurd cc
      go false apart none more = ap (put_each (map entry news)) (put_rows key entry keyed r rows apart)
          ∙ more none

  all_before : (P : Entry → Type 0) (new : R) (rows : List R)
      → AllByRecursion P (map entry (row_put key new rows)) → AllByRecursion P (map entry rows)
  all_before P new [] all = tt
  all_before P new (r ∷ rows) all = go (nat_lt (key r) (key new)) all (all_before P new rows)
    where
      go : (b : Bool) → AllByRecursion P (map entry (cond b (r ∷ row_put key new rows) (new ∷ r ∷ rows)))
          → (AllByRecursion P (map entry (row_put key new rows)) → AllByRecursion P (map entry rows))
          → AllByRecursion P (map entry (r ∷ rows))
      go true all more = (all.0, more all.1)
      go false all more = all.1

  -- keys that rise with a row rise without it
  rise_before : (new : R) (rows : List R) → Rise (map entry (row_put key new rows)) → Rise (map entry rows)
  rise_before new [] rise = tt
  rise_before new (r ∷ rows) rise = go (nat_lt (key r) (key new)) rise (rise_before new rows)
    where
      go : (b : Bool) → Rise (map entry (cond b (r ∷ row_put key new rows) (new ∷ r ∷ rows)))
          → (Rise (map entry (row_put key new rows)) → Rise (map entry rows))
          → Rise (map entry (r ∷ rows))
      go true rise more = (
        all_before (λ x. int_cmp (entry r).key x.key ≡ Less) new rows rise.0,
        more rise.1,
      )
      go false rise more = rise.1

  rise_before_each : (news rows : List R) → Rise (map entry (put_in news rows)) → Rise (map entry rows)
  rise_before_each [] rows rise = rise
  rise_before_each (r ∷ news) rows rise =
      rise_before r rows (rise_before_each news (row_put key r rows) rise)

  -- rows that are put in where a key is taken leave keys that don't rise
  pub met_falls : (news rows : List R) → is_met news rows ≡ true → Rise (map entry rows)
      → ¬ Rise (map entry (put_in news rows))
  met_falls [] rows met rise h = absurd cc
  met_falls (r ∷ news) rows met rise h = go (is_some (row_at key rows (key r))) refl met
      (met_falls news (row_put key r rows))
    where
      go : (b : Bool) → is_some (row_at key rows (key r)) ≡ b → (b || is_met news (row_put key r rows)) ≡ true
          → (is_met news (row_put key r rows) ≡ true → Rise (map entry (row_put key r rows))
          → ¬ Rise (map entry (put_in news (row_put key r rows))))
          → ⊥
      go true taken some more = taken_falls key entry keyed r rows taken rise
          (rise_before_each news (row_put key r rows) h)
      go false free some more = more some
          (subst Rise (put_rows key entry keyed r rows free) (rise_put (entry r) (map entry rows) rise)) h

  -- where the table can't have the rows more no file shows the tables with them
  pub forbidden_rows : (schema : Schema) (after : Tables) (table : Table) (news rows : List R)
      → Rise (map entry rows)
      → ((db : Database) → Shows db after → Holds db table (map entry (put_in news rows)))
      → Forbids schema table (put_each (map entry news) (map entry rows)) → IsForbidden schema table after
  forbidden_rows schema after table news rows rise held none = elim (cases_Bool (is_met news rows)) [
    | inl met ↦ (none.0, λ trees shows. met_falls news rows met rise (held _ shows).rows.rise)
    | inr free ↦ forbidden schema after table (map entry (put_in news rows)) held
        (subst (Forbids schema table) (entries_put news rows free) none)
  ]

-- ---- the tables

-- to have the rows of a table twice is to have the last ones
pub record IsPlaced {R : Type 0} (kind : Kind R) : Type 0 where
  pub own : (t : Tables) → t ≡ kind.having (kind.rows t) t
  pub over : (t : Tables) (rows others : List R) → kind.having others (kind.having rows t) ≡ kind.having others t

module _ {R : Type 0} (kind : Kind R) (placed : IsPlaced kind) where
  abbrev table : Table
  table = table_of kind

  -- a row more
  abbrev pub with_row : R → Tables → Tables
  with_row r t = kind.having (row_put kind.key r (kind.rows t)) t

  -- its key is taken
  abbrev pub has_key_of : R → Tables → Bool
  has_key_of r t = is_some (row_at kind.key (kind.rows t) (kind.key r))

  abbrev more : List R → List R → List R
  more = put_in kind.key kind.entry kind.keyed

  abbrev met : List R → List R → Bool
  met = is_met kind.key kind.entry kind.keyed

  with_is : (news : List R) (t : Tables) → with_each with_row news t ≡ kind.having (more news (kind.rows t)) t
  with_is [] t = placed.own t
  with_is (r ∷ news) t =
      let rows = row_put kind.key r (kind.rows t) in
      with_is news (kind.having rows t)
      ∙ ap (λ (l : List R). kind.having (more news l) (kind.having rows t)) (kind.again t rows)
      ∙ placed.over t rows (more news rows)

  met_is : (news : List R) (t : Tables) → meets_key with_row has_key_of news t ≡ met news (kind.rows t)
  met_is [] t = refl
  met_is (r ∷ news) t =
      let rows = row_put kind.key r (kind.rows t) in
      ap (λ b. has_key_of r t || b) (met_is news (kind.having rows t)
      ∙ ap (met news) (kind.again t rows))

  low_keys : (news : List R) → AllByRecursion (λ r. kind.key r ≤ MAX_KEY) news
      → AllByRecursion IsKey (map kind.entry news)
  low_keys [] low = tt
  low_keys (r ∷ news) low = (
    subst (λ z. fits_i64 z ≡ true) (sym (kind.keyed r)) (key_fits (kind.key r) low.0),
    low_keys news low.1,
  )

  module _ (old new : State) (t : Tables) (shows : Shows old.now t) (text : List ℕ) (params : Row)
      (news : List R) (puts : PutsEachAs table text params (map kind.entry news))
      (low : AllByRecursion (λ r. kind.key r ≤ MAX_KEY) news) where
    abbrev after : List R
    after = more news (kind.rows t)

    meets : entries_meet (map kind.entry news) (map kind.entry (kind.rows t))
        ≡ meets_key with_row has_key_of news t
    meets = entries_met kind.key kind.entry kind.keyed news (kind.rows t) ∙ sym (met_is news t)

    -- the rows are there now, and each other row and table is as it was; or a key was taken; or why they aren't
    -- there
    pub tells_rows : (answer : Result ℕ Error) → ExecutesInside 0 text params old new answer
        → PutsOneRow old new table (meets_key with_row has_key_of news t) (with_each with_row news t)
        (added answer)
    tells_rows (Ok count) h =
        let done = puts_rows old new kind.table kind.is_plain shows.sound _ (holds kind old.now t shows) text
        params (map kind.entry news) puts count h.0 in
        let rows = entries_put kind.key kind.entry kind.keyed news (kind.rows t)
        (sym (entries_met kind.key kind.entry kind.keyed news (kind.rows t)) ∙ done.1) in (
          sym meets ∙ done.1,
          subst (Shows new.now) (sym (with_is news t))
              (written kind old new t shows after (subst (Leaves old new table) rows done.0)),
          (h.1, done.0.marks),
          done.2,
        )
    tells_rows (Err e) h =
        adds_err old new table _ _ _ _ e meets
        (forbidden_rows kind.key kind.entry kind.keyed old.now.schema (with_each with_row news t) table news
        (kind.rows t) (holds kind old.now t shows).rows.rise
        (λ db there. shows_rows kind t after db (subst (Shows db) (with_is news t) there)))
        (refuses_rows old new kind.table kind.is_plain shows.sound _ (holds kind old.now t shows) text params
        (map kind.entry news) puts (low_keys news low) e h)

  -- a call that runs the text puts the rows in so
  pub puts_several : (text : List ℕ) (news : List R)
      → PutsEachAs table text (flat_map given (map kind.entry news)) (map kind.entry news) → Spares text
      → Has inserts text → (first : ℤ) (rest : Row) → flat_map given (map kind.entry news) ≡ Int first ∷ rest
      → {S : Type 0} (g : Ghosts S) (old new : Transaction S)
      → AllByRecursion (λ r. kind.key r ≤ MAX_KEY) news
      → (answer : Result (Unit {0}) TableFault)
      → PutsRow g old new text (flat_map given (map kind.entry news)) answer
      → AddsRows g old new text kind.entry table has_key_of with_row news answer
  puts_several text news puts spared among first rest is g old new low answer says =
      tells_tables g old new (λ before after t shows h. rw h.2
      (tells_rows before after t shows text (flat_map given (map kind.entry news)) news puts low h.0 h.1))
      (λ before after. spared_put text spared before after _ answer)
      (record {
        same_reference = says.same_reference;
        answers = says.answers;
        leaves = λ clean live. says.leaves clean live first rest is among;
        survives = says.survives;
      })
