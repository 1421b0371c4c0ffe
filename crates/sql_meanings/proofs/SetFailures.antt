-- Why one column of a row can't be written.
use Rattle.sql_meanings.specs.Names.{ℕ, ℤ, List, [], map, find, length, not, true, false, None, Some, Option, Ok, Err}
use Rattle.sql_meanings.specs.Names.{IsTrue, AllByRecursion, Null, Int, Row, overlay, Schema, eval_all, Trees}
use Rattle.sql_meanings.specs.Names.{without_rowid, Table, Edit, edit_of, edited, Command, Update, Does, Concludes}
use Rattle.sql_meanings.specs.Names.{Returns, Tested, Answers, IsDatabase, edit_error, Gives, Edited, Task, Then}
use Rattle.sql_meanings.specs.Names.{Written, State, ExecutesInside, mode_of, text_of, Error, SqliteFailure, fits_i64}
use Rattle.sql_meanings.specs.Names.{Program, Compiled, ForeignKey, Unique, All, Enforced, Refers, Refusal, Violates}
use Rattle.sql_meanings.specs.Names.{Given, cast_row, ids_of, are_fresh, is_taken, left_by, taken_by, works, Has}
use Rattle.sql_meanings.proofs.Names.{inl, inr, refl, sym, ap, subst, ◌∙◌, cases_Bool, ∥∥₁_elim, one_step}
use Rattle.sql_meanings.proofs.Names.{no_fold_overflows, all_has}
use Rattle.sqlite.specs.Rows.{Queried, Updates}
use Rattle.sql_meanings.specs.believed.Entries.{HasWidth, Entry, has_key, stored}
use Rattle.sql_meanings.specs.{Entries.changed, Entries.listed, Queries.by_key}
use Rattle.sql_meanings.specs.StatementAnswers.{Forbids, HasWideIndex, IsInterrupted, SetFails, is_parent}
use Rattle.sql_meanings.specs.believed.Tables.{Holds, placed_at, tree_of, width_of}
use Rattle.sql_meanings.proofs.Changes.{found_all, found_key, taken_is}
use Rattle.sql_meanings.proofs.EntryLists.{none_without, without, without_stored}
use Rattle.sql_meanings.proofs.{KeyedAnswers.keyed_answer, Means.Means, Means.no_refusal, ReadTables.under_overlay}
use Rattle.sql_meanings.proofs.{SetRows.ChangesAs, SetRows.set_rows, TablesBeside.Standing, TablesBeside.standing}
use Rattle.sql_meanings.proofs.{PuttingIn.never, PuttingIn.stopped, Names.same_value, Writing.went}
use Rattle.sql_meanings.proofs.Referring.{asks_parent, nothing_set_off, refers_after}
use Rattle.sql_meanings.proofs.Refusals.{EditStops, IsFit, edit_stops, forbids}
use Rattle.sql_meanings.proofs.Stopping.{Stops, fails_for, fails_split, stops}
use Rattle.sql_meanings.proofs.TableWrites.{IsPlain, cast_is, none_short, plain_at}
use Rattle.sqlite.specs.declared.error.ErrorCode.TheVariants as code
use Rattle.std.specs.Prelude.{◌≡◌, ◌⊎◌, ◌∷◌, ◌&&◌}

module _ (old new : State) (table : Table) (is : IsPlain table) (sound : ∥ IsDatabase old.now ∥₁)
    (es : List Entry)
    (holds : Holds old.now table es)
    (text : List ℕ) (k : ℤ) (more : Row) (change : Entry → Entry)
    (changes : ChangesAs table text k more change) (low : fits_i64 k ≡ true)
  where
    abbrev db : Trees
    db = old.now.trees

    abbrev schema : Schema
    schema = old.now.schema

    abbrev tree : ℕ
    tree = tree_of old.now.schema table.name

    abbrev here : Table
    here = placed_at table tree

    abbrev params : Row
    params = Int k ∷ more

    abbrev program : Program
    program = record { lets = []; body = by_key tree changes.project }

    abbrev set_by : List Row → Edit
    set_by rows = edit_of db here (ids_of rows) Given 1 rows

    at : Standing schema table
    at = standing old.now table is.free sound holds.defined

    is_plain : IsPlain here
    is_plain = plain_at table tree is

    -- ---- what is written

    -- the rows that the statement meets
    record Met (rows : List Row) : Type 0 where
      pub entries : List Entry
      pub news : (set_by rows).news ≡ map stored entries
      pub fits : AllByRecursion (IsFit here) entries
      pub after : edited db (set_by rows) ≡ map stored (changed change k es)
      pub fresh : are_fresh (left_by db (set_by rows)) (set_by rows).news ≡ true

    met_by : (rows : List Row) (o : Option Entry) → find (has_key k) es ≡ o
        → rows ≡ map (λ e. eval_all changes.project (params ∷ stored e ∷ [])) (listed o) → Met rows
    met_by rows None found are = record {
      entries = [];
      news = ap (λ rs. (set_by rs).news) are;
      fits = tt;
      after = (set_rows old new table is sound es holds text k more change changes rows None found
          are).stands.are;
      fresh = ap (λ rs. are_fresh (left_by db (set_by rs)) (set_by rs).news) are;
    }
    met_by rows (Some e) found are = record {
      entries = change e ∷ [];
      news = new_row;
      fits = (
        record {
          wide = changes.keeps_width e wide;
          short = none_short here changes.untexted (change e) after_wide;
          low = rw (changes.keeps_key e ∙ key) low;
          checked = changes.passes e wide key;
        },
        tt,
      );
      after = (set_rows old new table is sound es holds text k more change changes rows (Some e) found
          are).stands.are;
      fresh = still_fresh;
    }
      where
        wide : HasWidth (width_of table) e
        wide = found_all (λ x. HasWidth (width_of table) x) (has_key k) es e holds.rows.wide found

        after_wide : HasWidth (width_of table) (change e)
        after_wide = changes.keeps_width e wide

        unchanged : cast_row here (stored (change e)) ≡ stored (change e)
        unchanged = cast_is here is_plain (change e) after_wide
            (none_short here changes.untexted (change e) after_wide)

        rows_are : rows ≡ (Int e.key ∷ stored (change e)) ∷ []
        rows_are = are ∙ ap (λ row. row ∷ []) (changes.projects e wide)

        new_row : (set_by rows).news ≡ stored (change e) ∷ []
        new_row = ap (λ rs. (set_by rs).news) rows_are ∙ ap (λ row. row ∷ []) unchanged

        key : e.key ≡ k
        key = found_key k es e found

        still_fresh : are_fresh (left_by db (set_by rows)) (set_by rows).news ≡ true
        still_fresh =
            ap (λ rs. are_fresh (left_by db (set_by rs)) (set_by rs).news) rows_are
            ∙ ap (λ row. not (is_taken (without_rowid e.key (db tree)) row) && true) unchanged
            ∙ ap (λ rs. not (is_taken (without_rowid e.key rs) (stored (change e))) && true) holds.rows.are
            ∙ ap (λ rs. not (is_taken rs (stored (change e))) && true) (without_stored e.key es)
            ∙ rw (taken_is (change e) (without e.key es), changes.keeps_key e, none_without e.key es) refl

    met : (rows : List Row) → Answers old.now program params rows → Met rows
    met rows a = met_by rows (find (has_key k) es) refl
        (keyed_answer Null tree changes.project (overlay db []) k more rows es
        (under_overlay db tree at.has.low holds.rows) (a.answer Null))

    -- ---- how each part may stop

    -- why the statement stops: what is written can't be stored, or the error that it tells
    abbrev SetStops : Option Error → Type 0
    SetStops None = HasWideIndex schema table ⊎ IsTrue (is_parent schema table)
    SetStops (Some e) =
        IsInterrupted old e
        ⊎ (((e ≡ SqliteFailure (code.ConstraintViolation Unique))
        × Forbids schema table (changed change k es))
        ⊎ (IsTrue (is_parent schema table) × (why : Refusal) × (e ≡ edit_error why)))

    queried : (stop : Option Error) → Queried old.step_limit old.now program params (Err stop) → SetStops stop
    queried None h = absurd h
    queried (Some e) (inl mismatch) = absurd
        (let right = changes.accepts schema at.place tree at.has in let wrong = mismatch.1 in cc)
    queried (Some e) (inr (inl overflow)) = elim overflow.1 [
      | inl group ↦ absurd group
      | inr folded ↦ absurd (no_fold_overflows (overlay db []) (by_key tree changes.project).from
          (params ∷ []) refl folded)
    ]
    queried (Some e) (inr (inr limit)) = inl limit

    acts : (rows : List Row)
        → (works schema Enforced 0 tree (taken_by db (set_by rows)) (set_by rows).news ≡ []) ⊎ IsTrue
        (is_parent schema table)
    acts rows = elim (cases_Bool (is_parent schema table)) [
      | inl parent ↦ inr parent
      | inr none ↦ inl (nothing_set_off schema here at.stands (taken_by db (set_by rows)) (set_by rows).news
          none)
    ]

    edit_is : (rows : List Row) (it : Met rows) (stop : Option Error)
        → Edited schema Enforced db (set_by rows) (Err stop) → SetStops stop
    edit_is rows it stop h = go stop (edit_stops schema db (set_by rows) is_plain it.entries it.news it.fits
        (IsTrue (is_parent schema table)) (acts rows) (asks_parent schema (set_by rows) is.free) refl stop h)
      where
        go : (stop : Option Error)
            → EditStops schema db (set_by rows) is_plain it.entries it.news it.fits
            (IsTrue (is_parent schema table))
            (acts rows) (asks_parent schema (set_by rows) is.free) refl stop → SetStops stop
        go None h = h
        go (Some e) (inl taken) = absurd (let right = it.fresh in let wrong = taken.1 in cc)
        go (Some e) (inr (inl unique)) = inr
            (inl (unique.0, forbids schema db table _ _ sound it.after unique.1))
        go (Some e) (inr (inr parent)) = inr (inr parent)

    abbrev task : Task
    task = record { limit = old.step_limit; keys = Enforced; schema = schema; table = here; params = params }

    updates_stop : (stop : Option Error) → Updates task program params db (Err stop) → SetStops stop
    updates_stop stop h = elim (stopped (Queried old.step_limit old.now program params)
        (λ rows. Then (Edited schema Enforced db (set_by rows))
        (λ next. Gives (record { trees = next; rows = (set_by rows).news; last = None }))) stop h) [
          | inl query ↦ queried stop query
          | inr given ↦ elim (stopped (Edited schema Enforced db (set_by given.0))
              (λ next. Gives (record { trees = next; rows = (set_by given.0).news; last = None })) stop
              given.2) [
                | inl edit ↦ edit_is given.0 (met given.0 given.1) stop edit
                | inr done ↦ absurd (never done.2)
              ]
        ]

    -- where no foreign key names the table, each is kept
    kept : is_parent schema table ≡ false → (w : Written) → Updates task program params db (Ok w)
        → Refers All schema db
        → Refers All schema w.trees
    kept none w h refers =
        let given = went h in
        let written = went given.2 in
        let trees : w.trees ≡ written.0 = ap (λ (it : Written). it.trees) (same_value written.2) in
        let still = nothing_set_off schema here at.stands (taken_by db (set_by given.0))
        (set_by given.0).news none in
        let applies = one_step schema Enforced db written.0 (set_by given.0) still written.1 in
        let others = λ (t : Table) (listed : Has schema.tables t). all_has _ schema.tables t applies.tables
        listed in
        subst (Refers All schema) (sym trees)
        (refers_after schema here at.stands db written.0 others (inl none) refers)

    concludes_stop : (w : Written) → Updates task program params db (Ok w) → (stop : Option Error)
        → Concludes task (mode_of old) None w (Err stop) → SetStops stop
    concludes_stop w done stop h = elim (stopped (Tested (mode_of old) (λ among. Refers among schema w.trees))
        (λ in_doubt. Then (Returns task w None) (λ rows.
        Gives (
          record { rows = Some (length w.rows); last = w.last; shown = rows; in_doubt = in_doubt },
          record { schema = schema; trees = w.trees },
        )))
        stop h) [
          | inl tested ↦ subst SetStops (sym tested.1) (elim (cases_Bool (is_parent schema table)) [
            | inl parent ↦ inr (inr (parent, Violates ForeignKey, refl))
            | inr none ↦ absurd (∥∥₁_elim sound (λ x y. absurd x)
                (λ it. tested.0 (kept none w done (it.obeys.rules ForeignKey))))
          ])
          | inr on ↦ elim on.2 [ inl none ↦ absurd (never none.1) | inr last ↦ absurd (never last.2) ]
        ]

    set_stops : (sql : List ℕ) (stop : Option Error)
        → Does old.step_limit (mode_of old) params old.now sql None (Update at.place program) (Err stop)
        → SetStops stop
    set_stops sql stop h = elim (stopped (Updates task program params db) (Concludes task (mode_of old) None)
        stop (rw at.has.listed at h)) [
          | inl first ↦ updates_stop stop first
          | inr rest ↦ concludes_stop rest.0 rest.1 stop rest.2
        ]

    -- ---- the whole

    abbrev command : Command
    command = Update at.place program

    means : Means schema text (length params) command
    means = changes.means schema at.place tree at.has

    answers : (sql : List ℕ) (e : Error) → Stops old new sql command params e
        → SetFails old new table (Forbids schema table (changed change k es)) e
    answers sql e (inl (does, same)) = elim (set_stops sql (Some e) does) [
      | inl limit ↦ inl (inr (inl limit, same))
      | inr (inl unique) ↦ inl (inr (inr unique, same))
      | inr (inr parent) ↦ inr (parent.0, inr ((parent.1, parent.2), same))
    ]
    answers sql e (inr fails) = elim
        (fails_split old new e (HasWideIndex schema table) (IsTrue (is_parent schema table))
        (fails_for old new e _ (HasWideIndex schema table ⊎ IsTrue (is_parent schema table))
        (set_stops sql None) fails)) [
          | inl store ↦ inl (inl store)
          | inr parent ↦ inr (parent.0, inl parent.1)
        ]

    -- why the row under the key can't be changed
    pub refuses_update : (e : Error) → ExecutesInside 0 text params old new (Err e)
        → SetFails old new table (Forbids schema table (changed change k es)) e
    refuses_update e h = elim (stops old new text params command refl e
        (λ c is. let same : means.found ≡ c = same_value (sym means.is ∙ is) in
        subst (λ (c : Compiled). (c.command ≡ command) × (c.returning ≡ None) × (c.formats ≡ [])) same
        (means.meant, means.bare, means.timeless)) h) [
          | inl none ↦ absurd (no_refusal text params command old e means none.0)
          | inr (inl fails) ↦ inl (inl
              (fails_for old new e ⊥ (HasWideIndex schema table) (λ x. absurd x) fails))
          | inr (inr (c, is, how)) ↦ answers (text_of text c) e how
        ]
