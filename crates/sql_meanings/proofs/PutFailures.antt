-- Why rows can't be put in.
use Rattle.sql_meanings.specs.Names.{ℕ, List, [], map, find, length, true, false, None, Some, Option, is_some, Ok, Err}
use Rattle.sql_meanings.specs.Names.{AllByRecursion, Row, Schema, Trees, Table, Edit, edit_of, edited, Values, Command}
use Rattle.sql_meanings.specs.Names.{Insert, Does, Concludes, Returns, Tested, IsDatabase, value_rows, Part, Gives}
use Rattle.sql_meanings.specs.Names.{Edited, Task, Then, Counts, Written, count_of, stamped, State, ExecutesInside}
use Rattle.sql_meanings.specs.Names.{IsUnchanged, mode_of, text_of, Error, SqliteFailure, Chosen, Compiled, fits_i64}
use Rattle.sql_meanings.specs.Names.{ForeignKey, Unique, All, Enforced, Refers, are_fresh, left_by, Has}
use Rattle.sql_meanings.proofs.Names.{inl, inr, refl, sym, ap, subst, ◌∙◌, ∥∥₁_elim, all_has, same_value}
use Rattle.std.proofs.Common.{fold}
use Rattle.sqlite.specs.Rows.{Sourced, Counter, Inserts, higher, last_id}
use Rattle.sqlite_rules.proofs.TableLemmas.{put_all_keeps}
use Rattle.sql_meanings.specs.believed.Entries.{Entry, has_key, stored}
use Rattle.sql_meanings.specs.{Entries.put, SeveralRows.meets_key, SeveralRows.put_each}
use Rattle.sql_meanings.specs.believed.Tables.{Holds, placed_at, tree_of}
use Rattle.sql_meanings.specs.StatementAnswers.{Forbids, HasWideIndex, IsInterrupted, PutFails}
use Rattle.sql_meanings.proofs.{Means.Means, Means.no_refusal, Referring.asks_none, Referring.refers_after}
use Rattle.sql_meanings.proofs.{TablesBeside.Standing, TablesBeside.standing, TableWrites.IsPlain}
use Rattle.sql_meanings.proofs.{TableWrites.plain_at, Stopping.Stops, Stopping.fails_for, Stopping.stops}
use Rattle.sql_meanings.proofs.PutRows.{PutsAs, PutsEachAs, news_are, put_are, puts_one, taken_are}
use Rattle.sql_meanings.proofs.SeveralRows.{IsKey, fit_at, or_nothing}
use Rattle.sql_meanings.proofs.Refusals.{EditStops, IsFit, edit_stops, forbids}
use Rattle.sql_meanings.proofs.PuttingIn.{key_taken, never, none_in, put_in_applies, stopped}
use Rattle.sql_meanings.proofs.Writing.{uncounted, went}
use Rattle.sqlite.specs.declared.error.ErrorCode.TheVariants as code
use Rattle.sqlite_schema.specs.declared.command.Source.TheVariants as from
use Rattle.std.specs.Prelude.{◌≡◌, ◌⊎◌, ◌∷◌, ◌/◌}

module _ (old new : State) (t : Table) (is : IsPlain (uncounted t)) (sound : ∥ IsDatabase old.now ∥₁)
    (es : List Entry)
    (holds : Holds old.now (uncounted t) es)
    (text : List ℕ) (params : Row) (news : List Entry) (puts : PutsEachAs (uncounted t) text params news)
    (low : AllByRecursion IsKey news) where
  abbrev table : Table
  table = uncounted t

  abbrev db : Trees
  db = old.now.trees

  abbrev schema : Schema
  schema = old.now.schema

  abbrev tree : ℕ
  tree = tree_of old.now.schema t.name

  abbrev here : Table
  here = placed_at table tree

  abbrev put_by : List Row → Edit
  put_by rows = edit_of db here [] Chosen 0 rows

  at : Standing schema table
  at = standing old.now table is.free sound holds.defined

  is_plain : IsPlain here
  is_plain = plain_at table tree is

  -- ---- what is put in

  -- the rows that the statement is given
  abbrev source : List Row
  source = value_rows (stamped here params) puts.width (length puts.terms / puts.width) puts.terms

  -- the edit by them
  record Given (rows : List Row) : Type 0 where
    pub news_are : (put_by rows).news ≡ map stored news
    pub after : edited db (put_by rows) ≡ map stored (put_each news es)
    pub taken : are_fresh (left_by db (put_by rows)) (put_by rows).news ≡ false → meets_key news es ≡ true

  given : (rows : List Row) → rows ≡ source → Given rows
  given rows are = subst Given (sym (are ∙ puts.gives tree)) (record {
    news_are = news_are old new t is sound es holds text params news puts;
    after = put_are old new t is sound es holds text params news puts;
    taken = taken_are old new t is sound es holds text params news puts;
  })

  fits : AllByRecursion (IsFit here) news
  fits = fit_at table tree news puts.are low

  -- ---- how each part may stop

  -- why the statement stops: the row can't be stored, or the error that it tells
  abbrev PutStops : Option Error → Type 0
  PutStops None = HasWideIndex schema table
  PutStops (Some error) =
      IsInterrupted old error
      ⊎ (((error ≡ key_taken) × (meets_key news es ≡ true))
      ⊎ ((error ≡ SqliteFailure (code.ConstraintViolation Unique)) × Forbids schema table (put_each news es)))

  sourced : (stop : Option Error)
      → Sourced old.step_limit old.now (stamped here params) (from.Values puts.terms puts.width) (Err stop)
      → PutStops stop
  sourced None h = absurd h
  sourced (Some error) (inl mismatch) = absurd (let right = puts.accepts tree in let wrong = mismatch.1 in cc)
  sourced (Some error) (inr limit) = inl limit

  edit_is : (rows : List Row) (it : Given rows) (stop : Option Error)
      → Edited schema Enforced db (put_by rows) (Err stop) → PutStops stop
  edit_is rows it stop h = go stop (edit_stops schema db (put_by rows) is_plain news it.news_are fits ⊥
      (inl (none_in schema Enforced tree (put_by rows).news schema.tables))
      (asks_none schema (put_by rows) is.free refl) refl stop h)
    where
      go : (stop : Option Error) → EditStops schema db (put_by rows) is_plain news it.news_are fits ⊥
          (inl (none_in schema Enforced tree (put_by rows).news schema.tables))
          (asks_none schema (put_by rows) is.free refl) refl stop
          → PutStops stop
      go None (inl wide) = wide
      go None (inr none) = absurd none
      go (Some error) (inl taken) = inr (inl (taken.0, it.taken taken.1))
      go (Some error) (inr (inl unique)) = inr
          (inr (unique.0, forbids schema db table _ _ sound it.after unique.1))
      go (Some error) (inr (inr none)) = absurd none.0

  abbrev task : Task
  task = record { limit = old.step_limit; keys = Enforced; schema = schema; table = here; params = params }

  abbrev last : List Row → Option Row → Trees → Part Written
  last rows counter mid = Then (Counts task mid counter (fold higher (count_of counter) (put_by rows).news))
      (λ next. Gives (record { trees = next; rows = (put_by rows).news; last = last_id (put_by rows).news }))

  inserts_stop : (stop : Option Error) → Inserts task (from.Values puts.terms puts.width) db (Err stop)
      → PutStops stop
  inserts_stop stop h = elim (stopped
      (Sourced old.step_limit old.now (stamped here params) (from.Values puts.terms puts.width))
      (λ rows. Then (Counter task db)
      (λ counter. Then (Edited schema Enforced db (put_by rows)) (last rows counter))) stop h) [
        | inl values ↦ sourced stop values
        | inr some ↦ elim (stopped (Counter task db)
            (λ counter. Then (Edited schema Enforced db (put_by some.0)) (last some.0 counter))
            stop some.2) [
              | inl none ↦ absurd (never none)
              | inr more ↦ elim (stopped (Edited schema Enforced db (put_by some.0)) (last some.0 more.0)
                  stop more.2) [
                    | inl edit ↦ edit_is some.0 (given some.0 some.1.1) stop edit
                    | inr done ↦ elim done.2 [
                      | inl none ↦ absurd (never none.1)
                      | inr end ↦ absurd
                          (never end.2)
                    ]
                  ]
            ]
      ]

  -- a row more breaks no foreign key
  kept : (w : Written) → Inserts task (from.Values puts.terms puts.width) db (Ok w) → Refers All schema db
      → Refers All schema w.trees
  kept w h refers =
      let some = went h in
      let written = went (went some.2).2 in
      let counted = went written.2 in
      let edit = put_by some.0 in
      let trees : w.trees ≡ written.0 = ap (λ (it : Written). it.trees) (same_value counted.2)
      ∙ same_value counted.1 in
      let applies = put_in_applies schema Enforced db written.0 edit refl written.1 in
      let others = λ (u : Table) (listed : Has schema.tables u). all_has _ schema.tables u applies.tables
      listed in
      let grows = λ (r : Row) (there : Has (db tree) r). subst (λ rows. Has rows r) (sym applies.rows)
      (put_all_keeps edit.news (db tree) r applies.fresh there) in
      subst (Refers All schema) (sym trees)
      (refers_after schema here at.stands db written.0 others (inr grows) refers)

  concludes_stop : (w : Written) → Inserts task (from.Values puts.terms puts.width) db (Ok w)
      → (stop : Option Error)
      → Concludes task (mode_of old) None w (Err stop) → PutStops stop
  concludes_stop w done stop h = elim (stopped (Tested (mode_of old) (λ among. Refers among schema w.trees))
      (λ in_doubt. Then (Returns task w None) (λ rows.
      Gives (
        record { rows = Some (length w.rows); last = w.last; shown = rows; in_doubt = in_doubt },
        record { schema = schema; trees = w.trees },
      )))
      stop h) [
        | inl tested ↦ absurd (∥∥₁_elim sound (λ x y. absurd x)
            (λ it. tested.0 (kept w done (it.obeys.rules ForeignKey))))
        | inr on ↦ elim on.2 [ inl none ↦ absurd (never none.1) | inr end ↦ absurd (never end.2) ]
      ]

  put_stops : (sql : List ℕ) (stop : Option Error)
      → Does old.step_limit (mode_of old) params old.now sql None
      (Insert at.place (Values puts.terms puts.width)) (Err stop) → PutStops stop
  put_stops sql stop h = elim (stopped (Inserts task (from.Values puts.terms puts.width) db)
      (Concludes task (mode_of old) None) stop
      (rw at.has.listed at h)) [
        | inl first ↦ inserts_stop stop first
        | inr rest ↦ concludes_stop rest.0 rest.1 stop rest.2
      ]

  -- ---- the whole

  abbrev command : Command
  command = Insert at.place (Values puts.terms puts.width)

  means : Means schema text (length params) command
  means = puts.means schema at.place tree at.has

  -- the key is taken, or why else the row can't be put in
  abbrev pub Refuses : Error → Type 0
  Refuses error =
      ((error ≡ key_taken) × (meets_key news es ≡ true) × IsUnchanged old new)
      ⊎ PutFails old new table (Forbids schema table (put_each news es)) error

  answers : (sql : List ℕ) (error : Error) → Stops old new sql command params error → Refuses error
  answers sql error (inl (does, same)) = elim (put_stops sql (Some error) does) [
    | inl limit ↦ inr (inr (inl limit, same))
    | inr (inl taken) ↦ inl (taken.0, taken.1, same)
    | inr (inr unique) ↦ inr (inr (inr unique, same))
  ]
  answers sql error (inr fails) = inr
      (inl (fails_for old new error _ (HasWideIndex schema table) (put_stops sql None) fails))

  -- why it can't
  pub refuses_rows : (error : Error) → ExecutesInside 0 text params old new (Err error) → Refuses error
  refuses_rows error h = elim (stops old new text params command refl error
      (λ c is. let same : means.found ≡ c = same_value (sym means.is ∙ is) in
      subst (λ (c : Compiled). (c.command ≡ command) × (c.returning ≡ None) × (c.formats ≡ [])) same
      (means.meant, means.bare, means.timeless)) h) [
        | inl none ↦ absurd (no_refusal text params command old error means none.0)
        | inr (inl fails) ↦ inr (inl
            (fails_for old new error ⊥ (HasWideIndex schema table) (λ x. absurd x) fails))
        | inr (inr (c, is, how)) ↦ answers (text_of text c) error how
      ]

module _ (old new : State) (t : Table) (is : IsPlain (uncounted t)) (sound : ∥ IsDatabase old.now ∥₁)
    (es : List Entry)
    (holds : Holds old.now (uncounted t) es)
    (text : List ℕ) (params : Row) (e : Entry) (puts : PutsAs (uncounted t) text params e)
    (low : fits_i64 e.key ≡ true) where
  -- why one row can't
  pub refuses_insert : (error : Error) → ExecutesInside 0 text params old new (Err error)
      → ((error ≡ key_taken) × (is_some (find (has_key e.key) es) ≡ true) × IsUnchanged old new)
      ⊎ PutFails old new (uncounted t) (Forbids old.now.schema (uncounted t) (put e es)) error
  refuses_insert error h = elim (refuses_rows old new t is sound es holds text params (e ∷ []) (puts_one puts)
      (low, tt) error h) [
        | inl taken ↦ inl (taken.0, sym (or_nothing _) ∙ taken.1, taken.2)
        | inr fails ↦ inr fails
      ]
