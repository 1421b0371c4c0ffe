-- Why a CREATE TABLE inside a transaction fails, and what it tells.
use Rattle.sql_meanings.specs.Names.{ℕ, true, false, codes, List, [], length, None, Some, Option, Ok, Err, Result}
use Rattle.sql_meanings.specs.Names.{IsTrue, Table, automatics, created, is_used, next_tree, CreateTable}
use Rattle.sql_meanings.specs.Names.{table_defined_by, Does, MakesSequence, MakesTable, lacks_sequence, no_rows}
use Rattle.sql_meanings.specs.Names.{sequence_text, Database, Gives, Then, State, ExecutesInside, IsNoStatement}
use Rattle.sql_meanings.specs.Names.{mode_of, Error, IsBadName, is_fit, is_formed, Index, index_reals, table_reals}
use Rattle.sql_meanings.specs.Names.{Has, Text}
use Rattle.sql_meanings.proofs.Names.{inl, inr, refl, sym, ap, subst, ◌∙◌, arith, cases_Bool}
use Rattle.std.proofs.Common.{◌*◌}
use Rattle.sqlite.specs.Effect.{alter_error}
use Rattle.sqlite_catalog.specs.{Calls.RefusesTable, declared.error.Refusal.Refusal}
use Rattle.sqlite_catalog.specs.declared.error.Refusal.TheVariants.{Invalid, NameTaken, BadName, TooBig, BadKey}
use Rattle.sqlite_catalog.specs.declared.error.Refusal.TheVariants.{BadText, Violates}
use Rattle.sql_meanings.specs.Making.{CreatesOnly, IsMakeable, NotMade, RefusesNew}
use Rattle.sql_meanings.specs.StatementAnswers.{MakeFails, MakesTold}
use Rattle.sql_meanings.proofs.{Makings.made_by, NumberRows.none_indexed, Stopping.Stops, Stopping.fails_for}
use Rattle.sql_meanings.proofs.{Stopping.stops, PuttingIn.never, PuttingIn.stopped, Names.same_value}
use Rattle.std.specs.Prelude.{◌≡◌, ◌⊎◌, ◌+◌, ◌^◌, ◌==◌, ◌≤◌}

module _ (text : List ℕ) (t : Table) (make : IsMakeable text t) (db : Database) where
  -- what is said of the table that the text defines is said of this one
  of_it : (P : Table → Type 0) → (u : Table) × (table_defined_by text ≡ Ok u) × P u → P t
  of_it P (u, is, h) = subst P (same_value (sym is ∙ make.defined)) h

  no_wide : (key : List ℕ) → index_reals (table_reals t) key ≡ 0
  no_wide key = ap (λ n. index_reals n key) make.integral ∙ none_indexed key

  full : (65536 ≤ next_tree db.schema + length t.uniques)
      ⊎ ((2 ^ 64 ≤ table_reals t)
      ⊎ ((key : List ℕ) × Has t.uniques key × (2 ^ 64 ≤ index_reals (table_reals t) key)))
      → 65536 ≤ next_tree db.schema + length t.uniques
  full (inl h) = h
  full (inr (inl wide)) = absurd (let none = make.integral in omega arith)
  full (inr (inr (key, there, wide))) = absurd (let none = no_wide key in omega arith)

  refused : (why : Refusal) → RefusesTable db.schema text why → RefusesNew db.schema t (alter_error why)
  refused (Invalid e) h = absurd (let d = make.defined in cc)
  refused NameTaken h = inl (
    refl,
    of_it (λ u. (is_used db.schema u.name ≡ true)
        ⊎ ((i : Index) × Has (automatics u 0 0 u.uniques) i × (is_used db.schema i.name ≡ true))) h,
  )
  refused BadName h = absurd (make.allowed (of_it (λ u. IsBadName u.name (length u.uniques == 0)) h))
  refused TooBig h = inr (
    refl,
    full (of_it (λ u. (65536 ≤ next_tree db.schema + length u.uniques)
        ⊎ ((2 ^ 64 ≤ table_reals u) ⊎ ((key : List ℕ) × Has u.uniques key
        × (2 ^ 64 ≤ index_reals (table_reals u) key)))) h),
  )
  refused BadKey h = absurd (let yes_formed = make.formed in
      let not_formed = of_it (λ u. is_formed u ≡ false) h in cc)
  refused BadText h = absurd (let fits = make.fit in
      let not_fit = of_it (λ u. is_fit (Text (codes "table")) (Text u.name) (Text u.name) (Text text) ≡
      false) h in cc)
  refused (Violates rule) h = absurd h

  -- why the table is refused
  pub makes_err : (e : Error) → MakesTable text db (Err (Some e)) → RefusesNew db.schema t e
  makes_err e (inl none) = absurd (none.0 make.utf8)
  makes_err e (inr (why, h, is)) = subst (RefusesNew db.schema t) (sym is) (refused why h)

  -- it can be stored
  pub makes_short : ¬ MakesTable text db (Err None)
  makes_short h = let long = of_it (λ u. 10 ^ 9 ≤ 2 * length u.name + length text + 200) h in let short =
      make.short in absurd (omega arith)

  -- the new schema
  pub makes_ok : (after : Database) → MakesTable text db (Ok after) → after.schema ≡ created db.schema t
  makes_ok after made = made.is ∙ ap (created db.schema) (same_value (sym made.defined ∙ make.defined))

module _ (old new : State) (text : List ℕ) (t : Table) (creates : CreatesOnly text t) (counts : Table)
    (sequence : IsMakeable sequence_text counts)
  where
    -- why the command stops: it always can be stored, so it tells an error
    abbrev MakeStops : Option Error → Type 0
    MakeStops None = ⊥
    MakeStops (Some e) = NotMade old.now.schema text t e

    first : (stop : Option Error) → MakesTable text old.now (Err stop) → MakeStops stop
    first None h = absurd (makes_short text t creates.makeable old.now h)
    first (Some e) h = inr (inl (makes_err text t creates.makeable old.now e h))

    second : (mid : Database) → MakesTable text old.now (Ok mid) → (stop : Option Error)
        → IsTrue (lacks_sequence mid.schema)
        → MakesTable sequence_text mid (Err stop) → MakeStops stop
    second mid made None lacks h = absurd (makes_short sequence_text counts sequence mid h)
    second mid made (Some e) lacks h =
        let is = makes_ok text t creates.makeable old.now mid made in
        inr (inr (
          subst (λ s. IsTrue (lacks_sequence s)) is lacks,
          counts,
          sequence.defined,
          subst (λ s. RefusesNew s counts e) is (makes_err sequence_text counts sequence mid e h),
        ))

    after_first : (mid : Database) → MakesTable text old.now (Ok mid) → (stop : Option Error)
        → MakesSequence mid (Err stop) → MakeStops stop
    after_first mid made stop h = elim (cases_Bool (lacks_sequence mid.schema)) [
      | inl lacks ↦ second mid made stop lacks (rw lacks at h)
      | inr has ↦ absurd (never (rw has at h))
    ]

    make_stops : (stop : Option Error)
        → Does old.step_limit (mode_of old) [] old.now text None CreateTable (Err stop) → MakeStops stop
    make_stops stop h = elim (stopped (Then (MakesTable text old.now) MakesSequence)
        (λ (db : Database). Gives (no_rows false, db)) stop h) [
          | inl both ↦ elim (stopped (MakesTable text old.now) MakesSequence stop both) [
            | inl table ↦ first stop table
            | inr (mid, made, rest) ↦ after_first mid made stop rest
          ]
          | inr (db, made, gives) ↦ absurd (never gives)
        ]

    not_run : (e : Error) → IsNoStatement old text [] e → NotMade old.now.schema text t e
    not_run e (inl h) = inl h
    not_run e (inr (c, is, inl tail)) = absurd (tail.0 (creates.command old.now.schema c is).whole)
    not_run e (inr (c, is, inr (inl count))) = absurd
        (count.0 (sym (ap length (creates.command old.now.schema c is).nameless)))
    not_run e (inr (c, is, inr (inr clock))) = absurd (clock.0 (creates.command old.now.schema c is).timeless)

    answers : (e : Error) → Stops old new text CreateTable [] e → MakeFails old new text t e
    answers e (inl (does, same)) = inr (make_stops (Some e) does, same)
    answers e (inr fails) = inl (fails_for old new e _ ⊥ (make_stops None) fails)

    -- why it can't be made
    pub refuses_create : (e : Error) → ExecutesInside 0 text [] old new (Err e) → MakeFails old new text t e
    refuses_create e h = elim (stops old new text [] CreateTable refl e
        (λ c is. let it = creates.command old.now.schema c is in
        (it.command, it.bare, it.timeless)) h) [
          | inl none ↦ inr (not_run e none.0, none.1)
          | inr (inl fails) ↦ inl fails
          | inr (inr (c, is, how)) ↦ answers e
              (subst (λ sql. Stops old new sql CreateTable [] e)
              (creates.command old.now.schema c is).text_is how)
        ]

    -- what it tells
    pub makes_told : (r : Result ℕ Error) → ExecutesInside 0 text [] old new r → MakesTold old new text t r
    makes_told (Ok count) h = made_by old new text t count creates h.0
    makes_told (Err e) h = refuses_create e h
