-- An INSERT of values or an UPDATE leaves every table but its own, whatever the schema makes of it.
use Rattle.sql_meanings.specs.Names.{ℕ, List, [], false, Some, None, Option, Ok, Err, slice_get, ℤ, AllByRecursion}
use Rattle.sql_meanings.specs.Names.{Expr, Rows, Parsed, table_named, Program, Keys, Command, Insert, Update, Does}
use Rattle.sql_meanings.specs.Names.{Tally, Database, Edit, if_select, is_select, listing_schema, reads_listing}
use Rattle.sql_meanings.specs.Names.{understood, Mode, Row, Counts, Task, Written, count_of, sequence, Schema, State}
use Rattle.sql_meanings.specs.Names.{Executes, ExecutesIn, mode_of, shows_rows, text_of, Table, Trees, command}
use Rattle.sql_meanings.specs.Names.{compiled, first, insert, insert_or_abort, meaning, planned, returning}
use Rattle.sql_meanings.specs.Names.{formats_of, new_rows, shows, small, timed, update, program, Checked, and_then}
use Rattle.sql_meanings.specs.Names.{Name, Compiled, CompileError, Writes, taken_by}
use Rattle.sql_meanings.proofs.Names.{inl, inr, refl, sym, ap, subst, ◌∙◌, cases_Bool, same_value}
use Rattle.sqlite_schema.specs.declared.command.Returning.{Returning}
use Rattle.sqlite.specs.{Rows.CountsIn, Rows.counting, Source.Source}
use Rattle.std.specs.Ordering.{int_cmp, is_lt}
use Rattle.sqlite.specs.State.{Runs, Writes as WritesNow}
use Rattle.sqlite.specs.Clock.{timed as with_time}
use Rattle.sqlite_resolve.specs.{Compile.on_table, Compile.target, Body.table_at, Write.updated, Lowering.or_else}
use Rattle.sql_meanings.specs.{believed.Making.Stands, believed.Tables.tree_of}
use Rattle.sql_meanings.proofs.Actions.{apart_from, good_works, settles}
use Rattle.sql_meanings.proofs.Writing.{went}
use Rattle.sql_meanings.specs.believed.Sparing.{IsNot, SparesAllBut, sequence_name}
use Rattle.sqlite_ast.specs.declared.Conflict.TheVariants as conflict
use Rattle.sqlite_ast.specs.declared.Statement.TheVariants as written
use Rattle.std.specs.Prelude.{◌≡◌, ◌≢◌, ◌+◌, ◌∷◌, ◌++◌, if◌then◌else◌}

-- ---- an edit

-- a write that is done leaves every other table that stands
pub edit_spares : (schema : Schema) (keys : Keys) (db next : Trees) (edit : Edit)
    → Writes schema keys db edit (Ok next) → (t : Table) → Stands schema t → t.tree ≢ edit.table.tree
    → next t.tree ≡ db t.tree
edit_spares schema keys db next edit (inl refused) t stands other = absurd (let e = refused.2 in cc)
edit_spares schema keys db next edit (inr (inl big)) t stands other = absurd (let e = big.3 in cc)
edit_spares schema keys db next edit (inr (inr on)) t stands other =
    settles schema keys t stands on.2.0 next on.0 _
    (good_works schema keys 0 edit.table.tree (taken_by db edit) edit.news) on.2.1
    ∙ apart_from schema keys t stands db on.0 edit other on.1

-- ---- what a text compiles to, under any schema

-- a part that is done
done : {A B : Type 0} (r : Checked A) (f : A → Checked B) (b : B) → and_then r f ≡ Ok b
    → (a : A) × (r ≡ Ok a) × (f a ≡ Ok b)
done (Ok a) f b h = (a, refl, h)
done (Err e) f b h = absurd (cc)

found_in : {A : Type 0} (o : Option A) (e : CompileError) (a : A) → or_else o e ≡ Ok a → o ≡ Some a
found_in (Some x) e a h = cc
found_in None e a h = absurd (cc)

-- the table of a name, and its place
pub record IsAt (schema : Schema) (name : Name) (p : ℕ) (table : Table) : Type 0 where
  pub named : table_named schema name ≡ Some p
  pub listed : slice_get schema.tables p ≡ Some table

-- a name's table has the tree of that name
pub at_tree : (schema : Schema) (name : Name) (p : ℕ) (table : Table) → IsAt schema name p table
    → tree_of schema name ≡ table.tree
at_tree schema name p table at = rw (at.named, at.listed) refl

-- the command changes rows of the table of this name
pub record ChangesIn (schema : Schema) (name : Name) (k : Command) : Type 0 where
  pub place : ℕ
  pub table : Table
  pub query : Program
  pub at : IsAt schema name place table
  pub is : k ≡ Update place query

-- the command puts rows into it
pub record PutsInto (schema : Schema) (name : Name) (k : Command) : Type 0 where
  pub place : ℕ
  pub table : Table
  pub from : Source
  pub at : IsAt schema name place table
  pub is : k ≡ Insert place from

-- a text that is an UPDATE of the table
pub record IsUpdateOf (text : List ℕ) (name : Name) : Type 0 where
  pub P : Parsed
  pub sets : List (Name × Expr)
  pub test : Option Expr
  pub parsed : first text ≡ Ok P
  pub is : P.statement ≡ written.Update name sets test []

-- or an INSERT into it
pub record IsInsertInto (text : List ℕ) (name : Name) : Type 0 where
  pub P : Parsed
  pub columns : List Name
  pub rows : Rows
  pub parsed : first text ≡ Ok P
  pub is : P.statement ≡ written.Insert conflict.Abort name columns rows [] []

-- a text is one where that computes
abbrev pub update_of : (text : List ℕ) (name : Name) (P : Parsed) (sets : List (Name × Expr)) (test : Option Expr)
    → first text ≡ Ok P → P.statement ≡ written.Update name sets test [] → IsUpdateOf text name
update_of text name P sets test parsed is =
    record { P = P; sets = sets; test = test; parsed = parsed; is = is }

abbrev pub insert_of : (text : List ℕ) (name : Name) (P : Parsed) (columns : List Name) (rows : Rows)
    → first text ≡ Ok P → P.statement ≡ written.Insert conflict.Abort name columns rows [] []
    → IsInsertInto text name
insert_of text name P columns rows parsed is =
    record { P = P; columns = columns; rows = rows; parsed = parsed; is = is }

module _ (schema : Schema) (name : Name) where
  -- what is done on the table of the name
  on_table_done : (f : ℕ → Table → Checked Command) (k : Command) → on_table schema name f ≡ Ok k
      → (p : ℕ) × (table : Table) × IsAt schema name p table × (f p table ≡ Ok k)
  on_table_done f k h =
      let at = done (target schema name) (λ p. and_then (table_at schema p) (f p)) k h in
      let table = done (table_at schema at.0) (f at.0) k at.2 in (
        at.0,
        table.0,
        record { named = found_in _ _ at.0 at.1; listed = found_in _ _ table.0 table.1 },
        table.2,
      )

  update_writes : (sets : List (Name × Expr)) (test : Option Expr) (k : Command)
      → update schema name sets test ≡ Ok k → ChangesIn schema name k
  unfolding update
  update_writes sets test k h =
      let on = on_table_done (λ at table. and_then (updated schema at table sets test)
      (λ d. and_then (program schema [] d) (λ p. Ok (Update at p)))) k h in
      let draft = done (updated schema on.0 on.1 sets test)
      (λ d. and_then (program schema [] d) (λ p. Ok (Update on.0 p))) k on.3 in
      let query = done (program schema [] draft.0) (λ p. Ok (Update on.0 p)) k draft.2 in
      record { place = on.0; table = on.1; query = query.0; at = on.2; is = sym (same_value query.2) }

  insert_writes : (base : ℕ) (columns : List Name) (rows : Rows) (k : Command)
      → insert_or_abort schema base name columns rows [] ≡ Ok k → PutsInto schema name k
  unfolding insert insert_or_abort
  insert_writes base columns rows k h =
      let on = on_table_done (λ at table. and_then (new_rows schema table base columns rows) (λ s. Ok (Insert at s)))
      k h in
      let source = done (new_rows schema on.1 base columns rows) (λ s. Ok (Insert on.0 s)) k on.3 in
      record { place = on.0; table = on.1; from = source.0; at = on.2; is = sym (same_value source.2) }

  module _ (text : List ℕ) (P : Parsed) (c : Compiled) (parsed : first text ≡ Ok P)
      (h : compiled schema text ≡ Ok c) where
    updated_as : (sets : List (Name × Expr)) (test : Option Expr) → P.statement ≡ written.Update name sets test []
        → (r : Checked Command) → update schema name sets test ≡ r → r ≡ Ok c.command
    unfolding compiled planned timed meaning returning command shows
    updated_as sets test is (Ok k) made =
        let whole = rw (parsed, is, made) at h in ap Ok (ap (λ (it : Compiled). it.command) (same_value whole))
    updated_as sets test is (Err e) made = absurd (let whole = rw (parsed, is, made) at h in cc)

    abbrev base : ℕ
    base = small P.names + small (P.formats ++ formats_of schema name)

    inserted_as : (columns : List Name) (rows : Rows)
        → P.statement ≡ written.Insert conflict.Abort name columns rows [] []
        → (r : Checked Command) → insert_or_abort schema base name columns rows [] ≡ r → r ≡ Ok c.command
    unfolding compiled planned timed meaning returning command shows
    inserted_as columns rows is (Ok k) made =
        let whole = rw (parsed, is, made) at h in ap Ok (ap (λ (it : Compiled). it.command) (same_value whole))
    inserted_as columns rows is (Err e) made = absurd (let whole = rw (parsed, is, made) at h in cc)

  update_compiled : (text : List ℕ) → IsUpdateOf text name → (c : Compiled) → compiled schema text ≡ Ok c
      → ChangesIn schema name c.command
  update_compiled text it c h =
      update_writes it.sets it.test c.command (updated_as text it.P c it.parsed h it.sets it.test it.is _ refl)

  insert_compiled : (text : List ℕ) → IsInsertInto text name → (c : Compiled) → compiled schema text ≡ Ok c
      → PutsInto schema name c.command
  insert_compiled text it c h =
      insert_writes (base text it.P c it.parsed h) it.columns it.rows c.command
      (inserted_as text it.P c it.parsed h it.columns it.rows it.is _ refl)

-- what is no query is never read of the listing
as_compiled : (schema : Schema) (text : List ℕ)
    → ((d : Compiled) → compiled listing_schema text ≡ Ok d → is_select d.command ≡ false)
    → (c : Compiled) → understood schema text ≡ Ok c → compiled schema text ≡ Ok c
unfolding understood
as_compiled schema text writes c h = elim (cases_Bool (reads_listing schema text)) [
  | inl lists ↦ absurd (none (compiled listing_schema text) refl (rw lists at h))
  | inr own ↦ rw own at h
]
  where
    none : (r : Checked Compiled) → compiled listing_schema text ≡ r → if_select r ≡ Ok c → ⊥
    none (Err e) is h = let it = h in cc
    none (Ok d) is h = let it = rw (writes d is) at h in cc

-- under any schema an UPDATE changes rows of its table
pub update_understood : (schema : Schema) (name : Name) (text : List ℕ) → IsUpdateOf text name → (c : Compiled)
    → understood schema text ≡ Ok c → ChangesIn schema name c.command
update_understood schema name text it c h =
    update_compiled schema name text it c (as_compiled schema text (λ d is.
    ap is_select (update_compiled listing_schema name text it d is).is) c h)

-- and an INSERT puts rows into its table
pub insert_understood : (schema : Schema) (name : Name) (text : List ℕ) → IsInsertInto text name → (c : Compiled)
    → understood schema text ≡ Ok c → PutsInto schema name c.command
insert_understood schema name text it c h =
    insert_compiled schema name text it c (as_compiled schema text (λ d is.
    ap is_select (insert_compiled listing_schema name text it d is).is) c h)

-- ---- what is run

-- a statement that is done ran its command
ran : (old new : State) (text : List ℕ) (params : Row) (count : ℕ) → Executes text params old new (Ok count)
    → (c : Compiled) × (given : Row) × (understood old.now.schema text ≡ Ok c)
    × Runs old new c.returning c.command (text_of text c) given count
unfolding ExecutesIn
ran old new text params count h = (
  h.0,
  with_time params h.0.formats h.1.now,
  h.1.is,
  elim (cases_Bool (shows_rows false h.0)) [
    | inl shows ↦ absurd (let e = (rw shows at h.2).0 in cc)
    | inr runs ↦ rw runs at h.2
  ],
)

module _ (limit : Option ℕ) (mode : Mode) (params : Row) (db : Database) (text : List ℕ)
    (returning : Option Returning) (p : ℕ) (table : Table) (listed : slice_get db.schema.tables p ≡ Some table)
    (tally : Tally) (after : Database) where
  update_spares : (q : Program) → Does limit mode params db text returning (Update p q) (Ok (tally, after))
      → (after.schema ≡ db.schema) × ((t : Table) → Stands db.schema t → t.tree ≢ table.tree
      → after.trees t.tree ≡ db.trees t.tree)
  update_spares q h =
      let it = went (rw listed at h) in
      let last = same_value (went (went it.2).2).2 in
      let given = went it.1 in
      let wrote = went given.2 in
      let made = same_value wrote.2 in
      let now : after ≡ record { schema = db.schema; trees = it.0.trees } = ap
      (λ (x : Tally × Database). x.1) last in
      let trees : it.0.trees ≡ wrote.0 = ap (λ (x : Written). x.trees) made in (
        ap (λ (d : Database). d.schema) now,
        λ t stands other. ap (λ (d : Database). d.trees t.tree) now ∙ ap (λ (x : Trees). x t.tree) trees
            ∙ edit_spares db.schema mode.keys db.trees wrote.0 _ wrote.1 t stands other,
      )

-- the count of AUTOINCREMENT is kept in its own table
counts_spare : (task : Task) (mid next : Trees) (counter : Option Row) (top : ℤ)
    → Counts task mid counter top (Ok next) → (t : Table) → Stands task.schema t
    → t.tree ≢ tree_of task.schema sequence_name → next t.tree ≡ mid t.tree
counts_spare task mid next counter top h t stands other = elim
    (cases_Bool (if task.table.is_counted then is_lt (int_cmp (count_of counter) top) else false)) [
      | inl counts ↦ inside (sequence task.schema) refl (rw counts at h)
      | inr none ↦ ap (λ (x : Trees). x t.tree) (same_value (rw none at h))
    ]
  where
    counted_in : (counters : Table) → (counting mid task.table counters top counter).table ≡ counters
    counted_in counters = elim counter as (λ c. (counting mid task.table counters top c).table ≡ counters) [
      | None ↦ refl
      | Some row ↦ refl
    ]

    inside : (o : Option Table) → sequence task.schema ≡ o → CountsIn task mid counter top o (Ok next)
        → next t.tree ≡ mid t.tree
    inside None is h = absurd (let e = h in cc)
    inside (Some counters) is h =
        let place : tree_of task.schema sequence_name ≡ counters.tree = rw is refl in
        edit_spares task.schema task.keys mid next (counting mid task.table counters top counter) h t stands
        (λ same. other (same ∙ ap (λ (x : Table). x.tree) (counted_in counters) ∙ sym place))

module _ (limit : Option ℕ) (mode : Mode) (params : Row) (db : Database) (text : List ℕ)
    (returning : Option Returning) (p : ℕ) (table : Table) (listed : slice_get db.schema.tables p ≡ Some table)
    (tally : Tally) (after : Database) where
  insert_spares : (from : Source) → Does limit mode params db text returning (Insert p from) (Ok (tally, after))
      → (after.schema ≡ db.schema) × ((t : Table) → Stands db.schema t → t.tree ≢ table.tree
      → t.tree ≢ tree_of db.schema sequence_name → after.trees t.tree ≡ db.trees t.tree)
  insert_spares from h =
      let it = went (rw listed at h) in
      let last = same_value (went (went it.2).2).2 in
      let given = went it.1 in
      let counter = went given.2 in
      let wrote = went counter.2 in
      let counted = went wrote.2 in
      let made = same_value counted.2 in
      let now : after ≡ record { schema = db.schema; trees = it.0.trees } = ap
      (λ (x : Tally × Database). x.1) last in
      let trees : it.0.trees ≡ counted.0 = ap (λ (x : Written). x.trees) made in
      let task : Task = record {
        limit = limit;
        keys = mode.keys;
        schema = db.schema;
        table = table;
        params = params;
      } in (
        ap (λ (d : Database). d.schema) now,
        λ t stands other apart. ap (λ (d : Database). d.trees t.tree) now ∙ ap (λ (x : Trees). x t.tree) trees
            ∙ counts_spare task wrote.0 counted.0 counter.0 _ counted.1 t stands apart
            ∙ edit_spares db.schema mode.keys db.trees wrote.0 _ wrote.1 t stands other,
      )

-- ---- what is left of the others

module _ (old new : State) (text : List ℕ) (name : Name) (params : Row) (count : ℕ)
    (h : Executes text params old new (Ok count)) where
  -- an UPDATE that is done leaves every table but its own
  pub update_leaves : IsUpdateOf text name → SparesAllBut (name ∷ []) old.now new.now
  update_leaves is =
      let it = ran old new text params count h in
      let on = update_understood old.now.schema name text is it.0 it.2 in
      let w : WritesNow old new it.0.returning (Update on.place on.query) (text_of text it.0) it.1 count =
      rw on.is at it.3 in
      let left = update_spares old.step_limit (mode_of old) it.1 old.now (text_of text it.0) it.0.returning
      on.place on.table on.at.listed w.tally new.now on.query w.changed in
      let place = at_tree old.now.schema name on.place on.table on.at in
      record { schema = left.0; rows = λ t stands apart. left.1 t stands (λ same. apart.0 (same ∙ sym place)) }

  -- an INSERT that is done leaves every table but its own, and the one in which SQLite counts
  pub insert_leaves : IsInsertInto text name → SparesAllBut (sequence_name ∷ name ∷ []) old.now new.now
  insert_leaves is =
      let it = ran old new text params count h in
      let on = insert_understood old.now.schema name text is it.0 it.2 in
      let w : WritesNow old new it.0.returning (Insert on.place on.from) (text_of text it.0) it.1 count =
      rw on.is at it.3 in
      let left = insert_spares old.step_limit (mode_of old) it.1 old.now (text_of text it.0) it.0.returning
      on.place on.table on.at.listed w.tally new.now on.from w.changed in
      let place = at_tree old.now.schema name on.place on.table on.at in
      record {
        schema = left.0;
        rows = λ t stands apart. left.1 t stands (λ same. apart.1.0 (same ∙ sym place)) apart.0;
      }

-- ---- one after another

-- what is spared by more names is spared
pub spares_more : (names more : List Name) (old new : Database)
    → ((t : Table) → AllByRecursion (IsNot old.schema t) more → AllByRecursion (IsNot old.schema t) names)
    → SparesAllBut names old new → SparesAllBut more old new
spares_more names more old new within spares = record {
  schema = spares.schema;
  rows = λ t stands apart. spares.rows t stands (within t apart);
}

-- nothing was written
pub spares_itself : (names : List Name) (db : Database) → SparesAllBut names db db
spares_itself names db = record { schema = refl; rows = λ t stands apart. refl }

pub spares_same : (names : List Name) (old new : Database) → new ≡ old → SparesAllBut names old new
spares_same names old new same = subst (SparesAllBut names old) (sym same) (spares_itself names old)

-- two writes
pub spares_then : (names : List Name) (old mid new : Database) → SparesAllBut names old mid
    → SparesAllBut names mid new → SparesAllBut names old new
spares_then names old mid new one two = record {
  schema = two.schema ∙ one.schema;
  rows = λ t stands apart. two.rows t (subst (λ s. Stands s t) (sym one.schema) stands)
      (subst (λ s. AllByRecursion (IsNot s t) names) (sym one.schema) apart) ∙ one.rows t stands apart;
}
