-- New rows are put into a table.
use Rattle.sql_meanings.specs.Names.{ℕ, List, [], map, find, length, is_some, Ok, not, true, false, Row, Schema}
use Rattle.sql_meanings.specs.Names.{Trees, Table, Term, Edit, edit_of, edited, are_fresh, left_by, put_all, Chosen}
use Rattle.sql_meanings.specs.Names.{Values, Insert, IsDatabase, value_rows, stamped, State, Executes, AllByRecursion}
use Rattle.sql_meanings.specs.Names.{Enforced, Has, passes_checks, accepts_terms}
use Rattle.sql_meanings.proofs.Names.{refl, sym, ap, subst, ◌∙◌, all_has, not-false, not-true}
use Rattle.sql_meanings.specs.believed.Entries.{HasWidth, Entry, has_key, stored}
use Rattle.sql_meanings.specs.Entries.{AreShort, put}
use Rattle.sql_meanings.specs.{SeveralRows.meets_key, SeveralRows.put_each, Making.SparesTables}
use Rattle.sql_meanings.specs.believed.Tables.{Holds, placed_at, tree_of, width_of}
use Rattle.sql_meanings.proofs.{Statements.HasTable, Means.Means, TablesBeside.standing, PuttingIn.put_in_applies}
use Rattle.sql_meanings.proofs.SeveralRows.{IsRowOf, fresh_each, numbered_each, or_nothing, put_all_stored, tree_each}
use Rattle.sql_meanings.proofs.Writing.{Wrote, inserts, uncounted}
use Rattle.sql_meanings.proofs.TableWrites.{IsPlain, Leaves, steps_by}
use Rattle.std.specs.Prelude.{◌≡◌, ◌∷◌, ◌/◌}

-- a test that fails with another that holds fails itself
-- with these parameters the text puts these rows into the table
pub record PutsEachAs (table : Table) (text : List ℕ) (params : Row) (news : List Entry) : Type 0 where
  pub terms : List Term
  pub width : ℕ
  pub means : (schema : Schema) (p tree : ℕ) → HasTable schema table.name p (placed_at table tree)
      → Means schema text (length params) (Insert p (Values terms width))
  pub gives : (tree : ℕ)
      → value_rows (stamped (placed_at table tree) params) width (length terms / width) terms
      ≡ map stored news
  pub are : AllByRecursion (IsRowOf table) news
  pub accepts : (tree : ℕ) → accepts_terms terms (stamped (placed_at table tree) params) ≡ true

-- with these parameters the text puts this row into the table
pub record PutsAs (table : Table) (text : List ℕ) (params : Row) (new : Entry) : Type 0 where
  pub terms : List Term
  pub width : ℕ
  pub means : (schema : Schema) (p tree : ℕ) → HasTable schema table.name p (placed_at table tree)
      → Means schema text (length params) (Insert p (Values terms width))
  pub gives : (tree : ℕ)
      → value_rows (stamped (placed_at table tree) params) width (length terms / width) terms
      ≡ stored new ∷ []
  pub wide : HasWidth (width_of table) new
  pub short : AreShort new.texts
  pub accepts : (tree : ℕ) → accepts_terms terms (stamped (placed_at table tree) params) ≡ true
  pub passes : passes_checks table (stored new) ≡ true

-- one row is as many as there are
pub puts_one : {table : Table} {text : List ℕ} {params : Row} {new : Entry} → PutsAs table text params new
    → PutsEachAs table text params (new ∷ [])
puts_one puts = record {
  terms = puts.terms;
  width = puts.width;
  means = puts.means;
  gives = puts.gives;
  are = (record { wide = puts.wide; short = puts.short; passes = puts.passes }, tt);
  accepts = puts.accepts;
}

module _ (old new : State) (t : Table) (is : IsPlain (uncounted t)) (sound : ∥ IsDatabase old.now ∥₁)
    (es : List Entry)
    (holds : Holds old.now (uncounted t) es) where
  abbrev table : Table
  table = uncounted t

  abbrev db : Trees
  db = old.now.trees

  abbrev tree : ℕ
  tree = tree_of old.now.schema t.name

  abbrev put_by : List Row → Edit
  put_by rows = edit_of db (placed_at table tree) [] Chosen 0 rows

  spares : (rows : List Row) (count : ℕ) → Wrote old new (put_by rows) count
      → SparesTables old.now new.now t.name
  spares rows count wrote u listed apart = (
    subst (λ (s : Schema). Has s.tables u) (sym wrote.schema) listed,
    all_has _ old.now.schema.tables u (put_in_applies old.now.schema Enforced db new.now.trees
        (put_by rows) refl wrote.step).tables listed apart,
  )

  module _ (text : List ℕ) (params : Row) (news : List Entry)
      (puts : PutsEachAs (uncounted t) text params news) where
    -- what is put in
    pub news_are : (put_by (map stored news)).news ≡ map stored news
    news_are = numbered_each table is (db tree) news puts.are

    -- the rows are put in their places
    pub put_are : edited db (put_by (map stored news)) ≡ map stored (put_each news es)
    put_are = ap (put_all (db tree)) news_are ∙ ap (λ rows. put_all rows (map stored news)) holds.rows.are
        ∙ put_all_stored news es

    -- where their keys are free
    pub fresh_are : are_fresh (left_by db (put_by (map stored news))) (put_by (map stored news)).news
        ≡ not (meets_key news es)
    fresh_are = ap (are_fresh (db tree)) news_are ∙ ap (λ rows. are_fresh rows (map stored news)) holds.rows.are
        ∙ fresh_each news es

    -- where they aren't, a key is taken
    pub taken_are : are_fresh (left_by db (put_by (map stored news))) (put_by (map stored news)).news ≡ false
        → meets_key news es ≡ true
    taken_are h = not-false _ (sym fresh_are ∙ h)

    -- the rows are put in their places, where their keys were free, and every other table is as it was
    pub puts_rows : (count : ℕ) → Executes text params old new (Ok count)
        → Leaves old new table (put_each news es) × (meets_key news es ≡ false)
        × SparesTables old.now new.now t.name
    puts_rows count h =
        let at = standing old.now table is.free sound holds.defined in
        let made = inserts old new text params at.place
        (placed_at t tree) at.has.listed at.stands count puts.terms puts.width
        (puts.means old.now.schema at.place tree at.has) h in
        let wrote : Wrote old new (put_by (map stored news)) count =
        subst (λ rows. Wrote old new (put_by rows) count) (puts.gives tree) made in (
          record {
            rows = edited db (put_by (map stored news));
            steps = steps_by old new (put_by (map stored news)) count t.name refl wrote;
            tree = tree_each table (db tree) (edited db (put_by (map stored news))) news es puts.are put_are
                holds.rows;
            sound = wrote.sound;
            marks = wrote.marks;
          },
          not-true _ (sym fresh_are ∙ wrote.fresh),
          spares (map stored news) count wrote,
        )

  -- the row is put in its place, where its key was free, and every other table is as it was
  pub puts_row : (text : List ℕ) (params : Row) (e : Entry) → PutsAs (uncounted t) text params e → (count : ℕ)
      → Executes text params old new (Ok count)
      → Leaves old new table (put e es) × (is_some (find (has_key e.key) es) ≡ false)
      × SparesTables old.now new.now t.name
  puts_row text params e puts count h =
      let done = puts_rows text params (e ∷ []) (puts_one puts) count h in
      (done.0, sym (or_nothing _) ∙ done.1, done.2)
