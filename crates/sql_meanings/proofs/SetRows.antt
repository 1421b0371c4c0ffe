-- One column is written under a key.
use Rattle.sql_meanings.specs.Names.{ℕ, ℤ, List, [], map, find, length, None, Some, Option, is_some, Ok, Bool, cond}
use Rattle.sql_meanings.specs.Names.{true, false, Null, Int, Row, overlay, Schema, Trees, put_row, without_rowid}
use Rattle.sql_meanings.specs.Names.{Table, Term, eval_all, Edit, edit_of, edited, ids_of, passes_checks}
use Rattle.sql_meanings.specs.Names.{accepts_program, Given, Update, IsDatabase, State, Executes}
use Rattle.sql_meanings.proofs.Names.{refl, sym, ap, subst, ◌∙◌}
use Rattle.sql_meanings.specs.believed.Entries.{HasWidth, Entry, IsTree, has_key, stored}
use Rattle.sql_meanings.specs.{Entries.changed, Entries.listed, Entries.put, Queries.by_key}
use Rattle.sql_meanings.specs.believed.Tables.{Holds, placed_at, tree_of, width_of, texts_of}
use Rattle.sql_meanings.proofs.{Statements.HasTable, Means.Means, KeyedAnswers.keyed_answer, ReadTables.under_overlay}
use Rattle.sql_meanings.proofs.{TablesBeside.standing, Writing.updates}
use Rattle.sql_meanings.proofs.Changes.{none_changed, put_changed, tree_put, found_all}
use Rattle.sql_meanings.proofs.EntryLists.{put_stored, put_without, without, without_stored}
use Rattle.sql_meanings.proofs.TableWrites.{cast_is, none_short, IsPlain, Leaves, steps_by}
use Rattle.std.specs.Prelude.{◌≡◌, ◌∷◌}

-- with these parameters the text changes so the row under the key
pub record ChangesAs (table : Table) (text : List ℕ) (k : ℤ) (more : Row)
    (change : Entry → Entry) : Type 0 where
  pub project : List Term
  pub means : (schema : Schema) (p tree : ℕ) → HasTable schema table.name p (placed_at table tree)
      → Means schema text (length (Int k ∷ more))
      (Update p (record { lets = []; body = by_key tree project }))
  pub projects : (e : Entry) → HasWidth (width_of table) e
      → eval_all project ((Int k ∷ more) ∷ stored e ∷ []) ≡ Int e.key ∷ stored (change e)
  pub keeps_key : (e : Entry) → (change e).key ≡ e.key
  pub keeps_width : (e : Entry) → HasWidth (width_of table) e → HasWidth (width_of table) (change e)
  pub untexted : texts_of table ≡ 0
  pub accepts : (schema : Schema) (p tree : ℕ) → HasTable schema table.name p (placed_at table tree)
      → accepts_program schema [] (by_key tree project) (Int k ∷ more) ≡ true
  pub passes : (e : Entry) → HasWidth (width_of table) e → e.key ≡ k
      → passes_checks table (stored (change e)) ≡ true

module _ (old new : State) (table : Table) (is : IsPlain table) (sound : ∥ IsDatabase old.now ∥₁)
    (es : List Entry)
    (holds : Holds old.now table es)
    (text : List ℕ) (k : ℤ) (more : Row) (change : Entry → Entry)
    (changes : ChangesAs table text k more change) where
  abbrev db : Trees
  db = old.now.trees

  abbrev tree : ℕ
  tree = tree_of old.now.schema table.name

  abbrev shown : Entry → Row
  shown e = eval_all changes.project ((Int k ∷ more) ∷ stored e ∷ [])

  abbrev set_by : List Row → Edit
  set_by rows = edit_of db (placed_at table tree) (ids_of rows) Given 1 rows

  -- what the write leaves of the rows, and how many it met
  pub record Set (rows : List Row) (after : List Entry) (count : ℕ) (there : Bool) : Type 0 where
    pub stands : IsTree (width_of table) rows after
    pub met : count ≡ cond there 1 0

  one_edit : (e : Entry) → HasWidth (width_of table) (change e)
      → edited db (set_by ((Int e.key ∷ stored (change e)) ∷ []))
      ≡ put_row (stored (change e)) (without_rowid e.key (db tree))
  one_edit e after = ap (λ row. put_row row (without_rowid e.key (db tree)))
      (cast_is table is (change e) after (none_short table changes.untexted (change e) after))

  set_one : (e : Entry) → find (has_key k) es ≡ Some e
      → edited db (set_by (shown e ∷ [])) ≡ map stored (changed change k es)
  set_one e found =
      let wide = found_all (λ x. HasWidth (width_of table) x) (has_key k) es e holds.rows.wide found in
      let key = changes.keeps_key e in
      ap (λ row. edited db (set_by (row ∷ []))) (changes.projects e wide)
      ∙ one_edit e (changes.keeps_width e wide)
      ∙ ap (λ rows. put_row (stored (change e)) (without_rowid e.key rows)) holds.rows.are
      ∙ ap (put_row (stored (change e))) (without_stored e.key es)
      ∙ put_stored (change e) (without e.key es)
      ∙ ap (λ n. map stored (put (change e) (without n es))) (sym key)
      ∙ ap (map stored) (put_without (change e) es holds.rows.rise)
      ∙ ap (map stored) (put_changed change changes.keeps_key k es e holds.rows.rise found)

  -- the row under the key is changed, if there is one
  pub set_rows : (rows : List Row) (o : Option Entry) → find (has_key k) es ≡ o → rows ≡ map shown (listed o)
      → Set (edited db (set_by rows)) (changed change k es) (length (set_by rows).news) (is_some o)
  set_rows rows None found are =
      subst (λ rs. Set (edited db (set_by rs)) (changed change k es) (length (set_by rs).news) false)
      (sym are)
      (subst (λ l. Set (db tree) l 0 false) (sym (none_changed change changes.keeps_key k es found))
      (record { stands = holds.rows; met = refl }))
  set_rows rows (Some e) found are =
      let wide = found_all (λ x. HasWidth (width_of table) x) (has_key k) es e holds.rows.wide found in
      let put_is = put_changed change changes.keeps_key k es e holds.rows.rise found in
      let after = tree_put (db tree) (map stored (put (change e) es)) (change e) es
      (changes.keeps_width e wide) refl holds.rows in
      subst (λ rs. Set (edited db (set_by rs)) (changed change k es) (length (set_by rs).news) true) (sym are)
      (record {
        stands = subst (λ rs. IsTree (width_of table) rs (changed change k es)) (sym (set_one e found))
            (subst (λ l. IsTree (width_of table) (map stored l) l) put_is after);
        met = refl;
      })

  -- the row under the key is changed, and the count tells whether there is one
  pub sets_row : (count : ℕ) → Executes text (Int k ∷ more) old new (Ok count)
      → Leaves old new table (changed change k es) × (count ≡ cond (is_some (find (has_key k) es)) 1 0)
  sets_row count h =
      let at = standing old.now table is.free sound holds.defined in
      let wrote = updates old new text (Int k ∷ more) at.place
      (placed_at table tree) at.has.listed at.stands count _
      (changes.means old.now.schema at.place tree at.has) h in
      let met = under_overlay db tree at.has.low holds.rows in
      let rows = keyed_answer Null tree changes.project (overlay db []) k more wrote.0 es met
      (wrote.1.answer Null) in
      let set = set_rows wrote.0 (find (has_key k) es) refl rows in (
        record {
          rows = edited db (set_by wrote.0);
          steps = steps_by old new _ count table.name refl wrote.2;
          tree = set.stands;
          sound =
              wrote.2.sound;
          marks = wrote.2.marks;
        },
        wrote.2.counted ∙ set.met,
      )
