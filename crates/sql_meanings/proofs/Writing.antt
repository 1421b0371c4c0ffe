-- What an INSERT of given values and an UPDATE leave, in any table that stands, whatever else the schema has.
use Rattle.sql_meanings.specs.Names.{ℕ, List, [], length, true, false, Some, Ok, Err, slice_get, unwrap_or}
use Rattle.sql_meanings.specs.Names.{Row, Term, Table, Schema, Trees, Values, Insert, Update, Program, Keys, Enforced}
use Rattle.sql_meanings.specs.Names.{Chosen, Given, Edit, edit_of, are_fresh, left_by, ids_of, Writes, Tally, Written}
use Rattle.sql_meanings.specs.Names.{stamped, Database, IsDatabase, Answers, value_rows, State, Executes}
use Rattle.sql_meanings.proofs.Names.{inl, inr, refl, sym, ap, subst, ◌∙◌, runs_as, same_value}
use Rattle.sql_meanings.specs.believed.Making.{Stands}
use Rattle.sql_meanings.proofs.{Actions.Leaves, Actions.writes_leave, Means.Means, Means.meant_is, Means.plain_is}
use Rattle.std.specs.Prelude.{◌≡◌, ◌⊎◌, ◌/◌}

-- a part that gave a value
pub went : {B E R : Type 0} {b : B} {Stops : E → Type 0} → ((stop : E) × Stops stop × (Ok b ≡ Err stop)) ⊎ R
    → R
went (inl stopped) = absurd (let e = stopped.2 in cc)
went (inr on) = on

-- one value
-- a write of one table that is done
pub record Wrote (old new : State) (edit : Edit) (count : ℕ) : Type 0 where
  pub schema : new.now.schema ≡ old.now.schema
  pub sound : IsDatabase new.now
  pub step : Writes old.now.schema Enforced old.now.trees edit (Ok new.now.trees)
  pub leaves : Leaves old.now.schema old.now.trees edit new.now.trees
  pub fresh : are_fresh (left_by old.now.trees edit) edit.news ≡ true
  pub counted : count ≡ length edit.news
  pub marks : new.marks ≡ old.marks

were_fresh : (schema : Schema) (keys : Keys) (db next : Trees) (edit : Edit)
    → Writes schema keys db edit (Ok next)
    → are_fresh (left_by db edit) edit.news ≡ true
were_fresh schema keys db next edit (inl refused) = absurd (let e = refused.2 in cc)
were_fresh schema keys db next edit (inr (inl big)) = absurd (let e = big.3 in cc)
were_fresh schema keys db next edit (inr (inr on)) = on.1.fresh

module _ (old new : State) (text : List ℕ) (params : Row) (p : ℕ) (table : Table)
    (listed : slice_get old.now.schema.tables p
    ≡ Some table) (stands : Stands old.now.schema table) (count : ℕ) where
  -- an UPDATE that is done
  pub updates : (q : Program) → Means old.now.schema text (length params) (Update p q)
      → Executes text params old new (Ok count)
      → (rows : List Row) × Answers old.now q params rows × Wrote old new
      (edit_of old.now.trees table (ids_of rows) Given 1 rows) count
  updates q m h =
      let schema = old.now.schema in
      let db = old.now.trees in
      let command = Update p q in
      let w = runs_as text params old new schema refl command (meant_is schema text (length params) command m)
      (plain_is schema text (length params) command m) count h in
      let done = went (rw listed at w.changed) in
      let last = same_value (went (went done.2).2).2 in
      let given = went done.1 in
      let written = went given.2 in
      let made = same_value written.2 in
      let edit = edit_of db table (ids_of given.0) Given 1 given.0 in
      let trees : done.0.trees ≡ written.0 = ap (λ (it : Written). it.trees) made in
      let now : new.now ≡ record { schema = schema; trees = written.0 } = ap
      (λ (it : Tally × Database). it.1) last
      ∙ ap (λ (t : Trees). let d : Database = record { schema = schema; trees = t } in d) trees in
      let tally : w.tally.rows ≡ Some (length done.0.rows) = ap (λ (it : Tally × Database). it.0.rows) last in
      let met : length done.0.rows ≡ length edit.news = ap (λ (it : Written). length it.rows) made in (
        given.0,
        given.1,
        record {
          schema = ap (λ (d : Database). d.schema) now;
          sound = w.sound;
          step = subst (λ (d : Database). Writes schema Enforced db edit (Ok d.trees)) (sym now) written.1;
          leaves = subst (λ (d : Database). Leaves schema db edit d.trees) (sym now)
              (writes_leave schema Enforced db written.0 edit stands written.1);
          fresh = were_fresh schema Enforced db written.0 edit written.1;
          counted = w.counted ∙ ap (λ o. unwrap_or o 0) tally ∙ met;
          marks = w.marks;
        },
      )

-- a table with no AUTOINCREMENT
abbrev pub uncounted : Table → Table
uncounted t = record t { is_counted = false }

module _ (old new : State) (text : List ℕ) (params : Row) (p : ℕ) (t : Table)
    (listed : slice_get old.now.schema.tables p
    ≡ Some (uncounted t)) (stands : Stands old.now.schema (uncounted t)) (count : ℕ) where
  abbrev table : Table
  table = uncounted t

  -- an INSERT that is done
  pub inserts : (terms : List Term) (width : ℕ)
      → Means old.now.schema text (length params) (Insert p (Values terms width))
      → Executes text params old new (Ok count)
      → Wrote old new (edit_of old.now.trees table [] Chosen 0
      (value_rows (stamped table params) width (length terms / width) terms))
      count
  inserts terms width m h =
      let schema = old.now.schema in
      let db = old.now.trees in
      let command = Insert p (Values terms width) in
      let w = runs_as text params old new schema refl command (meant_is schema text (length params) command m)
      (plain_is schema text (length params) command m) count h in
      let done = went (rw listed at w.changed) in
      let last = same_value (went (went done.2).2).2 in
      let given = went done.1 in
      let written = went (went given.2).2 in
      let counted = went written.2 in
      let made = same_value counted.2 in
      let edit = edit_of db table [] Chosen 0 given.0 in
      let trees : done.0.trees ≡ written.0 = ap (λ (it : Written). it.trees) made ∙ same_value counted.1 in
      let now : new.now ≡ record { schema = schema; trees = written.0 } = ap
      (λ (it : Tally × Database). it.1) last
      ∙ ap (λ (t : Trees). let d : Database = record { schema = schema; trees = t } in d) trees in
      let tally : w.tally.rows ≡ Some (length done.0.rows) = ap (λ (it : Tally × Database). it.0.rows) last in
      let met : length done.0.rows ≡ length edit.news = ap (λ (it : Written). length it.rows) made in
      let wrote : Wrote old new edit count = record {
        schema = ap (λ (d : Database). d.schema) now;
        sound = w.sound;
        step = subst (λ (d : Database). Writes schema Enforced db edit (Ok d.trees)) (sym now) written.1;
        leaves = subst (λ (d : Database). Leaves schema db edit d.trees) (sym now)
            (writes_leave schema Enforced db written.0 edit stands written.1);
        fresh = were_fresh schema Enforced db written.0 edit written.1;
        counted = w.counted ∙ ap (λ o. unwrap_or o 0) tally ∙ met;
        marks = w.marks;
      } in
      subst (λ rows. Wrote old new (edit_of db table [] Chosen 0 rows) count) given.1.1 wrote
