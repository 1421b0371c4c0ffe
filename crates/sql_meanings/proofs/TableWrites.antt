-- What a write of one table leaves.
use Rattle.sql_meanings.specs.Names.{length, ℕ, Some, List, [], map, Row, Table, Edit, edited, IsDatabase, State}
use Rattle.sql_meanings.specs.Names.{cast_row}
use Rattle.sql_meanings.proofs.Names.{sym, ap, subst, ◌∙◌, arith}
use Rattle.sql_meanings.specs.believed.Entries.{Entry, IsTree, HasWidth, numbers, texts_held, stored}
use Rattle.sql_meanings.specs.{Entries.AreShort, believed.Making.Stands, Making.SparesStanding}
use Rattle.sql_meanings.proofs.Casting.{AreFor, all_for, cast_stored}
use Rattle.sql_meanings.proofs.{TablesBeside.ChangesOneTable, Writing.Wrote}
use Rattle.sql_meanings.specs.believed.Tables.{placed_at, tree_of, width_of, texts_of}
use Rattle.sql_meanings.specs.believed.Plain.{key_column, number_column, text_column}
use Rattle.std.specs.Prelude.{◌≡◌, ◌≤◌, ◌+◌, ◌++◌, ◌∷◌}

-- what a write of one table leaves: the table has these rows now, and each other table what it had
pub record Leaves (old new : State) (table : Table) (es : List Entry) : Type 0 where
  pub rows : List Row
  pub steps : ChangesOneTable old.now new.now table.name rows
  pub tree : IsTree (width_of table) rows es
  pub sound : IsDatabase new.now
  pub marks : new.marks ≡ old.marks

-- a table of a key, and of at most 1999 whole numbers and texts after it, with no foreign key of its own and
-- no AUTOINCREMENT
pub record IsPlain (table : Table) : Type 0 where
  pub free : table.references ≡ []
  pub keyed : table.key ≡ Some 0
  pub uncomputed : table.computed ≡ []
  pub key : List ℕ
  pub names : List (List ℕ)
  pub texts : List (List ℕ)
  pub columns : table.columns ≡ key_column key ∷ (map number_column names ++ map text_column texts)
  pub width : width_of table ≡ (length names, length texts)
  pub narrow : length names + length texts ≤ 1999

-- so is the same table in another tree
pub plain_at : (table : Table) (tree : ℕ) → IsPlain table → IsPlain (placed_at table tree)
plain_at table tree is = record {
  free = is.free;
  keyed = is.keyed;
  uncomputed = is.uncomputed;
  key = is.key;
  names = is.names;
  texts = is.texts;
  columns = is.columns;
  width = is.width;
  narrow = is.narrow;
}

-- a row of its width has a value for each column, where its texts are short
pub fits_columns : (table : Table) (is : IsPlain table) (e : Entry) → HasWidth (width_of table) e
    → AreShort e.texts
    → AreFor (map number_column is.names ++ map text_column is.texts) (numbers e.values ++ texts_held e.texts)
fits_columns table is e wide short =
    all_for is.names e.values is.texts e.texts (wide.0 ∙ ap (λ w. w.0) is.width)
    (wide.1 ∙ ap (λ w. w.1) is.width) short

-- such a row is stored as it is
pub cast_is : (table : Table) (is : IsPlain table) (e : Entry) → HasWidth (width_of table) e
    → AreShort e.texts → cast_row table (stored e) ≡ stored e
cast_is table is e wide short = cast_stored table is.key _ e is.columns (fits_columns table is e wide short)

-- what a write that is done leaves of every table
pub steps_by : (old new : State) (edit : Edit) (count : ℕ) (name : List ℕ)
    → edit.table.tree ≡ tree_of old.now.schema name
    → Wrote old new edit count → ChangesOneTable old.now new.now name (edited old.now.trees edit)
steps_by old new edit count name at wrote = record {
  schema = wrote.schema;
  now = ap (λ t. new.now.trees t) (sym at) ∙ wrote.leaves.rows;
  others = λ t other apart. wrote.leaves.others t other (λ same. apart (same ∙ at));
}

-- a write spares every other table that stands
pub spares_standing : (old new : State) (table : Table) (es : List Entry) → Leaves old new table es
    → SparesStanding old.now new.now table.name
spares_standing old new table es left t stands apart =
    (subst (λ s. Stands s t) (sym left.steps.schema) stands, left.steps.others t stands apart)

-- a row of a table without texts has none
pub none_short : (table : Table) → texts_of table ≡ 0 → (e : Entry) → HasWidth (width_of table) e
    → AreShort e.texts
none_short table none e wide = go e.texts (wide.1 ∙ none)
  where
    go : (texts : List (List ℕ)) → length texts ≡ 0 → AreShort texts
    go [] h = tt
    go (t ∷ texts) h = absurd (omega arith)
