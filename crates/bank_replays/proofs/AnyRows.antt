-- A table that a file defines as it is made has rows of its columns, whatever their numbers and texts are.
use Rattle.std.proofs.lemmas.{List.append-nil, List.length-append, List.length-map, Bool.and_parts}
use Rattle.std.proofs.Math.Path.{ap₂}
use Rattle.std.proofs.Common.{◌≡◌, ◌+◌, ◌==◌, ◌∷◌, ◌++◌, ◌∙◌, ◌≤◌, ℕ, ℤ, zero, suc, Bool, true, false, not, List, []}
use Rattle.std.proofs.Common.{Some, map, length, drop, refl, sym, ap, arith, add-one, subst, IsTrue, Less, Option, int_cmp}
use Rattle.std.specs.List.{AllByRecursion}
use Rattle.sqlite.specs.{Effect.Database, Effect.IsDatabase, Kind.Kind, Order.column, Order.value_cmp, Table.Table}
use Rattle.sqlite.specs.Kind.TheVariants.{Integer, Text as OfText}
use Rattle.sqlite_value.specs.declared.value.Value.TheVariants.{Real, Blob}
use Rattle.sqlite_trees.specs.{Tree.IsTable, Tree.rowid, View.is_int}
use Rattle.sqlite_sql.specs.Ops.{is_null}
use Rattle.sqlite_schema.specs.Rules.{are_present, are_typed, is_of, passes}
use Rattle.sqlite_schema.specs.declared.schema.Constraint.TheVariants.{Datatype, NotNull}
use Rattle.sql_meanings.specs.Names.{Value, Null, Int, Text, Row, Column}
use Rattle.sql_meanings.specs.Seeks.{is_from}
use Rattle.sql_meanings.specs.believed.Entries.{Entry, HasWidth, Rise, numbers, stored, texts_held}
use Rattle.sql_meanings.specs.believed.Plain.{key_column, number_column, strict_column, text_column}
use Rattle.sql_meanings.specs.believed.Tables.{Defines, placed_at, tree_of, width_of}
use Rattle.sql_meanings.proofs.{Defining.defined_stands, Names.all_has, Names.value_cmp-Int, Places.all_weaker}
use Rattle.walked_rows.specs.Rows.{HasStoredRows, LEAST}
use Rattle.bank_replays.specs.FileTables.{IsFromLeast, IsTreeOfRows}

-- the first of what is left
at_front : (n : ℕ) (row : Row) (v : Value) (vs : Row) → drop n row ≡ v ∷ vs
    → (column row n ≡ v) × (drop (suc n) row ≡ vs)
at_front zero [] v vs h = absurd cc
at_front zero (x ∷ row) v vs h = let e : x ≡ v = cc in let f : row ≡ vs = cc in (e, f)
at_front (suc n) [] v vs h = absurd cc
at_front (suc n) (x ∷ row) v vs h = at_front n row v vs h

-- what is past the end reads as NULL
past_end : (n : ℕ) (row : Row) → drop n row ≡ [] → column row n ≡ Null
past_end zero [] h = refl
past_end zero (x ∷ row) h = absurd cc
past_end (suc n) [] h = refl
past_end (suc n) (x ∷ row) h = past_end n row h

-- only the first column is the key's
not_key : (at : ℕ) → (0 == suc at) ≡ false
not_key at = grind arith

not_true : (b : Bool) → not b ≡ true → b ≡ false
not_true true h = absurd cc
not_true false h = refl

-- a value of its column's type that isn't NULL
to_number : (v : Value) → is_of Integer v ≡ true → is_null v ≡ false → (n : ℤ) × (v ≡ Int n)
to_number Null is there = absurd cc
to_number (Int n) is there = (n, refl)
to_number (Real x) is there = absurd cc
to_number (Text t) is there = absurd cc
to_number (Blob b) is there = absurd cc

to_text : (v : Value) → is_of OfText v ≡ true → is_null v ≡ false → (t : List ℕ) × (v ≡ Text t)
to_text Null is there = absurd cc
to_text (Int n) is there = absurd cc
to_text (Real x) is there = absurd cc
to_text (Text t) is there = (t, refl)
to_text (Blob b) is there = absurd cc

-- what is left of a row once its values of one kind are read
record Read {A : Type 0} (make : A → Value) (names : List (List ℕ)) (more : List Column) (vs row : Row) : Type 0 where
  items : List A
  rest : Row
  to : ℕ
  are : vs ≡ map make items ++ rest
  count : length items ≡ length names
  left : drop (suc (suc to)) row ≡ rest
  typed : are_typed (Some 0) (suc to) more rest ≡ true
  present : are_present (Some 0) (suc to) more row ≡ true

module _ {A : Type 0} (kind : Kind) (make : A → Value)
    (reads : (v : Value) → is_of kind v ≡ true → is_null v ≡ false → (a : A) × (v ≡ make a)) where
  read : (names : List (List ℕ)) (more : List Column) (at : ℕ) (vs row : Row) → drop (suc (suc at)) row ≡ vs
      → are_typed (Some 0) (suc at) (map (strict_column kind true) names ++ more) vs ≡ true
      → are_present (Some 0) (suc at) (map (strict_column kind true) names ++ more) row ≡ true
      → Read make names more vs row
  read [] more at vs row is typed present = record {
    items = [];
    rest = vs;
    to = at;
    are = refl;
    count = refl;
    left = is;
    typed = typed;
    present = present;
  }
  read (name ∷ names) more at [] row is typed present =
      let none = past_end (suc (suc at)) row is in
      let missing = rw (not_key at, add-one (suc at), none) at present in
      absurd cc
  read (name ∷ names) more at (v ∷ vs) row is typed present =
      let here = at_front (suc (suc at)) row v vs is in
      let kinds = and_parts _ _ (rw (not_key at, add-one (suc at)) at typed) in
      let there = and_parts _ _ (rw (not_key at, add-one (suc at), here.0) at present) in
      let value = reads v kinds.0 (not_true _ there.0) in
      let more_read = read names more (suc at) vs row here.1 kinds.1 there.1 in
      record {
        items = value.0 ∷ more_read.items;
        rest = more_read.rest;
        to = more_read.to;
        are = ap₂ (λ (first : Value) (others : Row). first ∷ others) value.1 more_read.are;
        count = ap suc more_read.count;
        left = more_read.left;
        typed = more_read.typed;
        present = more_read.present;
      }

-- nothing is past the last column
none_more : (at : ℕ) (vs : Row) → are_typed (Some 0) at [] vs ≡ true → vs ≡ []
none_more at [] typed = refl
none_more at (v ∷ vs) typed = absurd cc

-- the columns of a row after its key
pub read_columns : (columns texts : List (List ℕ)) (vs row : Row) → drop 2 row ≡ vs
    → are_typed (Some 0) 1 (map number_column columns ++ map text_column texts) vs ≡ true
    → are_present (Some 0) 1 (map number_column columns ++ map text_column texts) row ≡ true
    → (ns : List ℤ) × (ts : List (List ℕ)) × (length ns ≡ length columns) × (length ts ≡ length texts)
    × (vs ≡ numbers ns ++ texts_held ts)
read_columns columns texts vs row is typed present =
    let one = read Integer (λ n. Int n) to_number columns (map text_column texts) 0 vs row is typed present in
    let same : map text_column texts ++ [] ≡ map text_column texts = append-nil _ in
    let two = read OfText (λ t. Text t) to_text texts [] one.to one.rest row one.left
    (subst (λ (cs : List Column). are_typed (Some 0) (suc one.to) cs one.rest ≡ true) (sym same) one.typed)
    (subst (λ (cs : List Column). are_present (Some 0) (suc one.to) cs row ≡ true) (sym same) one.present) in
    let end = none_more (suc two.to) two.rest two.typed in (
      one.items,
      two.items,
      one.count,
      two.count,
      one.are ∙ ap (λ r. numbers one.items ++ r)
          (two.are ∙ ap (λ r. texts_held two.items ++ r) end ∙ append-nil _),
    )

-- ---- whole rows

null_is : (v : Value) → is_null v ≡ true → v ≡ Null
null_is Null h = refl
null_is (Int n) h = absurd cc
null_is (Real x) h = absurd cc
null_is (Text t) h = absurd cc
null_is (Blob b) h = absurd cc

int_is : (v : Value) → IsTrue (is_int v) → (n : ℤ) × (v ≡ Int n)
int_is Null h = absurd cc
int_is (Int n) h = (n, refl)
int_is (Real x) h = absurd cc
int_is (Text t) h = absurd cc
int_is (Blob b) h = absurd cc

-- the columns of such a table
abbrev pub all_columns : List ℕ → List (List ℕ) → List (List ℕ) → List Column
all_columns key columns texts = key_column key ∷ (map number_column columns ++ map text_column texts)

module _ (key : List ℕ) (columns texts : List (List ℕ)) (some : 1 ≤ length columns + length texts) where
  abbrev IsEntry : Row → Type 0
  IsEntry row = (e : Entry) × (row ≡ stored e) × HasWidth (length columns, length texts) e

  row_read : (row : Row) → IsTrue (is_int (rowid row))
      → are_typed (Some 0) 0 (all_columns key columns texts) (drop 1 row) ≡ true → are_present (Some 0) 0 (all_columns key columns texts) row ≡ true
      → IsEntry row
  row_read [] whole typed present = absurd cc
  row_read (v ∷ []) whole typed present =
      let it = read_columns columns texts [] (v ∷ []) refl typed present in
      let size : length (numbers it.0 ++ texts_held it.1) ≡ length columns + length texts =
      length-append _ _ ∙ ap₂ (λ a b. a + b) (length-map _ _ ∙ it.2) (length-map _ _ ∙ it.3) in
      let none : length (numbers it.0 ++ texts_held it.1) ≡ 0 = ap length (sym it.4) in
      absurd (omega (arith, some, size, none))
  row_read (v ∷ w ∷ vs) whole typed present =
      let id = int_is v whole in
      let kinds = and_parts _ _ typed in
      let it = read_columns columns texts vs (v ∷ w ∷ vs) refl kinds.1 present in (
        record { key = id.0; values = it.0; texts = it.1 },
        ap₂ (λ (first : Value) (others : Row). first ∷ others) id.1
            (ap₂ (λ (first : Value) (others : Row). first ∷ others) (null_is w kinds.0) it.4),
        (it.2, it.3),
      )

  rows_read : (rows : List Row) → AllByRecursion (λ r. IsTrue (is_int (rowid r))) rows
      → AllByRecursion (λ r. are_typed (Some 0) 0 (all_columns key columns texts) (drop 1 r) ≡ true) rows
      → AllByRecursion (λ r. are_present (Some 0) 0 (all_columns key columns texts) r ≡ true) rows
      → (es : List Entry) × (rows ≡ map stored es)
      × AllByRecursion (λ e. HasWidth (length columns, length texts) e) es
  rows_read [] ids typed present = ([], refl, tt)
  rows_read (r ∷ rows) ids typed present =
      let one = row_read r ids.0 typed.0 present.0 in
      let more = rows_read rows ids.1 typed.1 present.1 in (
        one.0 ∷ more.0,
        ap₂ (λ (first : Row) (others : List Row). first ∷ others) one.1 more.1,
        (one.2, more.2),
      )

-- ---- their keys

above_all : (e : Entry) (es : List Entry)
    → AllByRecursion (λ b. value_cmp (rowid (stored e)) (rowid b) ≡ Less) (map stored es)
    → AllByRecursion (λ b. int_cmp e.key b.key ≡ Less) es
above_all e [] all = tt
above_all e (b ∷ es) all = (sym (value_cmp-Int e.key b.key) ∙ all.0, above_all e es all.1)

rising : (es : List Entry) → IsTable (map stored es) → Rise es
rising [] up = tt
rising (e ∷ es) up = (above_all e es up.0, rising es up.1)

from_least : (es : List Entry) → AllByRecursion (λ r. IsFromLeast (rowid r)) (map stored es)
    → AllByRecursion (λ e. is_from LEAST e ≡ true) es
from_least [] all = tt
from_least (e ∷ es) all = (all.0 e.key refl, from_least es all.1)

-- ---- a table

module _ (db : Database) (sound : IsDatabase db) where
  pub any_rows : (t : Table) (key : List ℕ) (columns texts : List (List ℕ)) → 1 ≤ length columns + length texts
      → t.columns ≡ all_columns key columns texts → t.key ≡ Some 0 → t.references ≡ []
      → width_of t ≡ (length columns, length texts) → Defines db.schema t
      → IsTreeOfRows (db.trees (tree_of db.schema t.name)) → (es : List Entry) × HasStoredRows db t es
  any_rows t key columns texts some are keyed free width defines tree =
      let at = placed_at t (tree_of db.schema t.name) in
      let rows = db.trees (tree_of db.schema t.name) in
      let has = (defined_stands db.schema t free defines).listed in
      let typed = all_has _ db.schema.tables at (sound.obeys.rules Datatype) has in
      let there = all_has _ db.schema.tables at (sound.obeys.rules NotNull) has in
      let of_types : (r : Row) → passes Datatype db.schema db.trees at r ≡ true
      → are_typed (Some 0) 0 (all_columns key columns texts) (drop 1 r) ≡ true = λ r h.
      subst (λ (k : Option ℕ). are_typed k 0 (all_columns key columns texts) (drop 1 r) ≡ true) keyed
      (subst (λ (cs : List Column). are_typed t.key 0 cs (drop 1 r) ≡ true) are (and_parts _ _ h).0) in
      let of_values : (r : Row) → passes NotNull db.schema db.trees at r ≡ true
      → are_present (Some 0) 0 (all_columns key columns texts) r ≡ true = λ r h.
      subst (λ (k : Option ℕ). are_present k 0 (all_columns key columns texts) r ≡ true) keyed
      (subst (λ (cs : List Column). are_present t.key 0 cs r ≡ true) are h) in
      let it = rows_read key columns texts some rows tree.shaped.1
      (all_weaker (λ (r : Row). passes Datatype db.schema db.trees at r ≡ true) _ of_types rows typed)
      (all_weaker (λ (r : Row). passes NotNull db.schema db.trees at r ≡ true) _ of_values rows there) in (
        it.0,
        record {
          sound = ∣ sound ∣₁;
          holds = record {
            defined = defines;
            rows = record {
              are = it.1;
              rise = rising it.0 (rw it.1 at tree.shaped.0);
              wide = subst (λ (w : ℕ × ℕ). AllByRecursion (λ e. HasWidth w e) it.0) (sym width) it.2;
            };
          };
          least = from_least it.0 (rw it.1 at tree.least);
        },
      )
