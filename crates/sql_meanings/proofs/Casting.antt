-- A row of a key, whole numbers and texts is stored as it is.
use Rattle.sql_meanings.specs.Names.{ℕ, ℤ, List, [], map, length, Value, Null, Int, Text}
use Rattle.sql_meanings.specs.Names.{Row, Table, cast_row, Column}
use Rattle.sql_meanings.proofs.Names.{inl, inr, refl, ap, arith}
use Rattle.sqlite_rules.specs.Cast.{cast, cast_all}
use Rattle.sql_meanings.specs.believed.Entries.{Entry, numbers, texts_held, stored}
use Rattle.sql_meanings.specs.Entries.{AreShort}
use Rattle.sql_meanings.specs.believed.Plain.{key_column, number_column, text_column}
use Rattle.sql_meanings.proofs.EntryLists.{cast_int, cast_null}
use Rattle.std.specs.Prelude.{◌≡◌, ◌≤◌, ◌⊎◌, ◌∷◌, ◌++◌}

-- the column takes this value as it is, and keeps it
abbrev pub IsFor : Column → Value → Type 0
IsFor c v = ((name : List ℕ) × (n : ℤ) × (c ≡ number_column name) × (v ≡ Int n))
    ⊎ ((name : List ℕ) × (t : List ℕ) × (c ≡ text_column name) × (v ≡ Text t) × (length t ≤ 1000))

-- one value for each column
abbrev pub AreFor : List Column → Row → Type 0
AreFor [] [] = Unit {0}
AreFor [] (v ∷ vs) = ⊥
AreFor (c ∷ cs) [] = ⊥
AreFor (c ∷ cs) (v ∷ vs) = IsFor c v × AreFor cs vs

texts_for : (names : List (List ℕ)) (texts : List (List ℕ)) → length texts ≡ length names → AreShort texts
    → AreFor (map text_column names) (texts_held texts)
texts_for [] [] wide short = tt
texts_for [] (t ∷ texts) wide short = absurd (omega arith)
texts_for (name ∷ names) [] wide short = absurd (omega arith)
texts_for (name ∷ names) (t ∷ texts) wide short =
    (inr (name, t, refl, refl, short.0), texts_for names texts (omega arith) short.1)

pub all_for : (names : List (List ℕ)) (values : List ℤ) (tnames : List (List ℕ)) (texts : List (List ℕ))
    → length values ≡ length names → length texts ≡ length tnames → AreShort texts
    → AreFor (map number_column names ++ map text_column tnames) (numbers values ++ texts_held texts)
all_for [] [] tnames texts wide also short = texts_for tnames texts also short
all_for [] (v ∷ values) tnames texts wide also short = absurd (omega arith)
all_for (name ∷ names) [] tnames texts wide also short = absurd (omega arith)
all_for (name ∷ names) (v ∷ values) tnames texts wide also short =
    (inl (name, v, refl, refl), all_for names values tnames texts (omega arith) also short)

cast_one : (c : Column) (v : Value) → IsFor c v → cast c.kind v ≡ v
cast_one c v (inl is) = rw (is.2, is.3) (cast_int is.1)
cast_one c v (inr is) = rw (is.2, is.3) refl

cast_each : (cs : List Column) (vs : Row) → AreFor cs vs → cast_all cs vs ≡ vs
cast_each [] vs are = refl
cast_each (c ∷ cs) [] are = refl
cast_each (c ∷ cs) (v ∷ vs) are = rw (cast_one c v are.0, cast_each cs vs are.1) refl

-- nothing is changed as such a row is written
pub cast_stored : (t : Table) (key : List ℕ) (cs : List Column) (e : Entry)
    → t.columns ≡ key_column key ∷ cs → AreFor cs (numbers e.values ++ texts_held e.texts)
    → cast_row t (stored e) ≡ stored e
cast_stored t key cs e is are = rw (is, cast_int e.key, cast_null)
    (ap (λ l. Int e.key ∷ Null ∷ l) (cast_each cs _ are))
