-- STRICT tables of a key, whole numbers and texts.
use Rattle.sql_meanings.specs.Names.{ℕ, Bool, true, false, List, [], Some, map, Binary, Table, Null, Column}
use Rattle.sqlite.specs.Kind.{Kind}
use Rattle.sqlite.specs.Kind.TheVariants.{Integer, Text}
use Rattle.std.specs.Prelude.{◌∷◌, ◌++◌}

-- the column of a STRICT table that holds values of a kind, NOT NULL or not
abbrev pub strict_column : Kind → Bool → List ℕ → Column
strict_column kind not_null name = record {
  name = name;
  kind = kind;
  is_strict = true;
  not_null = not_null;
  default = Null;
  collation = Binary;
}

-- the column of an INTEGER PRIMARY KEY
abbrev pub key_column : List ℕ → Column
key_column = strict_column Integer false

-- the column of an INTEGER NOT NULL
abbrev pub number_column : List ℕ → Column
number_column = strict_column Integer true

-- the column of a TEXT NOT NULL
abbrev pub text_column : List ℕ → Column
text_column = strict_column Text true

-- the table of this name and key, with columns of numbers and of texts after them, and no other rule; its tree
-- is chosen as it is made
abbrev pub text_table : List ℕ → List ℕ → List (List ℕ) → List (List ℕ) → Table
text_table name key columns texts = record {
  name = name;
  tree = 0;
  columns = key_column key ∷ (map number_column columns ++ map text_column texts);
  key = Some 0;
  primary = 0 ∷ [];
  uniques = [];
  orders = [];
  checks = [];
  references = [];
  computed = [];
  stamps = record { places = []; terms = []; formats = [] };
  is_counted = false;
}

-- the same without texts
abbrev pub plain_table : List ℕ → List ℕ → List (List ℕ) → Table
plain_table name key columns = text_table name key columns []
