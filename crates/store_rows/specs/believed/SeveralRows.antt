-- The values by which rows are put in, one after another by one statement, and by which a number is written.
use Rattle.std.specs.Prelude.{◌++◌, ℕ, ℤ, pos, List, [], ◌∷◌, map}
use Rattle.std.specs.List.{flat_map}
use Rattle.sqlite.specs.Order.{Row}
use Rattle.sqlite.specs.declared.types.Value.TheVariants.{Int}
use Rattle.sql_meanings.specs.believed.Entries.{Entry, numbers, texts_held}

-- the values by which a row is handed in
abbrev pub given : Entry → Row
given e = Int e.key ∷ (numbers e.values ++ texts_held e.texts)

-- the values by which rows are handed in, one after another
abbrev pub given_each : {R : Type 0} → (R → Entry) → List R → Row
given_each entry rows = flat_map given (map entry rows)

-- the values by which a number is written into the row under a key
abbrev pub under : ℕ → ℤ → Row
under key number = Int (pos key) ∷ Int number ∷ []
