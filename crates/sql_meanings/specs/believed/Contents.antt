-- Tables side by side in one database, each with its rows.
use Rattle.sql_meanings.specs.Names.{List, [], Table}
use Rattle.sql_meanings.specs.Names.{Database}
use Rattle.sql_meanings.specs.believed.Entries.{Entry}
use Rattle.sql_meanings.specs.believed.Tables.{Holds}
use Rattle.std.specs.Prelude.{◌∷◌}

-- the database holds each of these tables with its rows, whatever else it has
abbrev pub HoldsEach : Database → List Table → List (List Entry) → Type 0
HoldsEach db [] [] = Unit {0}
HoldsEach db [] (es ∷ contents) = ⊥
HoldsEach db (t ∷ tables) [] = ⊥
HoldsEach db (t ∷ tables) (es ∷ contents) = Holds db t es × HoldsEach db tables contents
