-- Rows that are put in one after another.
use Rattle.sql_meanings.specs.Names.{Bool, false, List, [], find, is_some}
use Rattle.sql_meanings.specs.believed.Entries.{Entry, has_key}
use Rattle.sql_meanings.specs.Entries.{put}
use Rattle.std.specs.Prelude.{◌||◌, ◌∷◌}

-- the rows with these in their places, one after another
abbrev pub put_each : List Entry → List Entry → List Entry
put_each [] es = es
put_each (new ∷ news) es = put_each news (put new es)

-- the key of one of them is taken by then
abbrev pub meets_key : List Entry → List Entry → Bool
meets_key [] es = false
meets_key (new ∷ news) es = is_some (find (has_key new.key) es) || meets_key news (put new es)
