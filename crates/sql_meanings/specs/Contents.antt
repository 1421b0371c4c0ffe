-- Tables with names of their own.
use Rattle.sql_meanings.specs.Names.{not, Bool, true, List, [], length, list_all, bytes_eq, Table}
use Rattle.std.specs.Prelude.{◌&&◌, ◌==◌, ◌∷◌}

-- no table has this one's name
abbrev pub has_other_names : Table → List Table → Bool
has_other_names t = list_all (λ other. not (bytes_eq t.name other.name))

-- no table has a foreign key
abbrev pub is_free : Table → Bool
is_free t = length t.references == 0

-- no table has a foreign key, and no two have one name: compared whole
abbrev pub stand_apart : List Table → Bool
stand_apart [] = true
stand_apart (t ∷ tables) = is_free t && has_other_names t tables && stand_apart tables
