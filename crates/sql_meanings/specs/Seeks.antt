-- The queries of the rows that come next, by rising keys, from a number on: of all rows, or of those with a
-- number after their keys.
use Rattle.sql_meanings.specs.Names.{ℕ, ℤ, Bool, false, List, [], pos, int_eq, is_ge, Int, Term, lit, col}
use Rattle.sql_meanings.specs.Names.{op2, Query, inner, end, Binary, Compare, Ge}
use Rattle.std.specs.Ordering.{int_cmp}
use Rattle.sql_meanings.specs.believed.Entries.{Entry}
use Rattle.sql_meanings.specs.Queries.{ascending, is, query}
use Rattle.std.specs.Prelude.{◌&&◌, ◌∷◌}

-- the row's key is this one or above it
abbrev pub is_from : ℤ → Entry → Bool
is_from k e = is_ge (int_cmp e.key k)

-- the first is the second or above it
abbrev pub at_least : Term → Term → Term
at_least a b = op2 (Compare Ge Binary) a b

-- the key is the first parameter or above it
abbrev pub key_from : List Term
key_from = at_least (col 1 0) (col 0 0) ∷ []

-- of the rows from the parameter on the first so many, by rising keys
abbrev pub next_from : ℕ → ℕ → List Term → Query
next_from most tree project = query (inner tree end) key_from project ascending (lit (Int (pos most)))

-- the first number after the key is this one
abbrev pub begins : ℤ → List ℤ → Bool
begins one [] = false
begins one (n ∷ more) = int_eq n one

-- the row has this number after its key, and its key is that one or above it
abbrev pub is_of_from : ℤ → ℤ → Entry → Bool
is_of_from one k e = begins one e.values && is_from k e

-- the first number after the key is the first parameter, and the key is the second or above it
abbrev pub of_from : List Term
of_from = is (col 1 2) (col 0 0) ∷ at_least (col 1 0) (col 0 1) ∷ []

-- of the rows with the first parameter after their keys, and from the second on, the first so many, by
-- rising keys
abbrev pub next_of_from : ℕ → ℕ → List Term → Query
next_of_from most tree project = query (inner tree end) of_from project ascending (lit (Int (pos most)))
