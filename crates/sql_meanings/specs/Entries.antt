-- Rows that are put in, changed and found by their keys.
use Rattle.sql_meanings.specs.Names.{ℕ, ℤ, Bool, List, [], length, map, Option}
use Rattle.sql_meanings.specs.Names.{Some, None, cond, is_gt, match_ordering, AllByRecursion}
use Rattle.std.specs.Ordering.{int_cmp}
use Rattle.std.specs.Prelude.{◌≤◌, ◌∷◌}
use Rattle.sql_meanings.specs.believed.Entries.{Entry, has_key}

-- the row's key is above this one
abbrev pub is_above : ℤ → Entry → Bool
is_above k e = is_gt (int_cmp e.key k)

-- the rows with this one in its place; it replaces the one that has its key, if there is one
abbrev pub put : Entry → List Entry → List Entry
put new [] = new ∷ []
put new (e ∷ es) = match_ordering (int_cmp e.key new.key) (e ∷ put new es) (new ∷ es) (new ∷ e ∷ es)

-- the change of a row, made just where the row has this key
abbrev pub at_key : (Entry → Entry) → ℤ → Entry → Entry
at_key change k e = cond (has_key k e) (change e) e

-- the rows with the one under the key changed
abbrev pub changed : (Entry → Entry) → ℤ → List Entry → List Entry
changed change k = map (at_key change k)

-- each text has at most 1000 bytes, so that a row with it can be stored
abbrev pub AreShort : List (List ℕ) → Type 0
AreShort texts = AllByRecursion (λ t. length t ≤ 1000) texts

-- the one that was found, if any, as a list
abbrev pub listed : {X : Type 0} → Option X → List X
listed None = []
listed (Some x) = x ∷ []
