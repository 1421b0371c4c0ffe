-- Columns of one table, as a statement over that table alone names them.
use Rattle.sql_meanings.specs.Names.{ℕ, List, [], Ok, Some, None, slice_get, Bool, true, column_named, place_of}
use Rattle.sql_meanings.specs.Names.{Column, col, Schema, Table, Output, Name, Context, column, declared}
use Rattle.sqlite_resolve.specs.declared.{state.State.State, scope.Bound.Bound}
use Rattle.sqlite_resolve.specs.Scope.{find, term_of, column_at, in_level, only, hit, column_in, is_among}
use Rattle.sqlite_resolve.specs.declared.scope.Found.TheVariants as found
use Rattle.std.specs.Prelude.{◌≡◌, ◌∷◌}

-- one table, in slot 1
abbrev pub bound_to : Name → ℕ → Bound
bound_to name p = record { name = name; table = p; slot = 1; shared = [] }

-- what an expression over that table alone can name
abbrev pub over_one : Schema → Name → ℕ → List Output → Bool → Context
over_one schema name p shown may = record {
  schema = schema;
  levels = record { tables = bound_to name p ∷ []; shown = shown } ∷ [];
  may_aggregate = may;
  may_alias = true;
}

module _ (schema : Schema) (p : ℕ) (table : Table) (at : slice_get schema.tables p ≡ Some table) where
  -- the term of a column
  pub column_at_is : (slot k : ℕ) (c : Column) → slice_get table.columns k ≡ Some c
      → column_at schema slot p k ≡ Ok (col slot (place_of table k), declared table k c)
  unfolding column_at
  column_at_is slot k c there = rw (at, there)

  -- a name that the table has is found
  pub found_is : (name : Name) (shown : List Output) (may : Bool) (wanted : Name) (k : ℕ)
      → column_named table wanted ≡ Some k
      → find (over_one schema name p shown may) None wanted ≡ Ok (found.Column 1 p k)
  unfolding find in_level only hit column_in is_among
  found_is name shown may wanted k is = rw (at, is)

  -- a name is the term of its column
  pub column_is : (name : Name) (shown : List Output) (may : Bool) (wanted : Name) (k : ℕ) (c : Column)
      (s : State)
      → column_named table wanted ≡ Some k → slice_get table.columns k ≡ Some c
      → column (over_one schema name p shown may) None wanted s ≡ Ok (
        col 1 (place_of table k),
        record s { last = declared table k c },
      )
  unfolding column term_of
  column_is name shown may wanted k c s is there = rw
      (found_is name shown may wanted k is, column_at_is 1 k c there)
