-- The rows of a table in a database, as walks speak of them: of any sound file, whatever its numbers.
use Rattle.std.specs.Prelude.{◌≡◌, ◌^◌, ◌-◌, ℤ, negsuc, true, ℕ, List, [], filter, Option, Some, None}
use Rattle.std.specs.List.{AllByRecursion}
use Rattle.std.specs.Ordering.{int_cmp, is_ge}
use Rattle.sqlite.specs.Table.{Table}
use Rattle.sqlite.specs.Effect.{Database, IsDatabase}
use Rattle.sql_meanings.specs.believed.Entries.{Entry, HasWidth}
use Rattle.sql_meanings.specs.Seeks.{is_from}
use Rattle.sql_meanings.specs.believed.Tables.{Holds}
use Rattle.store_rows.specs.View.{HoldsRows}

-- the least number of 64 bits
abbrev pub LEAST : ℤ
LEAST = negsuc (2 ^ 63 - 1)

-- a sound database has this table, with these rows by rising keys
pub record HasStoredRows (db : Database) (table : Table) (rows : List Entry) : Type 0 where
  pub sound : ∥ IsDatabase db ∥₁
  pub holds : Holds db table rows
  -- each key is a number of 64 bits
  pub least : AllByRecursion (λ e. is_from LEAST e ≡ true) rows

-- it holds them, whatever their keys are
abbrev pub holds_rows : {db : Database} {table : Table} {rows : List Entry} → HasStoredRows db table rows
    → HoldsRows db table rows
holds_rows has = record { sound = has.sound; holds = has.holds }

-- each row is of this width
abbrev pub IsWide : ℕ × ℕ → List Entry → Type 0
IsWide width = AllByRecursion (λ e. HasWidth width e)

-- ---- what has keys

module _ {X : Type 0} (key : X → ℤ) where
  -- those with keys from a number on
  abbrev pub items_from : ℤ → List X → List X
  items_from k items = filter (λ x. is_ge (int_cmp (key x) k)) items

  -- those with keys from a number on, none if there is no number
  abbrev pub items_after : Option ℤ → List X → List X
  items_after None items = []
  items_after (Some k) items = items_from k items

  -- each has a key of 64 bits
  abbrev pub HaveKeys : List X → Type 0
  HaveKeys = AllByRecursion (λ x. is_ge (int_cmp (key x) LEAST) ≡ true)

-- ---- rows

abbrev pub entry_key : Entry → ℤ
entry_key e = e.key

-- the rows with keys from a number on
abbrev pub rows_from : ℤ → List Entry → List Entry
rows_from = items_from entry_key

-- the rows with keys from a number on, none if there is no number
abbrev pub rows_after : Option ℤ → List Entry → List Entry
rows_after = items_after entry_key
