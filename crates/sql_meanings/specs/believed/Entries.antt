-- Rows of whole numbers and texts under rising keys.
use Rattle.sql_meanings.specs.Names.{ℕ, ℤ, Bool, false, List, [], length, map}
use Rattle.sql_meanings.specs.Names.{int_eq, AllByRecursion, Null, Int, Text}
use Rattle.sql_meanings.specs.Names.{Row, IsAscending}
use Rattle.std.specs.Ordering.{int_cmp}
use Rattle.std.specs.declared.cmp.Ordering.TheVariants.{Less}
use Rattle.std.specs.Prelude.{◌≡◌, ◌&&◌, ◌++◌, ◌∷◌}

-- a row: its key, its other numbers and after them its texts, each in the order of the columns
pub record Entry : Type 0 where
  pub key : ℤ
  pub values : List ℤ
  pub texts : List (List ℕ)

-- the numbers as a file holds them
abbrev pub numbers : List ℤ → Row
numbers = map (λ n. Int n)

-- the texts as a file holds them
abbrev pub texts_held : List (List ℕ) → Row
texts_held = map (λ t. Text t)

-- the row as a file holds it: the key's own column is empty, since the key is kept before the columns
abbrev pub stored : Entry → Row
stored e = Int e.key ∷ Null ∷ (numbers e.values ++ texts_held e.texts)

-- the row has this key
abbrev pub has_key : ℤ → Entry → Bool
has_key k e = int_eq e.key k

-- each key is above the keys before it
abbrev pub Rise : List Entry → Type 0
Rise = IsAscending (λ a b. int_cmp a.key b.key ≡ Less)

-- the row has so many numbers and so many texts after its key
abbrev pub HasWidth : ℕ × ℕ → Entry → Type 0
HasWidth width e = (length e.values ≡ width.0) × (length e.texts ≡ width.1)

-- the rows of a tree are these, by rising keys, each of this width
pub record IsTree (width : ℕ × ℕ) (rows : List Row) (entries : List Entry) : Type 0 where
  pub are : rows ≡ map stored entries
  pub rise : Rise entries
  pub wide : AllByRecursion (λ e. HasWidth width e) entries

-- the first two numbers after the key are these
abbrev pub begins_with : ℤ → ℤ → List ℤ → Bool
begins_with one two [] = false
begins_with one two (a ∷ []) = false
begins_with one two (a ∷ b ∷ more) = int_eq a one && int_eq b two

-- the row has these two numbers after its key
abbrev pub has_two : ℤ → ℤ → Entry → Bool
has_two one two e = begins_with one two e.values
