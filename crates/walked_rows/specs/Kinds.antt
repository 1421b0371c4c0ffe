-- What a walk goes by in a table: how a file holds a row, what it is read as, and which rows are given.
use Rattle.std.specs.Prelude.{◌≡◌, ℕ, Bool, true, Option, None, refl}
use Rattle.sqlite.specs.Table.{Table}
use Rattle.sql_meanings.specs.believed.Entries.{Entry, HasWidth}
use Rattle.sql_meanings.specs.believed.Tables.{width_of}
use Rattle.store_rows.specs.believed.Readings.{Reading}

pub record Kind (R : Type 0) : Type 1 where
  -- the table that the rows are in
  pub table : Table
  -- how a file holds a row
  pub entry : R → Entry
  -- what the columns of a row are read as
  pub reading : Reading R
  -- the row is one of an account's, or any if none is named
  pub is_given : Option ℕ → Entry → Bool
  pub all_given : (e : Entry) → is_given None e ≡ true

-- any row is given
abbrev pub given_all : {R : Type 0} → Table → (R → Entry) → Reading R → Kind R
given_all table entry reading = record {
  table = table;
  entry = entry;
  reading = reading;
  is_given = λ of e. true;
  all_given = λ e. refl;
}

-- the file's row is as wide as the table
abbrev pub IsRow : {R : Type 0} → Kind R → Entry → Type 0
IsRow kind e = HasWidth (width_of kind.table) e
