-- What the reading statements show of a row, and what they look for.
use Rattle.std.specs.Prelude.{ℕ, ℤ, pos, List, Option, find, option_map}
use Rattle.std.specs.Prelude.{slice_index_or}
use Rattle.store_rows.specs.declared.metas.StoredMeta.{StoredMeta}
use Rattle.store_rows.specs.declared.metas.TheConstants.{META_ID}
use Rattle.sql_meanings.specs.believed.Entries.{Entry, has_key}

-- ---- what is looked for

-- the number at this place after the key of a row
abbrev pub number_at : ℕ → Entry → ℤ
number_at place row = slice_index_or row.values place (pos 0)

-- the numbers of a row of `meta`
abbrev pub meta_numbers : Entry → StoredMeta
meta_numbers row = record { version = number_at 0 row; decided = number_at 1 row }

-- what the row of the bank holds among the rows of `meta`
abbrev pub meta_in : List Entry → Option StoredMeta
meta_in rows = option_map meta_numbers (find (has_key (pos META_ID)) rows)
