-- What is known under a key. Each key has one place, and a place holds one value, under its key. What was put there
-- before all was forgotten has an older stamp than the table.
use Rattle.std.specs.Prelude.{◌≡◌, ◌-◌, ◌==◌, ◌&&◌, ℕ, List, length, slice_index_or, bit_and}
use Rattle.std.specs.Prelude.{Option, Some, None, if◌then◌else◌}
use Rattle.bank_transactions.specs.declared.known_rows.entry.Entry.{Entry}
use Rattle.bank_transactions.specs.declared.known_rows.table.Table.{Table}
use Rattle.bank_transactions.specs.declared.known_rows.table.Known.{Known}

-- the place of a key among so many: its low bits
abbrev pub place_among : ℕ → ℕ → ℕ
place_among count key = bit_and key (count - 1)

module _ {V : Type 0} where
  -- the value of an entry, if it stands under this stamp and this key
  abbrev pub value_for : ℕ → ℕ → Option (Entry V) → Option V
  value_for stamp key None = None
  value_for stamp key (Some entry) =
      if (entry.key == key) && (entry.stamp == stamp) then Some entry.value else None

  -- what a key's place holds for it
  abbrev pub found : List (Option (Entry V)) → ℕ → ℕ → Option V
  found entries stamp key = value_for stamp key (slice_index_or entries (place_among (length entries) key) None)

  abbrev pub found_in : Option (Table V) → ℕ → Option V
  found_in None key = None
  found_in (Some table) key = found table.entries.items table.stamp key

  abbrev pub count_in : Option (Table V) → ℕ
  count_in None = 0
  count_in (Some table) = length table.entries.items

  -- how many places there are
  unfoldable pub places : Known V → ℕ
  places known = count_in known.table

  -- the place of a key
  abbrev pub place : Known V → ℕ → ℕ
  place known key = place_among (places known) key

  -- what is known under a key
  unfoldable pub known_under : Known V → ℕ → Option V
  known_under known key = found_in known.table key

  -- a value is known under a key
  abbrev pub Knows : Known V → ℕ → V → Type 0
  Knows known key value = known_under known key ≡ Some value

  -- nothing is known
  abbrev pub KnowsNothing : Known V → Type 0
  KnowsNothing known = (key : ℕ) → known_under known key ≡ None
