-- The stamps of entries.
use Rattle.std.specs.Prelude.{◌≤◌, ℕ, List, slice_index_or, Option, Some, None}
use Rattle.bank_transactions.specs.declared.known_rows.entry.Entry.{Entry}

-- when an entry was put there; 0 where there is none
abbrev pub stamp_of : {V : Type 0} → Option (Entry V) → ℕ
stamp_of None = 0
stamp_of (Some entry) = entry.stamp

-- none was put there later
abbrev pub AreUntil : {V : Type 0} → ℕ → List (Option (Entry V)) → Type 0
AreUntil stamp entries = (i : ℕ) → stamp_of (slice_index_or entries i None) ≤ stamp
