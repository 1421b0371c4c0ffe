-- The log of a bank as bytes, and how many requests it has.
use Rattle.std.specs.Prelude.{◌≡◌, ℕ, ℤ, List, [], ◌∷◌, drop, length, Option, Result, Ok, Err, IfOk}
use Rattle.posting_core.specs.believed.Batches.{joined}
use Rattle.walked_rows.specs.KeptRows.{KeptItem}
use Rattle.walked_rows.specs.Requests.{IsAnsweredRow}
use Rattle.walked_rows.specs.declared.metas.StoredMeta.{StoredMeta}
use Rattle.bank_store.specs.KeptEntries.{entry_in}
use Rattle.bank_replays.specs.Writing.{WritesRows, WritesSound}
use Rattle.bank_replays.specs.declared.fault.ReplayFault.{ReplayFault}

-- how it ended, but for the count
abbrev pub without_count : Result ℕ ReplayFault → Result (Unit {0}) ReplayFault
without_count (Ok count) = Ok tt
without_count (Err fault) = Err fault

-- the entries of rows after an ordinal were written, of answered requests alone, and so many rows there are
pub record LogsRows (after : ℕ) (all : List KeptItem) (w w' : Option (List ℕ)) (result : Result ℕ ReplayFault)
    : Type 0 where
  pub rows : WritesRows IsAnsweredRow entry_in after all w w' (without_count result)
  pub kept : IfOk result (λ count. count ≡ length all)

-- all but the first so many entries were written, never cut short by damage, and so many there are
pub record LogsEntries (after : ℕ) (entries : List (List ℕ)) (w w' : Option (List ℕ))
    (result : Result ℕ ReplayFault) : Type 0 where
  pub text : WritesSound (joined (drop after entries)) w w' (without_count result)
  pub kept : IfOk result (λ count. count ≡ length entries)

-- ---- how many there are

-- the count that the last of some rows of `meta` has, or this one where there is none
abbrev pub decided_in : ℤ → List StoredMeta → ℤ
decided_in n [] = n
decided_in n (m ∷ more) = decided_in m.decided more
