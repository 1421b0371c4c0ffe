-- The row of the bank, where it is the only row of `meta`, whatever CHECK that has.
use Rattle.std.specs.Prelude.{◌≡◌, ◌≢◌, ℤ, pos, List, [], ◌∷◌, Option, Some, None}
use Rattle.sqlite.specs.Order.{Row}
use Rattle.sqlite.specs.Table.{Table}
use Rattle.sqlite.specs.Term.{Term}
use Rattle.sqlite.specs.declared.types.Value.{Value}
use Rattle.sqlite.specs.declared.types.Value.TheVariants.{Int}
use Rattle.sql_meanings.specs.believed.Entries.{Entry}
use Rattle.store_rows.specs.believed.BankTables.{meta}
use Rattle.store_rows.specs.declared.metas.StoredMeta.{StoredMeta}

-- `meta` with these checks in place of its own
abbrev pub meta_with : List Term → Table
meta_with checks = record meta { checks = checks }

-- the row of the bank, with this version and this count
abbrev pub bank_entry : ℤ → ℤ → Entry
bank_entry version decided = record { key = pos 1; values = version ∷ decided ∷ []; texts = [] }

-- the rows are that of the bank alone, with these numbers; or they aren't one row, that of the bank
abbrev pub TellsOnly : List Entry → Option StoredMeta → Type 0
TellsOnly rows (Some m) = rows ≡ bank_entry m.version m.decided ∷ []
TellsOnly rows None = (version decided : ℤ) → rows ≢ bank_entry version decided ∷ []

-- ---- what is read

-- the number that the value is, or it is none
abbrev pub TakesNumber : Value → Option ℤ → Type 0
TakesNumber v (Some n) = (z : ℤ) → v ≡ Int z → n ≡ z
TakesNumber v None = (z : ℤ) → v ≡ Int z → ⊥

-- the numbers after the bank's id that the row shows, or it shows no row of the bank
abbrev pub TakesRow : Row → Option StoredMeta → Type 0
TakesRow row (Some m) = (key version decided : ℤ) → row ≡ Int key ∷ Int version ∷ Int decided ∷ []
    → (key ≡ pos 1) × (m.version ≡ version) × (m.decided ≡ decided)
TakesRow row None = (version decided : ℤ) → row ≡ Int (pos 1) ∷ Int version ∷ Int decided ∷ [] → ⊥

-- the same of the only row that was found, none where there isn't one
abbrev pub TakesOnly : List Row → Option StoredMeta → Type 0
TakesOnly [] m = m ≡ None
TakesOnly (row ∷ []) m = TakesRow row m
TakesOnly (row ∷ next ∷ more) m = m ≡ None
