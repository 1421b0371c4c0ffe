-- The row of the bank in `meta`, and what is said against it.
use Rattle.std.specs.Prelude.{◌≡◌, ◌≢◌, ◌⊎◌, ◌≤◌, ◌<ℤ◌, ℕ, ℤ, pos, List, [], ◌∷◌, Option, Some, None, Result, Ok}
use Rattle.std.specs.Prelude.{Err, ⊤}
use Rattle.sqlite.specs.Effect.{Database}
use Rattle.sqlite.specs.State.{State}
use Rattle.sqlite.specs.Term.{Term}
use Rattle.posting_rules.specs.declared.fault.Rule.TheVariants.{Meta, Value}
use Rattle.posting_rules.specs.declared.limits.TheConstants.{MAX_DECIDED}
use Rattle.sql_meanings.specs.believed.Entries.{Entry}
use Rattle.store_rows.specs.Statements.{HasOtherValue}
use Rattle.store_rows.specs.believed.View.{meta_entry}
use Rattle.store_rows.specs.declared.metas.TheConstants.{VERSION}
use Rattle.store_rows.specs.declared.metas.StoredMeta.{StoredMeta}
use Rattle.walked_rows.specs.OnlyMeta.{meta_with}
use Rattle.walked_rows.specs.Rows.{HasStoredRows}
use Rattle.bank_store.specs.Connections.{IsAsBefore, IsUndoneIfOpen}
use Rattle.posting_rules.specs.declared.open_fault.OpenFault.{OpenFault}
use Rattle.posting_rules.specs.declared.open_fault.OpenFault.TheVariants.{Store, Version, Damaged}

-- it has our version, and a count within its range
abbrev pub IsOurs : Option StoredMeta → Type 0
IsOurs stored =
    (decided : ℕ) × (stored ≡ Some (record { version = VERSION; decided = pos decided }))
    × (decided ≤ MAX_DECIDED)

-- it has this version, which isn't ours
abbrev pub IsOfVersion : ℤ → Option StoredMeta → Type 0
IsOfVersion version stored =
    (decided : ℤ) × (stored ≡ Some (record { version = version; decided = decided })) × (version ≢ VERSION)

-- a count of requests is outside its range
abbrev pub IsOutside : ℤ → Type 0
IsOutside decided = (decided <ℤ pos 0) ⊎ (pos MAX_DECIDED <ℤ decided)

-- or within it
abbrev pub IsWithin : ℤ → Type 0
IsWithin decided = (count : ℕ) × (decided ≡ pos count) × (count ≤ MAX_DECIDED)

-- what is said against a count
abbrev pub ChecksCount : ℤ → Result (Unit {0}) OpenFault → Type 0
ChecksCount decided (Ok done) = IsWithin decided
ChecksCount decided (Err fault) = (fault ≡ Damaged Meta) × IsOutside decided

-- it is missing, or it has our version and its count is outside its range
abbrev pub IsNoCount : Option StoredMeta → Type 0
IsNoCount stored =
    (stored ≡ None)
    ⊎ ((decided : ℤ) × (stored ≡ Some (record { version = VERSION; decided = decided })) × IsOutside decided)

-- what is said against the row
abbrev pub ChecksMeta : Option StoredMeta → Result (Unit {0}) OpenFault → Type 0
ChecksMeta stored (Ok done) = IsOurs stored
ChecksMeta stored (Err (Version n)) = IsOfVersion n stored
ChecksMeta stored (Err (Damaged Meta)) = IsNoCount stored
ChecksMeta stored (Err _) = ⊥

-- where a value is damaged, the row of the bank has one that is no whole number
abbrev pub IsOfOtherType : Database → OpenFault → Type 0
IsOfOtherType db (Damaged Value) = HasOtherValue db
IsOfOtherType db _ = ⊤

-- the row is this one, or the store failed
abbrev pub TellsMeta : Option StoredMeta → Result (Option StoredMeta) OpenFault → Type 0
TellsMeta wanted (Ok found) = found ≡ wanted
TellsMeta wanted (Err Store) = ⊤
TellsMeta wanted (Err _) = ⊥

-- ---- the other rows of `meta`

-- these rows are that of the bank alone, with this version and a count within its range
abbrev pub IsOnly : ℤ → List Entry → Type 0
IsOnly version rows = (decided : ℕ) × (rows ≡ meta_entry version decided ∷ []) × (decided ≤ MAX_DECIDED)

-- whatever CHECK `meta` has, and whatever rows the database holds of it, this holds of them
abbrev pub OfAnyMeta : Database → (List Entry → Type 0) → Type 0
OfAnyMeta db P = (checks : List Term) (rows : List Entry) → HasStoredRows db (meta_with checks) rows → P rows

-- they are so
abbrev pub HasOnlyRow : ℤ → Database → Type 0
HasOnlyRow version db = OfAnyMeta db (IsOnly version)

-- or they aren't: another row is there, or the only one is another
abbrev pub LacksOnlyRow : ℤ → Database → Type 0
LacksOnlyRow version db = OfAnyMeta db (λ rows. ¬ IsOnly version rows)

-- which of both, and everything is as it was; or the store failed
abbrev pub ChecksOnly : ℤ → State → State → Result (Unit {0}) OpenFault → Type 0
ChecksOnly version old new (Ok done) = HasOnlyRow version old.now × IsAsBefore old new
ChecksOnly version old new (Err fault) =
    ((fault ≡ Store) × IsUndoneIfOpen old new)
    ⊎ ((fault ≡ Damaged Meta) × LacksOnlyRow version old.now × IsAsBefore old new)
