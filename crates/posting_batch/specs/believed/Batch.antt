-- A batch before its records are judged, and after.
use Rattle.std.specs.Prelude.{◌≡◌, ◌≤◌, ◌<◌, ℕ, ◌+◌, None}
use Rattle.posting_rules.specs.believed.Damage.{IsUndamaged}
use Rattle.posting_rules.specs.believed.Tables.{Tables, row_at, history_key, request_key, reference_key}

-- the ordinal is one of so many that follow this count
abbrev pub IsNextOrdinal : ℕ → ℕ → ℕ → Type 0
IsNextOrdinal decided count ordinal = (decided < ordinal) × (ordinal ≤ decided + count)

-- so many ordinals that follow the count have no request, no posting and no reference
pub record HasFreeOrdinals (t : Tables) (count : ℕ) : Type 0 where
  pub requests : (o : ℕ) → IsNextOrdinal t.decided count o → row_at request_key t.requests o ≡ None
  pub postings : (o : ℕ) → IsNextOrdinal t.decided count o → row_at history_key t.history o ≡ None
  pub references : (o : ℕ) → IsNextOrdinal t.decided count o → row_at reference_key t.references o ≡ None

-- tables on which so many records can build: they keep the rules of damage, and so many ordinals are free
abbrev pub AreReadyFor : ℕ → Tables → Type 0
AreReadyFor count t = IsUndamaged t × HasFreeOrdinals t count
