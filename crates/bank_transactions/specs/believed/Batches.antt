-- Tables on which records can build, damaged or not; and a batch in which nothing is decided.
use Rattle.std.specs.Prelude.{◌≡◌, ℕ, List, None}
use Rattle.message_records.specs.believed.Ranges.{whole_within}
use Rattle.message_records.specs.declared.limits.TheConstants.{MAX_BRANCH}
use Rattle.posting_rules.specs.believed.Changes.{tables_past_all}
use Rattle.posting_rules.specs.believed.Tables.{Tables, row_at, branch_key, floor_key}
use Rattle.posting_batch.specs.believed.Batch.{HasFreeOrdinals}

-- so many ordinals are free, and no branch and no floor is under a number that is none of branches
pub record HasRoomFor (count : ℕ) (t : Tables) : Type 0 where
  pub free : HasFreeOrdinals t count
  pub branches : (n : ℕ) → whole_within 1 MAX_BRANCH n ≡ None → row_at branch_key t.branches n ≡ None
  pub floors : (n : ℕ) → whole_within 1 MAX_BRANCH n ≡ None → row_at floor_key t.floors n ≡ None

-- in these tables none of the records is decided
abbrev pub DecidesNone : Tables → ℕ → List (List ℕ) → Type 0
DecidesNone t moment records = (tables_past_all t moment records).decided ≡ t.decided
