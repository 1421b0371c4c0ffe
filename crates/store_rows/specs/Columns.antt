-- What the reading statements show of `meta`, and what they look for.
use Rattle.std.specs.Prelude.{◌&&◌, ◌==◌, ℕ, [], ◌∷◌, Option, Ok, find, nat_lt}
use Rattle.sqlite.specs.Order.{Row, column}
use Rattle.sqlite.specs.declared.types.Value.TheVariants.{Int}
use Rattle.message_records.specs.believed.Reading.{◌>>=◌}
use Rattle.posting_rules.specs.believed.Tables.{Tables}
use Rattle.posting_rules.specs.declared.rows.BranchRow.{BranchRow}
use Rattle.posting_rules.specs.declared.rows.RequestRow.{RequestRow}
use Rattle.store_rows.specs.believed.Readings.{Reading, number}
use Rattle.store_rows.specs.declared.metas.StoredMeta.{StoredMeta}

-- version, decided
abbrev pub meta_shown : StoredMeta → Row
meta_shown m = Int m.version ∷ Int m.decided ∷ []

-- any numbers are numbers of meta
abbrev pub meta_of : Reading StoredMeta
meta_of row = do
  version ← number (column row 0)
  decided ← number (column row 1)
  Ok (record { version = version; decided = decided })

-- the branch with the least number above one
abbrev pub branch_above : Tables → ℕ → Option BranchRow
branch_above t after = find (λ r. nat_lt after r.branch) t.branches

-- the request of a teller under its number
abbrev pub request_in : Tables → ℕ → ℕ → Option RequestRow
request_in t teller number = find (λ r. (r.teller == teller) && (r.number == number)) t.requests
