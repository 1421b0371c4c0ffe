-- The digest of the plan that the branches of a bank are.
use Rattle.std.specs.Prelude.{◌≡◌, ℕ, List, map}
use Rattle.sqlite.specs.Effect.{Database}
use Rattle.sha2.specs.Sha256.{sha256}
use Rattle.posting_rules.specs.believed.Tables.{Tables}
use Rattle.sql_meanings.specs.believed.Entries.{Entry}
use Rattle.store_rows.specs.believed.BankTables.{branch, floor}
use Rattle.store_rows.specs.believed.View.{branch_entry, floor_entry}
use Rattle.walked_rows.specs.Rows.{HasStoredRows}
use Rattle.bank_replays.specs.Writing.{plan_text}

-- SHA-256 of the plan that the rows of a file are
abbrev pub IsPlanDigestIn : Database → List ℕ → Type 0
IsPlanDigestIn db sha = (floors branches : List Entry) → HasStoredRows db floor floors → HasStoredRows db branch branches
    → sha ≡ sha256 (plan_text floors branches)

-- the plan of a bank with these tables
abbrev pub plan_of : Tables → List ℕ
plan_of t = plan_text (map floor_entry t.floors) (map branch_entry t.branches)
