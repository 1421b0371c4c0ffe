-- Rows as they are stored, one at a time.
use Rattle.std.specs.Prelude.{ℕ, ℤ, pos, find, Option, Some, None, Ok}
use Rattle.sqlite.specs.Effect.{Database}
use Rattle.posting_rules.specs.declared.counter.BranchLine.{BranchLine}
use Rattle.posting_rules.specs.declared.rows.BranchRow.{BranchRow}
use Rattle.sql_meanings.specs.Entries.{is_above}
use Rattle.store_rows.specs.believed.Readings.{read_balance, read_branch}
use Rattle.store_rows.specs.believed.Rules.{OfRows, StoredRows, TellerFits, row_under}
use Rattle.store_rows.specs.believed.Stored.{FindsStored}
use Rattle.bank_transactions.specs.believed.Stored.{IsStoredFloor}

-- the row of the branch with the least number above this one, none where there is no such row
abbrev pub IsStoredRow : Database → ℕ → Option BranchRow → Type 0
IsStoredRow db after next =
    OfRows (λ rows. FindsStored (find (is_above (pos after)) rows.branches) read_branch (Ok next)) db

-- what that row and the row of its floor say of the branch
abbrev pub IsStoredNext : Database → ℕ → Option BranchLine → Type 0
IsStoredNext db after None = IsStoredRow db after None
IsStoredNext db after (Some line) =
    IsStoredRow db after
    (Some (record { branch = line.branch; accounts = line.accounts; balance = line.balance }))
    × IsStoredFloor db line.branch line.floor

-- ---- a batch

-- the balance that a teller's row has, none where it has no row; and it has one just where its branch does
pub record HoldsTellerRow (rows : StoredRows) (teller : ℕ) (balance : Option ℤ) : Type 0 where
  pub found : FindsStored (row_under rows.tellers teller) read_balance (Ok balance)
  pub fits : TellerFits rows teller
