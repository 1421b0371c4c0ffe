-- What is read of the closed numbers, one row after another by rising keys.
use Rattle.std.specs.Prelude.{◌≡◌, ◌&&◌, ℕ, pos, Bool, not, List, filter, map, Ok}
use Rattle.sqlite.specs.Held.{state}
use Rattle.sqlite.specs.State.{HasCleanDisk}
use Rattle.sqlite.specs.declared.transaction.Transaction.{Transaction}
use Rattle.sqlite_trees.specs.declared.store.Store.{Ghosts}
use Rattle.posting_rules.specs.declared.rows.ClosingRow.{ClosingRow}
use Rattle.sql_meanings.specs.Entries.{is_above}
use Rattle.sql_meanings.specs.Seeks.{is_from}
use Rattle.sql_meanings.specs.believed.Entries.{Entry}
use Rattle.store_rows.specs.Lying.{IsBankFile, OfClosings}
use Rattle.store_rows.specs.believed.Readings.{read_closing}
use Rattle.bank_transactions.specs.believed.Stored.{closing_rows}

-- the row's key is 0 or above it, and not above another one
abbrev pub is_upto : ℕ → Entry → Bool
is_upto k e = is_from (pos 0) e && not (is_above (pos k) e)

-- the rows up to a key read as these
abbrev pub ReadsUpTo : ℕ → List Entry → List ClosingRow → Type 0
ReadsUpTo k rows runs = map read_closing (filter (is_upto k) rows) ≡ map (λ r. Ok r) runs

-- all rows from the key 0 of the seal on do
abbrev pub ReadsAs : List Entry → List ClosingRow → Type 0
ReadsAs rows runs = closing_rows rows ≡ map (λ r. Ok r) runs

-- Some runs were told, and if the file is a bank's, they are what its rows read as.
abbrev pub Gathers : {S : Type 0} → Ghosts S → Transaction S → Transaction S → (List Entry → List ClosingRow → Type 0)
    → (List ClosingRow → Type 0) → Type 0
Gathers g old new Read Told = (runs : List ClosingRow) × Told runs × (HasCleanDisk (state g new.conn.now)
    → IsBankFile (state g old.conn.now).now → OfClosings (λ rows. Read rows runs) (state g old.conn.now).now)
