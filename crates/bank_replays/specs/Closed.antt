-- Rows of `closing`, and what a second bank is given of them.
use Rattle.std.specs.Prelude.{ℕ, List, [], ◌∷◌, Option, Some, None, nat_abs, if◌then◌else◌}
use Rattle.posting_rules.specs.believed.Closings.{is_closing, run_of}
use Rattle.posting_rules.specs.believed.Commands.{Close, Command}
use Rattle.posting_rules.specs.believed.Counter.{ShowsLog}
use Rattle.posting_rules.specs.declared.rows.ClosingRow.{ClosingRow}
use Rattle.sql_meanings.specs.believed.Entries.{Entry}
use Rattle.sqlite_trees.specs.declared.store.Store.{Ghosts}
use Rattle.store_rows.specs.believed.Columns.{number_at}
use Rattle.bank_store.specs.{believed.Seen.bank_seen, declared.bank.Bank.Bank}
use Rattle.bank_replays.specs.Refilling.{IsNeverInDoubt}

-- the numbers that a row closes, or the seal; none where it is neither
abbrev pub closing_in : Entry → Option ClosingRow
closing_in row =
    if is_closing (nat_abs (number_at 0 row)) (nat_abs row.key)
    then Some (run_of (nat_abs (number_at 0 row)) (nat_abs row.key)) else None

abbrev pub close_in : Option ClosingRow → List Command → List Command
close_in None log = log
close_in (Some run) log = Close run.first run.last ∷ log

-- what these rows close is closed, one row after another
abbrev pub closed_by : List Entry → List Command → List Command
closed_by [] log = log
closed_by (row ∷ rows) log = closed_by rows (close_in (closing_in row) log)

-- so a second bank is given these rows
abbrev pub ClosesRows : {T : Type 0} (h : Ghosts T) → (first last : Bank T h) → List Entry → Type 0
ClosesRows h first last rows = IsNeverInDoubt h → (log : List Command) → ShowsLog (bank_seen h first) log
    → ShowsLog (bank_seen h last) (closed_by rows log)
