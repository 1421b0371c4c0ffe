-- The log that a replay posts of a file's rows.
use Rattle.std.specs.Prelude.{◌≡◌, ℕ, pos, nat_abs, List, [], Option, Some, None, option_and_then}
use Rattle.message_records.specs.believed.Ranges.{cents_within}
use Rattle.message_records.specs.declared.limits.TheConstants.{MAX_BALANCE}
use Rattle.posting_rules.specs.believed.Commands.{Command, Terms, opened}
use Rattle.posting_rules.specs.believed.Closings.{closings}
use Rattle.posting_rules.specs.believed.Counter.{ShowsLog}
use Rattle.posting_rules.specs.believed.Entries.{decided}
use Rattle.sql_meanings.specs.believed.Entries.{Entry}
use Rattle.sqlite_trees.specs.declared.store.Store.{Ghosts}
use Rattle.store_rows.specs.believed.Columns.{number_at}
use Rattle.walked_rows.specs.{KeptRows.kept_all, Pairs.row_under}
use Rattle.bank_store.specs.believed.Seen.{bank_seen, database_of}
use Rattle.bank_store.specs.declared.bank.Bank.{Bank}
use Rattle.bank_replays.specs.FileTables.{FileTables, HasTables}
use Rattle.bank_replays.specs.Leading.{Leads}
use Rattle.bank_replays.specs.Refilling.{terms_of}
use Rattle.bank_replays.specs.Closed.{closed_by}
use Rattle.bank_replays.specs.declared.refill.Planned.{Planned}

abbrev pub accounts_in : Option Entry → ℕ
accounts_in None = 0
accounts_in (Some row) = nat_abs (number_at 0 row)

-- what the rows under a branch's number plan for it: so many accounts, and a floor, if that is an amount
abbrev pub planned_in : (branches floors : List Entry) → ℕ → Planned
planned_in branches floors b = record {
  accounts = accounts_in (row_under branches (pos b));
  floor = option_and_then (λ row. cents_within MAX_BALANCE (number_at 0 row)) (row_under floors (pos b));
}

-- the branches that can be opened so
abbrev pub plan_in : FileTables → ℕ → Option Terms
plan_in f b = terms_of b (planned_in f.branches f.floors b)

-- The log of the file's own requests, in their order, each after the branches that it needs; in the end all branches of
-- the plan are open.
pub record IsFilledOf (f : FileTables) (log : List Command) : Type 0 where
  pub posted : List Command
  pub leads : Leads (plan_in f) (kept_all f.history f.references f.requests) [] posted
  pub decides : decided log ≡ decided posted
  pub closes : closings log ≡ closings posted
  pub opens : (b : ℕ) → opened log b ≡ plan_in f b

-- and in the end it has closed what the file's rows close
pub record IsReplayOf (f : FileTables) (log : List Command) : Type 0 where
  pub filled : List Command
  pub is : IsFilledOf f filled
  pub closes : log ≡ closed_by f.closings filled

-- whatever rows the file has, the second bank shows their log
abbrev pub ShowsFilled : {S T : Type 0} (g : Ghosts S) (h : Ghosts T) → Bank S g → Bank T h → Type 0
ShowsFilled g h bank due = (f : FileTables) → HasTables (database_of g bank) f
    → (log : List Command) × ShowsLog (bank_seen h due) log × IsFilledOf f log

abbrev pub ShowsReplay : {S T : Type 0} (g : Ghosts S) (h : Ghosts T) → Bank S g → Bank T h → Type 0
ShowsReplay g h bank due = (f : FileTables) → HasTables (database_of g bank) f
    → (log : List Command) × ShowsLog (bank_seen h due) log × IsReplayOf f log
