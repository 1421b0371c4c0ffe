-- Which accounts of other branches a draw counts.
use Rattle.std.specs.Prelude.{◌≡◌, Contains, ◌+◌, ◌-◌, ◌*◌, ℕ}
use Rattle.std.specs.Prelude.{length}
use Rattle.load_driver.specs.believed.Draw.{draw, word}
use Rattle.branch_loader.specs.believed.Plans.{Rows, Row}
use Rattle.load_driver.specs.believed.Requests.{count_of, remote_accounts}

-- ---- the account (TPC-B 5.3: the 85/15 rule)

-- record n's X
abbrev pub x_at : ℕ → ℕ → ℕ
x_at seed n = draw (word seed (4 * n + 1)) 100

-- the others' accounts are all but the branch's own
abbrev pub CountsOthers : Rows → Type 0
CountsOthers rows = (home : Row) → Contains rows home → length (remote_accounts home.0 rows)
    ≡ count_of rows - home.1
