-- The requests that a plan and a seed draw: record n takes the words 4n to 4n + 3.
use Rattle.std.specs.Prelude.{◌+◌, ◌-◌, ◌*◌, ◌/◌, ◌%◌, ◌||◌, Bool, not, ℕ, zero, suc, List, None}
use Rattle.std.specs.Prelude.{get_or, length, map, nat_eq, nat_lt, if◌then◌else◌, ℤ, pos, ◌-ℤ◌, filter}
use Rattle.std.specs.Prelude.{sum_by, IsPermutation}
use Rattle.std.specs.List.{flat_map, range_with_len}
use Rattle.std.specs.List.Sorted.{IsStrictlyIncreasing}
use Rattle.posting_rules.specs.declared.limits.TheConstants.{TELLERS_PER_BRANCH}
use Rattle.message_records.specs.believed.Records.{RequestFields}
use Rattle.load_driver.specs.declared.driver.TheConstants.{MAX_AMOUNT}
use Rattle.posting_rules.specs.believed.Numbering.{first_account, first_teller}
use Rattle.load_driver.specs.believed.Draw.{draw, word}
use Rattle.branch_loader.specs.believed.Plans.{Rows, Row}

-- ---- the rows of a plan

-- the rows of the plan, in the order of their branches
pub record IsAscending (plan rows : Rows) : Type 0 where
  pub same : IsPermutation plan rows
  pub rising : IsStrictlyIncreasing (map (λ p. p.0) rows)

-- how many accounts the rows have
abbrev pub count_of : Rows → ℕ
count_of rows = sum_by (λ p. p.1) rows

-- ---- the teller (TPC-B 5.3: over all tellers)

-- the place of record n's teller among all tellers
unfoldable pub place_at : Rows → ℕ → ℕ → ℕ
place_at rows seed n = draw (word seed (4 * n)) (TELLERS_PER_BRANCH * length rows)

-- the row of the teller at a place
abbrev pub home_of : Rows → ℕ → Row
home_of rows place = get_or rows (place / TELLERS_PER_BRANCH) (0, 0, None)

-- the teller at a place
abbrev pub teller_of : Rows → ℕ → ℕ
teller_of rows place = first_teller (home_of rows place).0 + place % TELLERS_PER_BRANCH

-- the account is to be one of the teller's branch
abbrev pub is_home : Rows → ℕ → Bool
is_home rows x = nat_lt x 85 || nat_eq (length rows) 1

-- the accounts of a row, ascending
abbrev pub accounts_of : Row → List ℕ
accounts_of p = range_with_len (first_account p.0) p.1

-- the rows of the other branches
abbrev pub others : ℕ → Rows → Rows
others branch rows = filter (λ p. not (nat_eq p.0 branch)) rows

-- the accounts of the other branches, ascending
abbrev pub remote_accounts : ℕ → Rows → List ℕ
remote_accounts branch rows = flat_map accounts_of (others branch rows)

-- the account, by the words for X and for the account itself
unfoldable pub account_by : Rows → Row → ℕ → ℕ → ℕ
account_by rows home choice pick =
    if is_home rows (draw choice 100)
    then first_account home.0 + draw pick home.1
    else get_or (remote_accounts home.0 rows) (draw pick (count_of rows - home.1)) 0

-- ---- the request

-- the amount that a word draws, in cents (TPC-B 5.3)
abbrev pub amount_by : ℕ → ℤ
amount_by word = pos (draw word (2 * MAX_AMOUNT + 1)) -ℤ pos MAX_AMOUNT

-- how many of the first n records have this teller
unfoldable pub earlier : Rows → ℕ → ℕ → ℕ → ℕ
earlier rows seed teller zero = 0
earlier rows seed teller (suc n) = earlier rows seed teller n +
    (if nat_eq (teller_of rows (place_at rows seed n)) teller then 1 else 0)

-- the request of the teller at a place, by three words and its number
abbrev pub request_by : Rows → ℕ → ℕ → ℕ → ℕ → ℕ → RequestFields
request_by rows place choice pick amount number = record {
  account = account_by rows (home_of rows place) choice pick;
  teller = teller_of rows place;
  branch = (home_of rows place).0;
  number = number;
  delta = amount_by amount;
  reference = None;
}

-- record n of ascending rows and a seed
unfoldable pub request_at : Rows → ℕ → ℕ → RequestFields
request_at rows seed n =
    request_by rows (place_at rows seed n) (word seed (4 * n + 1)) (word seed (4 * n + 2))
    (word seed (4 * n + 3))
    (earlier rows seed (teller_of rows (place_at rows seed n)) n + 1)
