-- The calendar from 1970 to 9999.
use Rattle.std.specs.Prelude.{ℕ, zero, suc, ◌+◌, ◌-◌, ◌*◌, ◌%◌, ℤ, pos, ◌-ℤ◌, Bool, not, ◌==◌, ◌&&◌, ◌||◌, nat_le}
use Rattle.std.specs.Prelude.{Option, Some, None, if◌then◌else◌}

-- every fourth year, but of the full centuries only every fourth
abbrev pub is_leap_year : ℕ → Bool
is_leap_year y = (y % 4 == 0) && (not (y % 100 == 0) || (y % 400 == 0))

abbrev pub days_of_year : ℕ → ℕ
days_of_year y = if is_leap_year y then 366 else 365

-- of a month, by its number from 1 on
abbrev pub days_of_month : ℕ → ℕ → ℕ
days_of_month y m =
    if m == 2 then if is_leap_year y then 29 else 28
    else if (m == 4) || (m == 6) || (m == 9) || (m == 11) then 30 else 31

-- the days of so many years from 1970 on
abbrev pub days_of_years : ℕ → ℕ
days_of_years zero = 0
days_of_years (suc n) = days_of_years n + days_of_year (1970 + n)

-- the days of the first so many months of a year
abbrev pub days_of_months : ℕ → ℕ → ℕ
days_of_months y zero = 0
days_of_months y (suc n) = days_of_months y n + days_of_month y (n + 1)

-- there is such a date
abbrev pub is_date : ℕ → ℕ → ℕ → Bool
is_date y m d = nat_le 1970 y && nat_le y 9999 && nat_le 1 m && nat_le m 12 && nat_le 1 d && nat_le d (days_of_month y m)

-- how many days lie between 1970-01-01 and a date
abbrev pub days_before : ℕ → ℕ → ℕ → ℕ
days_before y m d = days_of_years (y - 1970) + days_of_months y (m - 1) + (d - 1)

-- the day of a date, by how many days are before it; none where there is no such date
abbrev pub day_at : ℕ → ℕ → ℕ → Option ℕ
day_at y m d = if is_date y m d then Some (days_before y m d) else None

-- the second with which a day begins in a zone that is so many seconds ahead of UTC, from 1970-01-01T00:00:00Z on
abbrev pub first_second : ℕ → ℤ → ℤ
first_second day ahead = pos (day * 86400) -ℤ ahead
