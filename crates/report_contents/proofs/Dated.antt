-- The date that has so many days before it is the one so many days after the first.
use Rattle.std.proofs.Common.{◌≡◌, ◌≤◌, ◌<◌, ◌+◌, ◌-◌, ◌==◌, ◌||◌, ℕ, zero, suc, Bool, true, false, refl, ap, ◌∙◌}
use Rattle.std.proofs.Common.{arith}
use Rattle.std.specs.Prelude.{nat_lt, if◌then◌else◌}
use Rattle.std.proofs.lemmas.Bool.Decides.{nat_tests}
use Rattle.report_contents.specs.declared.civil_times.zoned.Date.{Date}
use Rattle.report_contents.specs.Calendar.{days_of_month, days_of_months, days_of_year, days_of_years, is_leap_year}
use Rattle.report_contents.specs.Zoned.{date_of, day_after}

-- a month has days
pub some_month : (y m : ℕ) → 28 ≤ days_of_month y m
some_month y m = go (m == 2) (is_leap_year y) ((m == 4) || (m == 6) || (m == 9) || (m == 11))
  where
    go : (a l b : Bool) → 28 ≤ (if a then (if l then 29 else 28) else if b then 30 else 31)
    go true true b = omega arith
    go true false b = omega arith
    go false l true = omega arith
    go false l false = omega arith

some_year : (y : ℕ) → 365 ≤ days_of_year y
some_year y = go (is_leap_year y)
  where
    go : (l : Bool) → 365 ≤ (if l then 366 else 365)
    go true = omega arith
    go false = omega arith

-- the months of a year have its days
pub months_make_year : (y : ℕ) → days_of_months y 12 ≡ days_of_year y
months_make_year y = go (is_leap_year y)
  where
    go : (l : Bool)
        → 0 + 31 + (if l then 29 else 28) + 31 + 30 + 31 + 30 + 31 + 31 + 30 + 31 + 30 + 31 ≡ (if l then 366 else 365)
    go true = refl
    go false = refl

-- the date after so many years, months of the next one, and days of the next one
abbrev pub made : ℕ → ℕ → ℕ → Date
made k j i = record { year = 1970 + k; month = j + 1; day = i + 1 }

-- ---- a day after

same_month : (k j i : ℕ) → i + 1 < days_of_month (1970 + k) (j + 1) → day_after (made k j i) ≡ made k j (suc i)
same_month k j i within =
    let is : nat_lt (i + 1) (days_of_month (1970 + k) (j + 1)) ≡ true = grind (arith, nat_tests) in
    let one : i + 1 ≡ suc i = omega arith in
    rw is (ap (made k j) one)

next_month : (k j i : ℕ) → i + 1 ≡ days_of_month (1970 + k) (j + 1) → j + 1 < 12
    → day_after (made k j i) ≡ made k (suc j) 0
next_month k j i last within =
    let over : nat_lt (i + 1) (days_of_month (1970 + k) (j + 1)) ≡ false = grind (arith, nat_tests) in
    let is : nat_lt (j + 1) 12 ≡ true = grind (arith, nat_tests) in
    let one : j + 1 ≡ suc j = omega arith in
    rw (over, is) (ap (λ (m : ℕ). made k m 0) one)

next_year : (k : ℕ) → day_after (made k 11 30) ≡ made (suc k) 0 0
next_year k = ap (λ (y : ℕ). let d : Date = record { year = y; month = 1; day = 1 } in d) (omega arith)

-- ---- from the first day on

at_first : (k j i : ℕ) → 0 ≡ days_of_years k + days_of_months (1970 + k) j + i → date_of 0 ≡ made k j i
unfolding date_of
at_first zero zero zero is = refl
at_first zero zero (suc i) is = absurd (omega (arith, is))
at_first zero (suc j) i is = absurd (let some = some_month 1970 (j + 1) in omega (arith, is, some))
at_first (suc k) j i is = absurd (let some = some_year (1970 + k) in omega (arith, is, some))

pub dated : (n k j i : ℕ) → j < 12 → i < days_of_month (1970 + k) (j + 1)
    → n ≡ days_of_years k + days_of_months (1970 + k) j + i → date_of n ≡ made k j i
unfolding date_of
dated zero k j i low within is = at_first k j i is
dated (suc n) k j (suc i) low within is =
    ap day_after (dated n k j i low (omega (arith, within)) (omega (arith, is)))
    ∙ same_month k j i (omega (arith, within))
dated (suc n) k (suc j) zero low within is =
    let days = days_of_month (1970 + k) (j + 1) in
    let some : 28 ≤ days = some_month (1970 + k) (j + 1) in
    let last : (days - 1) + 1 ≡ days = omega (arith, some) in
    ap day_after (dated n k j (days - 1) (omega (arith, low)) (omega (arith, some)) (omega (arith, is, some)))
    ∙ next_month k j (days - 1) last (omega (arith, low))
dated (suc n) (suc k) zero zero low within is =
    let year = months_make_year (1970 + k) in
    ap day_after (dated n k 11 30 (omega arith) (omega arith) (omega (arith, is, year))) ∙ next_year k
dated (suc n) zero zero zero low within is = absurd (omega (arith, is))
