-- The date and the time of day at which a clock in a zone stands.
use Rattle.std.specs.Prelude.{ℕ, zero, suc, ◌+◌, ◌/◌, ◌%◌, ℤ, pos, ◌+ℤ◌, nat_abs, nat_lt, int_lt, ◌||◌}
use Rattle.std.specs.Prelude.{Option, Some, None, if◌then◌else◌}
use Rattle.message_records.specs.declared.limits.TheConstants.{MAX_MOMENT}
use Rattle.report_contents.specs.Calendar.{days_of_month}
use Rattle.report_contents.specs.declared.civil_times.zoned.Date.{Date}
use Rattle.report_contents.specs.declared.civil_times.zoned.ZonedTime.{ZonedTime}

-- the next day of the month, or the first of the next month, or the first of the next year
abbrev pub day_after : Date → Date
day_after d =
    if nat_lt d.day (days_of_month d.year d.month) then record { year = d.year; month = d.month; day = d.day + 1 }
    else if nat_lt d.month 12 then record { year = d.year; month = d.month + 1; day = 1 }
    else record { year = d.year + 1; month = 1; day = 1 }

-- the date so many days after 1970-01-01
unfoldable pub date_of : ℕ → Date
date_of zero = record { year = 1970; month = 1; day = 1 }
date_of (suc n) = day_after (date_of n)

-- the seconds after 1970-01-01T00:00:00 that a clock shows which is so far ahead of UTC; none where its year is none
-- from 1970 to 9999
abbrev pub shown_at : ℤ → ℕ → Option ℕ
shown_at ahead moment =
    let there = pos moment +ℤ ahead in
    if int_lt there (pos 0) || int_lt (pos MAX_MOMENT) there then None else Some (nat_abs there)

-- what a clock shows that is so far ahead of UTC
abbrev pub clock_at : ℤ → ℕ → ZonedTime
clock_at ahead second = record {
  date = date_of (second / 86400);
  hour = second % 86400 / 3600;
  minute = second % 3600 / 60;
  second = second % 60;
  ahead = ahead;
}

abbrev pub clock_or_utc : ℤ → ℕ → Option ℕ → ZonedTime
clock_or_utc ahead moment None = clock_at (pos 0) moment
clock_or_utc ahead moment (Some second) = clock_at ahead second

-- a moment by a clock so far ahead of UTC, and where that shows no year from 1970 to 9999, by one in UTC
abbrev pub zoned_time : ℤ → ℕ → ZonedTime
zoned_time ahead moment = clock_or_utc ahead moment (shown_at ahead moment)
