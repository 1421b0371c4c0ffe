-- The text of a statement as CSV: the times and the amounts of its rows.
use Rattle.std.specs.Prelude.{ℕ, ℤ, pos, ◌/◌, ◌%◌, nat_abs, int_lt, List, ◌++◌}
use Rattle.std.specs.Prelude.{codes, decimal, if◌then◌else◌}
use Rattle.std.specs.Fmt.{signed_decimal}
use Rattle.report_contents.specs.declared.civil_times.zoned.Date.{Date}
use Rattle.report_contents.specs.declared.civil_times.zoned.ZonedTime.{ZonedTime}
use Rattle.report_contents.specs.Zoned.{zoned_time}
use Rattle.posting_sheets.specs.declared.money.Money.TheVariants.{Decimals}
use Rattle.posting_sheets.specs.References.{reference_field}
use Rattle.posting_sheets.specs.Replies.{money_text}
use Rattle.walked_rows.specs.declared.stated.StatedPosting.{StatedPosting}
use Rattle.report_contents.specs.Lines.{filled_to, line}

-- ---- times, as ISO 8601 writes them

abbrev pub two_digits : ℕ → List ℕ
two_digits n = filled_to 48 2 (decimal n)

-- as 2026-11-28
abbrev pub date_text : Date → List ℕ
date_text d = filled_to 48 4 (decimal d.year) ++ codes "-" ++ two_digits d.month ++ codes "-" ++ two_digits d.day

-- as 09:30:00
abbrev pub day_time_text : ZonedTime → List ℕ
day_time_text t = two_digits t.hour ++ codes ":" ++ two_digits t.minute ++ codes ":" ++ two_digits t.second

abbrev pub offset_sign : ℤ → List ℕ
offset_sign ahead = if int_lt ahead (pos 0) then codes "-" else codes "+"

-- as +01:00
abbrev pub offset_text : ℤ → List ℕ
offset_text ahead = offset_sign ahead ++ two_digits (nat_abs ahead / 3600) ++ codes ":"
    ++ two_digits (nat_abs ahead % 3600 / 60)

-- as 2026-11-28T09:30:00+01:00
unfoldable pub time_text : ZonedTime → List ℕ
time_text t = date_text t.date ++ codes "T" ++ day_time_text t ++ offset_text t.ahead

-- ---- rows

abbrev pub sheet_heading : List ℕ
sheet_heading = line (codes "account,ordinal,time,teller,branch,amount,balance,reference")

-- a posting by a clock that is so far ahead of UTC, and the running balance with it
unfoldable pub sheet_line : ℤ → StatedPosting → ℤ → List ℕ
sheet_line ahead s balance =
    let r = s.posting in
    line (signed_decimal r.account ++ codes "," ++ decimal r.ordinal ++ codes ","
    ++ time_text (zoned_time ahead r.moment) ++ codes ","
    ++ signed_decimal r.teller ++ codes "," ++ signed_decimal r.branch ++ codes ","
    ++ money_text Decimals r.delta ++ codes "," ++ money_text Decimals balance ++ codes ","
    ++ reference_field s.reference)
