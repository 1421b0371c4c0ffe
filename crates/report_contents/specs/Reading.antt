-- The dates and zones that texts write.
use Rattle.std.specs.Prelude.{ℕ, ◌+◌, ◌*◌, ℤ, pos, neg_ℤ, ◌==◌, ◌&&◌, nat_le, List, length, slice_index, slice_range}
use Rattle.std.specs.Prelude.{Option, Some, None, option_and_then, if◌then◌else◌, Bool}
use Rattle.message_records.specs.believed.Reading.{number_of}
use Rattle.report_contents.specs.Calendar.{day_at}

-- ten bytes, as 2026-11-28
abbrev pub has_hyphens : List ℕ → Bool
has_hyphens text = (length text == 10) && (slice_index text 4 == 45) && (slice_index text 7 == 45)

-- the day of the date that a text writes, none where it is none
unfoldable pub day_of : List ℕ → Option ℕ
day_of text =
    if has_hyphens text
    then option_and_then (λ y. option_and_then (λ m. option_and_then (λ d. day_at y m d)
    (number_of (slice_range text 8 10))) (number_of (slice_range text 5 7))) (number_of (slice_range text 0 4))
    else None

-- seconds ahead of UTC, or behind it; none behind it are written with a plus
abbrev pub with_sign : ℕ → ℕ → Option ℤ
with_sign sign seconds =
    if sign == 43 then Some (pos seconds)
    else if (sign == 45) && nat_le 1 seconds then Some (neg_ℤ (pos seconds)) else None

abbrev pub zone_at : ℕ → ℕ → ℕ → Option ℤ
zone_at sign hours minutes =
    if nat_le hours 23 && nat_le minutes 59 then with_sign sign (hours * 3600 + minutes * 60) else None

-- six bytes, as +01:00
abbrev pub has_colon : List ℕ → Bool
has_colon text = (length text == 6) && (slice_index text 3 == 58)

-- how many seconds the zone that a text writes is ahead of UTC, none where it is none
unfoldable pub ahead_of : List ℕ → Option ℤ
ahead_of text =
    if has_colon text
    then option_and_then (λ h. option_and_then (λ m. zone_at (slice_index text 0) h m)
    (number_of (slice_range text 4 6))) (number_of (slice_range text 1 3))
    else None
