-- Which range of time the words of a statement ask for.
use Rattle.std.specs.Prelude.{ℤ, pos, ◌+◌, int_lt, Option, Some, None, Result, Ok, Err, option_map}
use Rattle.std.specs.Prelude.{if◌then◌else◌, is_some, ◌||◌}
use Rattle.std.specs.Option.{ok_or}
use Rattle.clap.specs.Words.{Text}
use Rattle.message_records.specs.believed.Reading.{◌>>=◌}
use Rattle.message_records.specs.declared.limits.TheConstants.{MAX_MOMENT}
use Rattle.report_contents.specs.Calendar.{first_second}
use Rattle.report_contents.specs.Reading.{ahead_of, day_of}
use Rattle.report_contents.specs.declared.range.Range.{Range}
use Rattle.command_line.specs.declared.queries.QueryFault.{QueryFault}
use Rattle.command_line.specs.declared.queries.QueryFault.TheVariants.{From, Order, To, Zone}

-- how far the zone is ahead of UTC, which it is where none is given
abbrev pub ahead_in : Option Text → Option ℤ
ahead_in None = Some (pos 0)
ahead_in (Some text) = ahead_of text

-- the range begins with the first second of its first day, or with the first of all moments
abbrev pub begin_at : ℤ → Option Text → Option ℤ
begin_at ahead None = Some (pos 0)
begin_at ahead (Some text) = option_map (λ day. first_second day ahead) (day_of text)

-- it ends before the day after its last, or after the last of all moments
abbrev pub end_at : ℤ → Option Text → Option ℤ
end_at ahead None = Some (pos (MAX_MOMENT + 1))
end_at ahead (Some text) = option_map (λ day. first_second (day + 1) ahead) (day_of text)

-- no day is after its last
abbrev pub range_of : ℤ → ℤ → Result Range QueryFault
range_of from until = if int_lt from until then Ok (record { from = from; until = until }) else Err Order

-- the range from a day to a day in a zone, or what is wrong with it
unfoldable pub range_between : Option Text → Option Text → Option Text → Result Range QueryFault
range_between from to zone = do
  ahead ← ok_or (ahead_in zone) Zone
  begin ← ok_or (begin_at ahead from) From
  end ← ok_or (end_at ahead to) To
  range_of begin end

abbrev pub some_range : Result Range QueryFault → Result (Option Range) QueryFault
some_range (Ok range) = Ok (Some range)
some_range (Err fault) = Err fault

-- without dates and zone all is asked for
abbrev pub range_told : Option Text → Option Text → Option Text → Result (Option Range) QueryFault
range_told from to zone =
    if is_some from || is_some to || is_some zone then some_range (range_between from to zone) else Ok None
