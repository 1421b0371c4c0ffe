-- What a source of the time gave, and the moment that a reading of it is.
use Rattle.std.specs.Prelude.{◌/◌, ℕ, Option, None, Some, Result, Ok, Err, min}
use Rattle.std.specs.Time.{system_time_nanos}
use Rattle.std.specs.declared.io.Error.{Error}
use Rattle.std.specs.declared.time.SystemTime.{SystemTime}
use Rattle.message_records.specs.declared.limits.TheConstants.{MAX_MOMENT}
use Rattle.posting_core.specs.declared.system_clock.SystemClock.{SystemClock}

-- a reading: so many nanoseconds since 1970, none where it failed
abbrev pub Reading : Type 0
Reading = Option ℕ

-- the reading that an answer of the source is
abbrev pub reading_of : Result SystemTime Error → Reading
reading_of (Ok time) = Some (system_time_nanos time)
reading_of (Err error) = None

-- the moment in whole seconds: the last one if the time is later, and 0 if there is no time
abbrev pub moment_at : Reading → ℕ
moment_at None = 0
moment_at (Some nanos) = min (nanos / 1_000_000_000) MAX_MOMENT

-- what the clock reads
abbrev pub source_of : {T : Type 0} → SystemClock T → T
source_of clock = clock.source
