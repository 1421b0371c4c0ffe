-- What the words of a statement ask for.
use Rattle.std.specs.Prelude.{ℕ, pos, Bool, false, List, codes, Option, Some, None, Result, Ok, Err}
use Rattle.std.specs.Prelude.{option_and_then, unwrap_or, if◌then◌else◌}
use Rattle.std.specs.Str.{bytes_eq}
use Rattle.clap.specs.Words.{Row, Text, first_of}
use Rattle.message_records.specs.believed.Reading.{◌>>=◌}
use Rattle.posting_sheets.specs.Sheets.{reference_of}
use Rattle.report_contents.specs.declared.query.Layout.{Layout}
use Rattle.report_contents.specs.declared.query.Layout.TheVariants.{Columns, Sheet}
use Rattle.report_contents.specs.declared.query.Query.{Query}
use Rattle.command_line.specs.declared.queries.QueryFault.{QueryFault}
use Rattle.command_line.specs.declared.queries.QueryFault.TheVariants.{Reference}
use Rattle.command_line.specs.Dates.{ahead_in, range_told}

-- the reference that a text names, filled with spaces; none where it is empty, too long or not printable
abbrev pub reference_named : Text → Option (List ℕ)
reference_named text = option_and_then (λ reference. reference) (reference_of text)

abbrev pub reference_or_fault : Option (List ℕ) → Result (Option (List ℕ)) QueryFault
reference_or_fault None = Err Reference
reference_or_fault (Some reference) = Ok (Some reference)

-- the reference that is asked for, if one is
abbrev pub reference_told : Option Text → Result (Option (List ℕ)) QueryFault
reference_told None = Ok None
reference_told (Some text) = reference_or_fault (reference_named text)

-- clap makes the value `true` of a flag that is given
abbrev pub is_set : Option Text → Bool
is_set None = false
is_set (Some text) = bytes_eq text (codes "true")

-- as CSV with the times of the zone, or in columns
abbrev pub layout_told : Bool → Option Text → Layout
layout_told csv zone = if csv then Sheet (unwrap_or (ahead_in zone) (pos 0)) else Columns

-- what is asked for, or the first that is wrong
unfoldable pub query_told : (from to zone reference csv : Option Text) → Result Query QueryFault
query_told from to zone reference csv = do
  range ← range_told from to zone
  wanted ← reference_told reference
  Ok (record {
    selection = record { range = range; reference = wanted };
    layout = layout_told (is_set csv) zone;
  })

-- the same by the values of a statement's options
abbrev pub query_in : List Row → Result Query QueryFault
query_in rows = query_told (first_of (codes "from") rows) (first_of (codes "to") rows) (first_of (codes "zone") rows)
    (first_of (codes "reference") rows) (first_of (codes "csv") rows)
