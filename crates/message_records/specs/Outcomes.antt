-- Which replies show their request.
use Rattle.std.specs.Prelude.{Bool, true, false}
use Rattle.message_records.specs.declared.records.Outcome.{Outcome}
use Rattle.message_records.specs.declared.records.Outcome.TheVariants.{Malformed}

-- a reply shows the request, unless the bytes were none
abbrev pub has_request : Outcome → Bool
has_request Malformed = false
has_request _ = true
