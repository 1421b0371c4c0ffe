use Rattle.std.proofs.Common.{◌≡◌, drop, map}
use Rattle.httparse.specs.Spans.{header_bytes}
use Rattle.counter_http.specs.believed.Fields.{body_length}
use Rattle.counter_http.proofs.Lengths.{length_after}
use Rattle.counter_http.proofs.fields.length_of_body.Given as goal

abbrev pub invariant-loop-field : goal.invariant-loop-field
invariant-loop-field l =
    body_length (map (header_bytes l.buf) l.fields)
    ≡ length_after l.stated (map (header_bytes l.buf) (drop l.field-index l.fields))
