-- One piece more, and the end.
use Rattle.std.proofs.Common.{rules, ◌≡◌, ◌<◌, ◌++◌, drop, arith}
use Rattle.std.proofs.lemmas.Grind.{common_steps}
use Rattle.std.proofs.lemmas.List.{drop_all}
use Rattle.httparse.specs.Spans.{span_bytes}
use Rattle.http1.specs.Decoder.{Continues, Ends, decoder_for}
use Rattle.shared_log.specs.etcd.Answers.{limits}
use Rattle.shared_log.proofs.Pieces.{Goes, ends, goes_on}
use Rattle.shared_log.proofs.etcd.answers.whole_body.Goals as goal

pub returns-in-Ok-End : goal.returns-in-Ok-End
returns-in-Ok-End c =
    let end : Ends c.pieces.decoder c.pieces.rest.now c.decode.new.trailers c.in-Ok-End.len c.in-Ok-End.field-0-1 =
    rw c.in-Ok-End.field-0-is at c.in-Ok-End.ensures.ok in
    record {
      trailers = end.trailers;
      reads = ends limits c.args.framing c.pieces.decoder c.args.bytes.now c.pieces.rest.now c.pieces.body.items
          c.decode.new.trailers c.in-Ok-End.len c.in-Ok-End.field-0-1 c.pieces.invariant end
          (drop_all c.in-Ok-End.len c.pieces.rest.now (omega (arith, c.if-len-rest.true)));
    }

pub pieces-preserved : goal.pieces-preserved
pieces-preserved c =
    let span = c.in-Ok-Data.span in
    let step : (span.start < span.end)
    × Continues c.pieces.decoder c.pieces.rest.now c.decode.new.self span.end (span_bytes c.pieces.rest.now span) =
    rw c.in-Ok-Data.field-0-is at c.in-Ok-Data.ensures.ok in
    let on : Goes (decoder_for limits c.args.framing) c.decode.new.self c.args.bytes.now
    (drop span.end c.pieces.rest.now) (c.pieces.body.items ++ span_bytes c.pieces.rest.now span) =
    goes_on (decoder_for limits c.args.framing) c.pieces.decoder c.decode.new.self c.args.bytes.now c.pieces.rest.now
    c.pieces.body.items span.end (span_bytes c.pieces.rest.now span) c.pieces.invariant step.1 in
    let more : c.extend_from_slice.new.self.items ≡ c.pieces.body.items ++ span_bytes c.pieces.rest.now span =
    first_of (search rules, grind (arith, common_steps)) in
    rw (c.behind-rest.ensures, more) on
