use Rattle.std.proofs.Common.{◌≡◌, ◌≤◌, ◌+◌, ◌∙◌, Option, false, length, take, refl, sym, arith, inl, inr}
use Rattle.std.specs.Result.{is_err}
use Rattle.std.proofs.lemmas.{List.length-take-le, Result.err_from_is_err_and}
use Rattle.message_records.specs.declared.limits.TheConstants.{REPLY_BYTES}
use Rattle.posting_core.specs.EndCalls.{IsFlush}
use Rattle.posting_core.proofs.{Streaming.at_ok, Telling.last_some, Telling.made_many, Telling.made_none, Telling.made_one}
use Rattle.posting_core.proofs.{Telling.more_last, Telling.other_kind, Telling.read_ended, Telling.read_failed}
use Rattle.posting_sheets.specs.{Sheets.Sheet, Walking.AreAfter}
use Rattle.posting_sheets.proofs.Decoded.{IsDecodedUpTo, at_err, broken-ends, decoded-broken, decoded-done, decoded-filled}
use Rattle.posting_sheets.proofs.Decoded.{decoded-first, decoded-full, decoded-kept, decoded-line, decoded-more}
use Rattle.posting_sheets.proofs.Decoded.{decoded-truncated, decoded-unheaded, decoded-unread, written-all}
use Rattle.posting_sheets.proofs.decode.decode_lines.Goals as goal
use Rattle.posting_sheets.proofs.decode.decode_lines.Goals.{else-filled-eq-REPLY_BYTES, in-Err, in-Ok}
use Rattle.posting_sheets.proofs.decode.decode_lines.Goals.{then-filled-eq-REPLY_BYTES+in_ok-write_line}

-- the header can't be written
pub returns-then-is_err-clause-decodes : goal.returns-then-is_err-clause-decodes
returns-then-is_err-clause-decodes g c beside at =
    let w = rw (c.heading_with.ensures, c.is_some.ensures) at c.write_out.ensures.written in
    decoded-unheaded g.S.RecordSource.has_left c.args.rows.now beside _ _ _ _ w.0 at w.1 w.2

pub reads-init : goal.reads-init
reads-init g c =
    let good : is_err c.write_out.result ≡ false = sym c.is_err.ensures.value ∙ c.if-is_err.false in
    record {
      few = omega arith;
      room = refl;
      bound = omega arith;
      plain = c.requires;
      after = λ beside at. at;
      decoded = λ beside at. decoded-first g.S.RecordSource.has_left c.args.rows.now beside _ _ _ _ at
          (written-all c.write_out.result _ _ _ good (rw (c.heading_with.ensures, c.is_some.ensures) at c.write_out.ensures.written));
      made = made_none _;
      flushed = λ beside at. at_err c.write_out.result good c.write_out.ensures.flushed;
    }

-- the input ended
pub returns-in-Ok-eq0-clause-decodes : goal.returns-in-Ok-eq0-clause-decodes
returns-in-Ok-eq0-clause-decodes g c beside at =
    let n = c.in-Ok-eq0.field-0 in
    let none : c.in-Ok-eq0.field-0 ≡ 0 = c.in-Ok-eq0.field-0-test in
    let empty : c.reads.filled ≡ 0 = c.if-filled-eq0.true in
    decoded-done (decoded-more (take (c.reads.filled + n) c.fill_buffer.new.buffer) (c.reads.invariant.decoded beside at)
    (at_ok _ c.fill_buffer.result n c.in-Ok-eq0.is c.fill_buffer.ensures.ok)) (rw (empty, none) refl)

pub returns-in-Ok-eq0-clause-ends : goal.returns-in-Ok-eq0-clause-ends
returns-in-Ok-eq0-clause-ends g c beside at =
    let n = c.in-Ok-eq0.field-0 in
    let none : c.in-Ok-eq0.field-0 ≡ 0 = c.in-Ok-eq0.field-0-test in (
      at_ok _ c.fill_buffer.result n c.in-Ok-eq0.is c.fill_buffer.ensures.end none,
      read_ended c.fill_buffer.result n c.reads.invariant.made c.fill_buffer.ensures.tells c.in-Ok-eq0.is none,
      (c.reads.invariant.flushed beside at),
    )

-- within a reply
pub returns-in-Ok-eq0-2-clause-decodes : goal.returns-in-Ok-eq0-2-clause-decodes
returns-in-Ok-eq0-2-clause-decodes g c beside at =
    let n = c.in-Ok-eq0.field-0 in
    let none : c.in-Ok-eq0.field-0 ≡ 0 = c.in-Ok-eq0.field-0-test in
    let within : c.reads.filled + n ≤ length c.fill_buffer.new.buffer = omega
    (arith, c.reads.invariant.few, c.fill_buffer.auto.buffer, c.reads.invariant.room) in
    let len = length-take-le (c.reads.filled + n) c.fill_buffer.new.buffer within in
    decoded-truncated c.reads.filled (decoded-more (take (c.reads.filled + n) c.fill_buffer.new.buffer)
    (c.reads.invariant.decoded beside at) (at_ok _ c.fill_buffer.result n c.in-Ok-eq0.is c.fill_buffer.ensures.ok)) (omega arith)
    c.reads.invariant.few (omega (arith, len))

pub returns-in-Ok-eq0-2-clause-ends : goal.returns-in-Ok-eq0-2-clause-ends
returns-in-Ok-eq0-2-clause-ends g c beside at =
    let n = c.in-Ok-eq0.field-0 in
    let none : c.in-Ok-eq0.field-0 ≡ 0 = c.in-Ok-eq0.field-0-test in (
      at_ok _ c.fill_buffer.result n c.in-Ok-eq0.is c.fill_buffer.ensures.end none,
      read_ended c.fill_buffer.result n c.reads.invariant.made c.fill_buffer.ensures.tells c.in-Ok-eq0.is none,
      (c.reads.invariant.flushed beside at),
    )

-- the source failed
pub returns-in-Err-2-clause-decodes : goal.returns-in-Err-2-clause-decodes
returns-in-Err-2-clause-decodes g c beside at =
    let within : c.reads.filled ≤ length c.fill_buffer.new.buffer = omega
    (arith, c.reads.invariant.few, c.fill_buffer.auto.buffer, c.reads.invariant.room) in
    let len = length-take-le c.reads.filled c.fill_buffer.new.buffer within in
    decoded-unread (decoded-kept (take c.reads.filled c.fill_buffer.new.buffer) (c.reads.invariant.decoded beside at)
    c.in-Err.ensures.err) (omega (arith, len, c.reads.invariant.few))

pub returns-in-Err-2-clause-ends : goal.returns-in-Err-2-clause-ends
returns-in-Err-2-clause-ends g c beside at = (
  read_failed c.fill_buffer.result c.in-Err.e c.reads.invariant.made c.fill_buffer.ensures.tells c.in-Err.is
      (other_kind c.kind.result c.in-Err.e c.if-eq.ensures c.kind.ensures),
  (c.reads.invariant.flushed beside at),
)

-- bytes that are no reply, or a line that isn't written
pub returns-in_err-write_line-clause-decodes : goal.returns-in_err-write_line-clause-decodes
returns-in_err-write_line-clause-decodes g c beside at =
    let answers = err_from_is_err_and c.from_residual.result c.from_residual.ensures.1 in
    let len : length c.fill_buffer.new.buffer ≡ REPLY_BYTES = c.fill_buffer.auto.buffer ∙ c.reads.invariant.room in
    let on = decoded-filled c.reads.buffer c.fill_buffer.new.buffer c.reads.filled c.match-fill_buffer.filled
    (c.reads.invariant.decoded beside at)
    (elim c.match-fill_buffer.branch [
      | in-Ok w ↦ inl (w.in-Ok.n, w.in-Ok.ensures.ok, w.filled-is)
      | in-Err w ↦ inr (w.in-Err.ensures.err, w.filled-is)
    ]) in
    let whole = decoded-full c.match-fill_buffer.filled c.fill_buffer.new.buffer on c.if-filled-eq-REPLY_BYTES.true len in
    rw (answers.1, answers.2)
    (decoded-broken (g.W.Sink.contents c.write_line.new.writer) beside c.fill_buffer.new.buffer
    c.in_err-write_line.field-0.0 len whole
    (c.in_err-write_line.ensures.line beside (c.reads.invariant.after beside at)).0)

pub returns-in_err-write_line-clause-ends : goal.returns-in_err-write_line-clause-ends
returns-in_err-write_line-clause-ends g c beside at =
    let answers = err_from_is_err_and c.from_residual.result c.from_residual.ensures.1 in
    rw (answers.1, answers.2)
    (broken-ends c.args.money beside (g.W.Sink.contents c.reads.writer) (g.W.Sink.contents c.write_line.new.writer)
    (g.W.Sink.calls c.args.writer.now) (g.W.Sink.calls c.reads.writer) (g.W.Sink.calls c.write_line.new.writer)
    c.reads.count c.fill_buffer.new.buffer c.in_err-write_line.field-0.0 (g.R.Source.remaining c.fill_buffer.new.reader)
    (g.R.Source.calls c.args.reader.now) (g.R.Source.calls c.fill_buffer.new.reader) (c.reads.invariant.flushed beside at)
    (c.in_err-write_line.ensures.line beside (c.reads.invariant.after beside at)).0 (c.in_err-write_line.ensures.answers beside (c.reads.invariant.after beside at)))

-- too many reads
pub returns-clause-decodes : goal.returns-clause-decodes
returns-clause-decodes g c beside at =
    let within : c.reads.filled ≤ length c.reads.buffer = omega
    (arith, c.reads.invariant.few, c.reads.invariant.room) in
    let len = length-take-le c.reads.filled c.reads.buffer within in
    decoded-unread (c.reads.invariant.decoded beside at) (omega (arith, len, c.reads.invariant.few))

pub returns-clause-ends : goal.returns-clause-ends
returns-clause-ends g c beside at =
    (inr (made_many c.reads.invariant.made (omega arith)), c.reads.invariant.flushed beside at)

-- a read more, and a line if it completed a reply
pub reads-preserved : goal.reads-preserved
reads-preserved g c =
    let len : length c.fill_buffer.new.buffer ≡ REPLY_BYTES = c.fill_buffer.auto.buffer ∙ c.reads.invariant.room in
    let on : (beside : Option Sheet) → AreAfter g.S.RecordSource.has_left c.args.rows.now beside 0 → IsDecodedUpTo
    c.args.money beside (g.R.Source.remaining c.args.reader.now) (g.R.Source.remaining c.fill_buffer.new.reader)
    (g.W.Sink.contents c.args.writer.now) (g.W.Sink.contents c.reads.writer) c.reads.count
    (take c.match-fill_buffer.filled c.fill_buffer.new.buffer) = λ beside at.
    decoded-filled c.reads.buffer c.fill_buffer.new.buffer c.reads.filled c.match-fill_buffer.filled
    (c.reads.invariant.decoded beside at)
    (elim c.match-fill_buffer.branch [
      | in-Ok w ↦ inl (w.in-Ok.n, w.in-Ok.ensures.ok, w.filled-is)
      | in-Err w ↦ inr (w.in-Err.ensures.err, w.filled-is)
    ]) in
    let within : c.match-fill_buffer.filled ≤ length c.fill_buffer.new.buffer =
    elim c.match-fill_buffer.branch [
      | in-Ok w ↦ omega (arith, w.in-Ok.ensures.fits, w.filled-is)
      | in-Err w ↦ omega (arith, c.reads.invariant.few, w.filled-is, len)
    ] in
    elim c.if-filled-eq-REPLY_BYTES.branch [
      | then-filled-eq-REPLY_BYTES+in_ok-write_line w ↦
          rw (w.writer-is, w.rows-is, w.filled-is, w.count-is) (record {
            few = omega arith;
            room = len;
            bound = omega (arith, c.reads.invariant.bound);
            plain = w.in_ok-write_line.ensures.plain;
            after = λ beside at.
                (w.in_ok-write_line.ensures.line beside (c.reads.invariant.after beside at)).1;
            decoded = λ beside at. decoded-line c.fill_buffer.new.buffer (c.reads.count + 1)
                (decoded-full c.match-fill_buffer.filled c.fill_buffer.new.buffer (on beside at)
                w.if-filled-eq-REPLY_BYTES.true len)
                (w.in_ok-write_line.ensures.line beside (c.reads.invariant.after beside at)).0 refl;
            made = made_one _ _ c.reads.invariant.made c.fill_buffer.ensures.tells refl;
            flushed = λ beside at. more_last IsFlush (last_some IsFlush (c.reads.invariant.flushed beside at))
                (w.in_ok-write_line.ensures.answers beside (c.reads.invariant.after beside at));
          })
      | else-filled-eq-REPLY_BYTES w ↦
          let other = w.if-filled-eq-REPLY_BYTES.false in
          rw (w.writer-is, w.rows-is, w.filled-is, w.count-is) (record {
            few = omega (arith, within, other, len);
            room = len;
            bound = omega (arith, c.reads.invariant.bound);
            plain = c.reads.invariant.plain;
            after = c.reads.invariant.after;
            decoded = on;
            made = made_one _ _ c.reads.invariant.made c.fill_buffer.ensures.tells refl;
            flushed = c.reads.invariant.flushed;
          })
    ]
