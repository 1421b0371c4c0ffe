use Rattle.std.proofs.Common.{◌≡◌, ◌<◌, ◌≤◌, Option, length, take}
use Rattle.std.specs.Prelude.{IfSome}
use Rattle.message_records.specs.declared.limits.TheConstants.{REPLY_BYTES}
use Rattle.posting_core.specs.{believed.EndCalls.EndsWith, EndCalls.IsFlush}
use Rattle.posting_core.proofs.Telling.{HasMade}
use Rattle.posting_sheets.proofs.Decoded.{IsDecodedUpTo}
use Rattle.posting_sheets.specs.{Sheets.Sheet, Walking.AreAfter}
use Rattle.posting_sheets.proofs.decode.decode_lines.Given as goal

-- the lines of all whole replies that were read are written, and their rows were read; the rest stands at the front of
-- the buffer; one read was made a turn, and what was written was flushed
abbrev pub invariant-reads : goal.invariant-reads
invariant-reads g l = record {
  few : l.filled < REPLY_BYTES;
  room : length l.buffer ≡ REPLY_BYTES;
  bound : l.count ≤ l.counter;
  plain : IfSome l.rows (λ rows. g.S.RecordSource.is_plain rows.source);
  after : (beside : Option Sheet) → AreAfter g.S.RecordSource.has_left l.fn.rows beside 0
      → AreAfter g.S.RecordSource.has_left l.rows beside l.count;
  decoded : (beside : Option Sheet) → AreAfter g.S.RecordSource.has_left l.fn.rows beside 0
      → IsDecodedUpTo l.fn.money beside (g.R.Source.remaining l.fn.reader) (g.R.Source.remaining l.reader)
      (g.W.Sink.contents l.fn.writer) (g.W.Sink.contents l.writer) l.count (take l.filled l.buffer);
  made : HasMade (g.R.Source.calls l.fn.reader) (g.R.Source.calls l.reader) l.counter;
  flushed : (beside : Option Sheet) → AreAfter g.S.RecordSource.has_left l.fn.rows beside 0
      → EndsWith IsFlush (g.W.Sink.calls l.fn.writer) (g.W.Sink.calls l.writer);
}
