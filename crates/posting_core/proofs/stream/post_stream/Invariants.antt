use Rattle.std.proofs.Common.{◌≡◌, ◌<◌, ◌≤◌, ◌*◌, ℕ, List, length, take}
use Rattle.posting_rules.specs.declared.limits.TheConstants.{RECORDS_PER_BATCH}
use Rattle.posting_core.specs.{declared.stream.TheConstants.BUFFER, believed.Batches.Batch, EndCalls.IsThrough}
use Rattle.posting_core.proofs.{ReadsFollowed.Following, Telling.HasMade, Streaming.Going}
use Rattle.posting_core.proofs.stream.post_stream.Given as goal

-- all whole records that were read are answered, and the rest stands at the front of the buffer; one read was
-- made a turn, beside a writer that had been given all replies; and what was written was flushed
abbrev pub invariant-reads : goal.invariant-reads
invariant-reads g l = record {
  few : l.filled < 100;
  room : length l.buffer ≡ BUFFER;
  bound : l.count ≤ RECORDS_PER_BATCH * l.counter;
  done : List Batch;
  written : List ℕ;
  going : Going (g.R.Source.remaining l.fn.reader) (g.R.Source.remaining l.reader)
      (g.W.Sink.contents l.fn.writer) (g.W.Sink.contents l.writer)
      (g.K.Clock.readings l.fn.clock) (g.K.Clock.readings l.clock) (g.C.Counter.seen l.fn.bank)
      (g.C.Counter.seen l.bank) done (take l.filled l.buffer) l.count written;
  following : Following (g.R.Source.calls l.fn.reader) (g.R.Source.calls l.reader)
      (g.R.Source.beside l.fn.reader) (g.R.Source.beside l.reader) (g.W.Sink.contents l.fn.writer)
      (g.W.Sink.calls l.fn.writer) done l.filled written;
  first : l.count ≡ 0 → l.bank ≡ l.fn.bank;
  up : (g.C.Counter.seen l.bank).is_down → (g.C.Counter.seen l.fn.bank).is_down × (l.count ≡ 0);
  idle : (g.C.Counter.seen l.fn.bank).is_down → l.bank ≡ l.fn.bank;
  spares : g.C.Counter.spares l.fn.bank l.bank;
  made : HasMade (g.R.Source.calls l.fn.reader) (g.R.Source.calls l.reader) l.counter;
  through : IsThrough (g.W.Sink.calls l.fn.writer) (g.W.Sink.calls l.writer);
}
