use Rattle.std.proofs.Common.{◌≡◌, ◌<◌, ◌≤◌, ◌*◌, ◌+◌, ◌-◌, length, take, slice_range}
use Rattle.counter_http.specs.{declared.limits.TheConstants.BUFFER, Next.IsUnfinished}
use Rattle.posting_core.specs.EndCalls.{IsThrough}
use Rattle.posting_core.proofs.Telling.{HasMade}
use Rattle.counter_http.proofs.Prompts.{Prompted}
use Rattle.counter_http.proofs.connection.serve.Given as goal

-- all whole messages that were read are answered, as they were when each read was made, and the rest stands at
-- the front of the buffer; one read was made a turn, and every answer was flushed
abbrev pub invariant-reads : goal.invariant-reads
invariant-reads g l = record {
  few : l.filled < BUFFER;
  room : length l.buffer ≡ BUFFER;
  bound : l.served ≤ 12_289 * l.counter;
  waits : IsUnfinished (take l.filled l.buffer) l.shows_body;
  prompted : Prompted (g.R.Source.remaining l.fn.reader) (g.R.Source.remaining l.reader)
      (g.R.Source.calls l.fn.reader) (g.R.Source.calls l.reader) (g.R.Source.beside l.fn.reader)
      (g.R.Source.beside l.reader) (g.W.Sink.contents l.fn.writer) (g.W.Sink.contents l.writer)
      (g.W.Sink.calls l.fn.writer)
      (g.K.Clock.readings l.fn.clock) (g.K.Clock.readings l.clock) (g.C.Counter.seen l.fn.bank)
      (g.C.Counter.seen l.bank) (take l.filled l.buffer) l.served;
  idle : (g.C.Counter.seen l.fn.bank).is_down → l.bank ≡ l.fn.bank;
  spares : g.C.Counter.spares l.fn.bank l.bank;
  made : HasMade (g.R.Source.calls l.fn.reader) (g.R.Source.calls l.reader) l.counter;
  through : IsThrough (g.W.Sink.calls l.fn.writer) (g.W.Sink.calls l.writer);
}

-- those before a place are answered
abbrev pub invariant-messages : goal.invariant-messages
invariant-messages g l = record {
  order : l.used ≤ l.filled;
  fits : l.filled ≤ BUFFER;
  bound : l.served ≤ l.initial.served + l.used;
  prompted : Prompted (g.R.Source.remaining l.fn.reader) (g.R.Source.remaining l.reader)
      (g.R.Source.calls l.fn.reader) (g.R.Source.calls l.reader) (g.R.Source.beside l.fn.reader)
      (g.R.Source.beside l.reader) (g.W.Sink.contents l.fn.writer) (g.W.Sink.contents l.writer)
      (g.W.Sink.calls l.fn.writer)
      (g.K.Clock.readings l.fn.clock) (g.K.Clock.readings l.clock) (g.C.Counter.seen l.fn.bank)
      (g.C.Counter.seen l.bank) (slice_range l.buffer l.used l.filled) l.served;
  idle : (g.C.Counter.seen l.fn.bank).is_down → l.bank ≡ l.fn.bank;
  spares : g.C.Counter.spares l.fn.bank l.bank;
  through : IsThrough (g.W.Sink.calls l.fn.writer) (g.W.Sink.calls l.writer);
}

abbrev pub decreases-messages : goal.decreases-messages
decreases-messages g l = l.filled - l.used
