use Rattle.std.specs.Io.KnownBytes.{Keeps}
use Rattle.posting_core.specs.EndCalls.{IsInterrupted}
use Rattle.posting_core.proofs.Telling.{HasMadeOnly}
use Rattle.posting_core.proofs.transfer.write_some.Given as goal

-- each write so far was interrupted
abbrev pub invariant-writes : goal.invariant-writes
invariant-writes g l = record {
  stays : Keeps (g.W.Sink.contents l.fn.writer) (g.W.Sink.contents l.writer);
  only : HasMadeOnly IsInterrupted (g.W.Sink.calls l.fn.writer) (g.W.Sink.calls l.writer) l.counter;
}
