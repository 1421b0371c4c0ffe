use Rattle.std.proofs.Common.{◌≤◌, ◌-◌, length, take}
use Rattle.std.specs.Io.KnownBytes.{Appends}
use Rattle.posting_core.specs.EndCalls.{HasMore}
use Rattle.posting_core.proofs.transfer.write_each.Given as goal

-- the bytes so far were taken
abbrev pub invariant-writes : goal.invariant-writes
invariant-writes g l = record {
  within : l.done ≤ length l.bytes;
  wrote : Appends (g.W.Sink.contents l.fn.writer) (g.W.Sink.contents l.writer) (take l.done l.bytes);
  more : HasMore (g.W.Sink.calls l.fn.writer) (g.W.Sink.calls l.writer);
}

abbrev pub decreases-writes : goal.decreases-writes
decreases-writes g l = length l.bytes - l.done
