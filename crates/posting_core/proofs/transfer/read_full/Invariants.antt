use Rattle.std.proofs.Common.{◌≤◌, length, take}
use Rattle.std.specs.Io.KnownBytes.{Consumes}
use Rattle.posting_core.proofs.Telling.{HasMade}
use Rattle.posting_core.proofs.transfer.read_full.Given as goal

-- the bytes so far were read, by one read a turn
abbrev pub invariant-reads : goal.invariant-reads
invariant-reads g l = record {
  within : l.filled ≤ length l.buffer;
  read : Consumes (g.R.Source.remaining l.fn.reader) (g.R.Source.remaining l.reader) (take l.filled l.buffer);
  made : HasMade (g.R.Source.calls l.fn.reader) (g.R.Source.calls l.reader) l.counter;
}
