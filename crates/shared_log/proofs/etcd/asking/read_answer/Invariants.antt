-- The bytes so far were read.
use Rattle.std.proofs.Common.{◌≤◌, length, take}
use Rattle.std.specs.Io.KnownBytes.{Consumes}
use Rattle.shared_log.proofs.etcd.asking.read_answer.Given as goal

abbrev pub invariant-reads : goal.invariant-reads
invariant-reads g l = record {
  within : l.filled ≤ length l.buffer.items;
  read : Consumes (g.R.Source.remaining l.fn.reader) (g.R.Source.remaining l.reader) (take l.filled l.buffer.items);
}
