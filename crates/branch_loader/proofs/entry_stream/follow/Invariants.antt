-- All whole entries that were read were followed, and the rest stands at the front of the buffer.
use Rattle.std.proofs.Common.{◌≡◌, ◌<◌, ◌≤◌, ◌*◌, ◌++◌, List, [], length, take}
use Rattle.std.specs.{Io.KnownBytes.Consumes, List.AllByRecursion}
use Rattle.posting_rules.specs.declared.limits.TheConstants.{RECORDS_PER_BATCH}
use Rattle.posting_core.specs.{Entries.IsEntry, believed.Batches.joined, believed.LogEntries.AnsweredRequest, believed.LogEntries.entries_of}
use Rattle.posting_core.proofs.Telling.{HasMade}
use Rattle.branch_loader.specs.{Following.HasPosted, Following.IsWaiting, declared.entry_stream.TheConstants.BUFFER}
use Rattle.branch_loader.proofs.entry_stream.follow.Given as goal

abbrev pub invariant-reads : goal.invariant-reads
invariant-reads g l = record {
  few : l.filled < 308;
  room : length l.buffer ≡ BUFFER;
  bound : l.count ≤ RECORDS_PER_BATCH * l.counter;
  entries : List AnsweredRequest;
  are : AllByRecursion IsEntry entries;
  count_is : l.count ≡ length entries;
  read : Consumes (g.R.Source.remaining l.fn.reader) (g.R.Source.remaining l.reader)
      (joined (entries_of entries) ++ take l.filled l.buffer);
  made : HasMade (g.R.Source.calls l.fn.reader) (g.R.Source.calls l.reader) l.counter;
  plan : l.follower.plan.now ≡ l.fn.plan;
  waits : IsWaiting l.follower.waiting [];
  posted : HasPosted g.C.Counter.seen g.C.Counter.spares l.fn.plan l.fn.bank l.bank entries [] l.follower.waiting
      l.follower.looked.items;
}
