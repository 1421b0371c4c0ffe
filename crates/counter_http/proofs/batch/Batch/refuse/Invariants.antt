use Rattle.std.proofs.Common.{◌≡◌, length, take}
use Rattle.counter_http.specs.together.Submitting.{RefusesEach}
use Rattle.counter_http.proofs.batch.Batch.refuse.Given as goal

-- the senders so far are told
abbrev pub invariant-loop-sender : goal.invariant-loop-sender
invariant-loop-sender g l = record {
  done : RefusesEach l.fn.here.items l.here.items (take l.sender-index l.fn.self.senders.items) l.fault;
  long : length l.here.items ≡ length l.fn.here.items;
}
