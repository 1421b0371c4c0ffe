use Rattle.std.proofs.Common.{◌≡◌, length, take}
use Rattle.counter_http.specs.together.Submitting.{AnswersEach}
use Rattle.counter_http.proofs.batch.Batch.answer.Given as goal

-- the senders so far are answered
abbrev pub invariant-loop-i : goal.invariant-loop-i
invariant-loop-i g l = record {
  done : AnswersEach l.fn.here.items l.here.items (take l.i l.fn.self.senders.items) (take l.i l.replies);
  long : length l.here.items ≡ length l.fn.here.items;
}
