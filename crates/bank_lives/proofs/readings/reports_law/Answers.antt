-- A report, as a call of a life or its end.
use Rattle.bank_lives.proofs.Calls.{failed_ends, nothing_ends, nothing_is_call, told_is_call}
use Rattle.bank_lives.proofs.readings.reports_law.Goals as goal

pub returns : goal.returns
returns g c = record {
  answers = λ old new up honest survives stands.
      told_is_call (g.C.Counter.seen old) (g.C.Counter.seen new) up honest survives stands;
  failed = λ old new up honest survives.
      failed_ends (g.C.Counter.seen old) (g.C.Counter.seen new) up honest survives;
  idle = λ it. nothing_is_call (g.C.Counter.seen it);
  stopped = λ it. nothing_ends (g.C.Counter.seen it);
}
