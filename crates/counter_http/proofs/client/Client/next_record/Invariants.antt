use Rattle.std.proofs.Common.{◌+◌, ◌≤◌, Ok, length}
use Rattle.counter_http.specs.Connections.{known_ends}
use Rattle.counter_http.specs.together.Standing.{IsAnswered, unread}
use Rattle.counter_http.proofs.client.Client.next_record.Given as goal

-- the messages so far are answered
abbrev pub invariant-messages : goal.invariant-messages
invariant-messages g l = record {
  answered : IsAnswered {X = Unit {0}} g.C.Counter.seen g.C.Counter.reason (known_ends g.R.Source.remaining g.R.Source.calls
      g.R.Source.beside g.W.Sink.contents g.W.Sink.calls) l.figures l.fn.bank l.bank l.fn.self l.self (Ok tt);
  few : length (unread l.self) + l.counter ≤ length (unread l.fn.self);
  spares : g.C.Counter.spares l.fn.bank l.bank;
}
