use Rattle.std.proofs.Common.{◌<◌, Ok, arith, inl, inr, length, refl}
use Rattle.counter_http.specs.together.Standing.{unread}
use Rattle.std.proofs.lemmas.Result.{err_from_is_err_and}
use Rattle.counter_http.proofs.Asked.{answered_as, answered_nothing, answered_then, asked_none, answered_err}
use Rattle.counter_http.proofs.Faring.{fares_same}
use Rattle.counter_http.proofs.client.Client.next_record.Goals as goal

pub messages-init : goal.messages-init
messages-init g c = record {
  answered = answered_nothing g.C.Counter.seen c.args.bank.now c.args.bank.now c.args.self.now c.args.self.now (Ok tt)
      (asked_none g.C.Counter.seen c.args.bank.now tt) tt (λ fault refused among. fares_same c.args.self.now) refl
      (λ k steps is. is);
  few = omega arith;
  spares = g.met.C.Counter.spares_itself c.args.bank.now;
}

-- many answers are left
pub returns-then-untaken-gt-UNTAKEN : goal.returns-then-untaken-gt-UNTAKEN
returns-then-untaken-gt-UNTAKEN g c =
    record {
      answers = answered_as _ c.messages.invariant.answered;
      «record» = tt;
      rests = λ none. inl (inr (inl (omega (arith, c.untaken.ensures, c.if-untaken-gt-UNTAKEN.true))));
      spares = c.messages.invariant.spares;
    }

-- the bank refused a call
pub returns-in_err-answer_front : goal.returns-in_err-answer_front
returns-in_err-answer_front g c =
    let failed = err_from_is_err_and c.from_residual.result c.from_residual.ensures.1 in
    record {
      answers = rw (failed.1, failed.2) (answered_err (answered_then g.C.Counter.seen c.args.bank.now c.messages.bank
          c.answer_front.new.bank c.args.self.now c.messages.self c.answer_front.new.self _ c.messages.invariant.answered
          c.in_err-answer_front.ensures.answers));
      «record» = rw failed.1 tt;
      rests = rw failed.1 tt;
      spares = g.met.C.Counter.spares_then c.args.bank.now c.messages.bank c.answer_front.new.bank c.messages.invariant.spares
          c.in_err-answer_front.ensures.spares;
    }

-- no more can be done now
pub returns-in-Nothing : goal.returns-in-Nothing
returns-in-Nothing g c =
    record {
      answers = answered_as _ (answered_then g.C.Counter.seen c.args.bank.now c.messages.bank
          c.answer_front.new.bank c.args.self.now c.messages.self c.answer_front.new.self _ c.messages.invariant.answered
          c.in_ok-answer_front.ensures.answers);
      «record» = tt;
      rests = λ none. inl (rw c.in-Nothing.is at c.in_ok-answer_front.ensures.rests);
      spares = g.met.C.Counter.spares_then c.args.bank.now c.messages.bank c.answer_front.new.bank c.messages.invariant.spares
          c.in_ok-answer_front.ensures.spares;
    }

-- a record
pub returns-in-Record : goal.returns-in-Record
returns-in-Record g c =
    record {
      answers = answered_as _ (answered_then g.C.Counter.seen c.args.bank.now c.messages.bank
          c.answer_front.new.bank c.args.self.now c.messages.self c.answer_front.new.self _ c.messages.invariant.answered
          c.in_ok-answer_front.ensures.answers);
      «record» = rw c.in-Record.is at c.in_ok-answer_front.ensures.record;
      rests = λ none. cc none;
      spares = g.met.C.Counter.spares_then c.args.bank.now c.messages.bank c.answer_front.new.bank c.messages.invariant.spares
          c.in_ok-answer_front.ensures.spares;
    }

pub messages-preserved : goal.messages-preserved
messages-preserved g c =
    let one : length (unread c.answer_front.new.self) < length (unread c.messages.self) =
    rw c.in-Answered.is at c.in_ok-answer_front.ensures.rests in record {
      answered = answered_as tt (answered_then g.C.Counter.seen c.args.bank.now c.messages.bank
          c.answer_front.new.bank c.args.self.now c.messages.self c.answer_front.new.self _ c.messages.invariant.answered
          c.in_ok-answer_front.ensures.answers);
      few = omega (arith, c.messages.invariant.few, one);
      spares = g.met.C.Counter.spares_then c.args.bank.now c.messages.bank c.answer_front.new.bank
          c.messages.invariant.spares c.in_ok-answer_front.ensures.spares;
    }

-- two were answered
pub returns : goal.returns
returns g c =
    record {
      answers = answered_as _ c.messages.invariant.answered;
      «record» = tt;
      rests = λ none. inr (omega (arith, c.messages.invariant.few));
      spares = c.messages.invariant.spares;
    }
