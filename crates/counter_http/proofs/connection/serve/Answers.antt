use Rattle.std.proofs.Common.{◌≡◌, ◌<◌, ◌≤◌, ℕ, ◌+◌, ◌-◌, ◌*◌, List, [], refl, sym, subst, arith, inr, ◌∙◌, length}
use Rattle.std.proofs.Common.{take, Fits, w64}
use Rattle.std.specs.Int.{w128}
use Rattle.std.proofs.lemmas.Result.{err_from_is_err_and}
use Rattle.posting_core.proofs.{Streaming.at_ok, Streaming.nothing_read, Through.through_batch, Through.through_first}
use Rattle.posting_core.proofs.Telling.{made_many, made_none, made_one, other_kind, read_failed}
use Rattle.posting_rules.proofs.CounterCalls.{idle_after}
use Rattle.counter_http.specs.{declared.fault.ServeFault.TheVariants.Write, believed.Messages.No_head}
use Rattle.counter_http.specs.{Next.IsUnfinished}
use Rattle.counter_http.proofs.ConnectionLoop.{going_filled, message_long, unfinished_none, range_all, range_next}
use Rattle.counter_http.proofs.ConnectionLoop.{range_long}
use Rattle.counter_http.proofs.Prompts.{HasRead, has_failed, has_read, message_on, prompt_so_far, prompted_first}
use Rattle.counter_http.proofs.Prompts.{read_on}
use Rattle.counter_http.proofs.Connected.{end_finished, end_unread, end_closed, short_read, hopeless_walk, end_told}
use Rattle.counter_http.proofs.Connected.{end_untold}
use Rattle.counter_http.proofs.{AnsweredTurns.why_after, BrokenOff.end_broken, Sent.ended_at, Sent.error_is, Sent.sent_broken}
use Rattle.counter_http.proofs.connection.serve.Goals as goal
use Rattle.counter_http.proofs.connection.serve.Goals.{in-Ok, in-Err}

-- ---- places in the buffer, and how many answers were written

same_place : (f m n : ℕ) → m ≡ f → n ≡ 0 → m ≡ f + n
same_place f m n e z = omega arith

some_held : (f : ℕ) → (f ≡ 0 → ⊥) → 0 < f
some_held f n = omega arith

held_within : (f n : ℕ) → f < 12_288 → n ≡ 12_288 → f ≤ n
held_within f n h e = omega arith

read_fits : (f n m b : ℕ) → f + n ≤ b → b ≡ 12_288 → m ≡ f + n → m ≤ 12_288
read_fits f n m b h e i = omega arith

kept_fits : (f m : ℕ) → f < 12_288 → m ≡ f → m ≤ 12_288
kept_fits f m h e = omega arith

place_fits : (i n : ℕ) → i ≤ n → n ≡ 12_288 → Fits w64 i
place_fits i n h e = omega arith

from_none : (f s : ℕ) → (0 ≤ f) × (s ≤ s + 0)
from_none f s = (omega arith, omega arith)

-- m bytes from the place u are those of a message, and k stand there up to f
message_within : (u m f k : ℕ) → m ≤ k → k ≡ f - u → u ≤ f → u + m ≤ f
message_within u m f k h e o = omega arith

fewer_left : (u m f k : ℕ) → 0 < m → m ≤ k → k ≡ f - u → u ≤ f → f - (u + m) < f - u
fewer_left u m f k n h e o = omega arith

used_fits : (u m f k : ℕ) → m ≤ k → k ≡ f - u → u ≤ f → f ≤ 12_288 → Fits w64 (u + m)
used_fits u m f k h e o r = omega arith

few_left : (u f k : ℕ) → k ≡ f - u → k < 12_288 → f - u < 12_288
few_left u f k e l = omega arith

one_more : (s t u m : ℕ) → t ≤ s + u → 0 < m → t + 1 ≤ s + (u + m)
one_more s t u m h some = omega arith

-- s answers were written in n reads, and t of them since the last, up to the place u
after_read : (s t u f n : ℕ) → t ≤ s + u → u ≤ f → f ≤ 12_288 → s ≤ 12_289 * n → t ≤ 12_289 * (n + 1)
after_read s t u f n m o r b = omega arith

next_fits : (s n : ℕ) → s ≤ 12_289 * n → n < 18_446_744_073_709_551_615 → Fits w128 (s + 1)
next_fits s n b l = omega arith

message_fits : (s t u f n : ℕ) → t ≤ s + u → u ≤ f → f ≤ 12_288 → s ≤ 12_289 * n
    → n < 18_446_744_073_709_551_615 → Fits w128 (t + 1)
message_fits s t u f n m o r b l = omega arith

-- ---- the loops, and what was served

pub reads-init : goal.reads-init
reads-init g c = record {
  few = omega arith;
  room = c.requires;
  bound = omega arith;
  waits = record { ending = No_head; ends = λ some. absurd (some refl); answer = refl; room = omega arith };
  prompted = prompted_first [] refl;
  idle = λ down. refl;
  spares = g.met.C.Counter.spares_itself c.args.bank.now;
  made = made_none _;
  through = through_first _;
}

-- the reader was asked too often
pub returns : goal.returns
returns g c =
    record {
      served = end_unread g.C.Counter.seen c.args.bank.now c.reads.bank _ c.reads.invariant.prompted.going
          (unfinished_none _ c.reads.invariant.waits) c.reads.invariant.idle;
      why = tt;
      ends = (inr (made_many c.reads.invariant.made (omega arith)), c.reads.invariant.through);
      prompt = prompt_so_far [] refl (λ h. h) c.reads.invariant.prompted;
      spares = c.reads.invariant.spares;
    }

-- the reader failed
pub returns-in-Err-2 : goal.returns-in-Err-2
returns-in-Err-2 g c =
    let old = c.reads.buffer in
    let new = c.fill_buffer_beside.new.buffer in
    record {
      served = end_unread g.C.Counter.seen c.args.bank.now c.reads.bank _
          (going_filled c.reads.buffer c.fill_buffer_beside.new.buffer c.reads.filled c.reads.filled 0
          c.reads.invariant.prompted.going
          (nothing_read _ _ c.reads.buffer c.fill_buffer_beside.new.buffer c.reads.filled c.in-Err.ensures.err)
          (same_place c.reads.filled c.reads.filled 0 refl refl))
          (unfinished_none _ (subst (λ (t : List ℕ). IsUnfinished t c.reads.shows_body) (sym c.in-Err.ensures.err.1)
          c.reads.invariant.waits)) c.reads.invariant.idle;
      why = tt;
      ends = (
        read_failed c.fill_buffer_beside.result c.in-Err.e c.reads.invariant.made c.fill_buffer_beside.ensures.tells c.in-Err.is
            (other_kind c.kind.result c.in-Err.e c.if-eq.ensures c.kind.ensures),
        c.reads.invariant.through,
      );
      prompt = prompt_so_far [] refl (λ h. h) (read_on _ (take c.reads.filled new) c.fill_buffer_beside.result c.reads.invariant.prompted
          (unfinished_none _ c.reads.invariant.waits) c.reads.invariant.through
          (has_failed old new c.reads.filled c.reads.filled c.fill_buffer_beside.result c.in-Err.e c.in-Err.is
          c.in-Err.ensures.err refl) c.fill_buffer_beside.ensures.tells c.fill_buffer_beside.ensures.beside);
      spares = c.reads.invariant.spares;
    }

-- the input ended
pub returns-in-Ok-eq0 : goal.returns-in-Ok-eq0
returns-in-Ok-eq0 g c =
    let n = c.in-Ok-eq0.field-0 in
    let none : c.in-Ok-eq0.field-0 ≡ 0 = c.in-Ok-eq0.field-0-test in
    let empty : c.reads.filled ≡ 0 = c.if-filled-eq0.true in
    let old = c.reads.buffer in
    let new = c.fill_buffer_beside.new.buffer in
    record {
      served = end_finished g.C.Counter.seen c.args.bank.now c.reads.bank (take c.reads.filled c.fill_buffer_beside.new.buffer)
          (going_filled c.reads.buffer c.fill_buffer_beside.new.buffer c.reads.filled c.reads.filled n
          c.reads.invariant.prompted.going
          (at_ok _ c.fill_buffer_beside.result n c.in-Ok-eq0.is c.fill_buffer_beside.ensures.ok)
          (same_place c.reads.filled c.reads.filled n refl none))
          (ended_at c.fill_buffer_beside.result n c.reads.invariant.made c.fill_buffer_beside.ensures.tells c.in-Ok-eq0.is none
          c.fill_buffer_beside.ensures.end) (rw empty refl) c.reads.invariant.idle;
      why = tt;
      ends = c.reads.invariant.through;
      prompt = prompt_so_far [] refl (λ h. h) (read_on _ (take c.reads.filled new) c.fill_buffer_beside.result c.reads.invariant.prompted
          (unfinished_none _ c.reads.invariant.waits) c.reads.invariant.through
          (has_read old new c.reads.filled c.reads.filled n c.fill_buffer_beside.result c.in-Ok-eq0.is
          (at_ok _ c.fill_buffer_beside.result n c.in-Ok-eq0.is c.fill_buffer_beside.ensures.fits)
          (held_within c.reads.filled (length old) c.reads.invariant.few c.reads.invariant.room)
          (at_ok _ c.fill_buffer_beside.result n c.in-Ok-eq0.is c.fill_buffer_beside.ensures.ok)
          (same_place c.reads.filled c.reads.filled n refl c.in-Ok-eq0.field-0-test))
          c.fill_buffer_beside.ensures.tells c.fill_buffer_beside.ensures.beside);
      spares = c.reads.invariant.spares;
    }

pub returns-in-Ok-eq0-2 : goal.returns-in-Ok-eq0-2
returns-in-Ok-eq0-2 g c =
    let short =
    short_read c.reads.buffer c.fill_buffer_beside.new.buffer c.reads.filled c.in-Ok-eq0.field-0 c.fill_buffer_beside.result
    c.reads.invariant.prompted.going
    c.in-Ok-eq0.is c.in-Ok-eq0.field-0-test c.fill_buffer_beside.ensures.ok c.fill_buffer_beside.ensures.end c.reads.invariant.made
    c.fill_buffer_beside.ensures.tells (some_held c.reads.filled c.if-filled-eq0.false)
    (held_within c.reads.filled (length c.reads.buffer) c.reads.invariant.few c.reads.invariant.room)
    (sym c.fill_buffer_beside.auto.buffer)
    c.reads.invariant.waits in
    let n = c.in-Ok-eq0.field-0 in
    let old = c.reads.buffer in
    let new = c.fill_buffer_beside.new.buffer in
    record {
      served = end_told g.C.Counter.seen c.args.bank.now c.reads.bank c.reads.shows_body _
          (take c.reads.filled c.fill_buffer_beside.new.buffer)
          short.0 short.1 c.in_ok-refuse-in-Ok-eq0-2.ensures.written refl c.reads.invariant.idle;
      why = tt;
      ends = through_batch c.reads.invariant.through c.in_ok-refuse-in-Ok-eq0-2.ensures.ends;
      prompt = prompt_so_far [] refl (λ h. h) (read_on _ (take c.reads.filled new) c.fill_buffer_beside.result c.reads.invariant.prompted
          (unfinished_none _ c.reads.invariant.waits) c.reads.invariant.through
          (has_read old new c.reads.filled c.reads.filled n c.fill_buffer_beside.result c.in-Ok-eq0.is
          (at_ok _ c.fill_buffer_beside.result n c.in-Ok-eq0.is c.fill_buffer_beside.ensures.fits)
          (held_within c.reads.filled (length old) c.reads.invariant.few c.reads.invariant.room)
          (at_ok _ c.fill_buffer_beside.result n c.in-Ok-eq0.is c.fill_buffer_beside.ensures.ok)
          (same_place c.reads.filled c.reads.filled n refl c.in-Ok-eq0.field-0-test))
          c.fill_buffer_beside.ensures.tells c.fill_buffer_beside.ensures.beside);
      spares = c.reads.invariant.spares;
    }

pub returns-in_err-refuse-in-Ok-eq0-2 : goal.returns-in_err-refuse-in-Ok-eq0-2
returns-in_err-refuse-in-Ok-eq0-2 g c =
    let short =
    short_read c.reads.buffer c.fill_buffer_beside.new.buffer c.reads.filled c.in-Ok-eq0.field-0 c.fill_buffer_beside.result
    c.reads.invariant.prompted.going
    c.in-Ok-eq0.is c.in-Ok-eq0.field-0-test c.fill_buffer_beside.ensures.ok c.fill_buffer_beside.ensures.end c.reads.invariant.made
    c.fill_buffer_beside.ensures.tells (some_held c.reads.filled c.if-filled-eq0.false)
    (held_within c.reads.filled (length c.reads.buffer) c.reads.invariant.few c.reads.invariant.room)
    (sym c.fill_buffer_beside.auto.buffer)
    c.reads.invariant.waits in
    let failed = err_from_is_err_and c.from_residual.result c.from_residual.ensures.1 in
    let w = c.in_err-refuse-in-Ok-eq0-2.ensures.written in
    let write : c.in_err-refuse-in-Ok-eq0-2.field-0.0 ≡ Write =
    error_is _ _ c.in_err-refuse-in-Ok-eq0-2.ensures.fault in
    let n = c.in-Ok-eq0.field-0 in
    let old = c.reads.buffer in
    let new = c.fill_buffer_beside.new.buffer in
    record {
      served = rw (failed.1, failed.2, write) (end_untold g.C.Counter.seen c.args.bank.now c.reads.bank c.reads.shows_body
          w.0
          (take c.reads.filled c.fill_buffer_beside.new.buffer) short.0 short.1 w.1 c.reads.invariant.idle);
      why = rw (failed.1, failed.2, write) tt;
      ends = rw (failed.1, failed.2) (sent_broken c.in_err-refuse-in-Ok-eq0-2.field-0.0 _ _ _ _ _ c.reads.invariant.through
          c.in_err-refuse-in-Ok-eq0-2.ensures.ends);
      prompt = prompt_so_far [] refl (λ h. h) (read_on _ (take c.reads.filled new) c.fill_buffer_beside.result c.reads.invariant.prompted
          (unfinished_none _ c.reads.invariant.waits) c.reads.invariant.through
          (has_read old new c.reads.filled c.reads.filled n c.fill_buffer_beside.result c.in-Ok-eq0.is
          (at_ok _ c.fill_buffer_beside.result n c.in-Ok-eq0.is c.fill_buffer_beside.ensures.fits)
          (held_within c.reads.filled (length old) c.reads.invariant.few c.reads.invariant.room)
          (at_ok _ c.fill_buffer_beside.result n c.in-Ok-eq0.is c.fill_buffer_beside.ensures.ok)
          (same_place c.reads.filled c.reads.filled n refl c.in-Ok-eq0.field-0-test))
          c.fill_buffer_beside.ensures.tells c.fill_buffer_beside.ensures.beside);
      spares = c.reads.invariant.spares;
    }

-- ---- messages

pub messages-init : goal.messages-init
messages-init g c =
    let long : length c.fill_buffer_beside.new.buffer ≡ 12_288 = c.fill_buffer_beside.auto.buffer ∙ c.reads.invariant.room in
    let held = held_within c.reads.filled (length c.reads.buffer) c.reads.invariant.few c.reads.invariant.room in
    let read : HasRead (g.R.Source.remaining c.reads.reader) (g.R.Source.remaining c.fill_buffer_beside.new.reader)
    c.fill_buffer_beside.result (take c.reads.filled c.reads.buffer)
    (take c.match-fill_buffer_beside.filled c.fill_buffer_beside.new.buffer) =
    elim c.match-fill_buffer_beside.branch [
      | in-Ok w ↦ has_read c.reads.buffer c.fill_buffer_beside.new.buffer c.reads.filled c.match-fill_buffer_beside.filled
          w.in-Ok.n c.fill_buffer_beside.result w.in-Ok.is w.in-Ok.ensures.fits held w.in-Ok.ensures.ok w.filled-is
      | in-Err w ↦ has_failed c.reads.buffer c.fill_buffer_beside.new.buffer c.reads.filled
          c.match-fill_buffer_beside.filled c.fill_buffer_beside.result w.in-Err.e w.in-Err.is w.in-Err.ensures.err w.filled-is
    ] in
    let prompted = read_on _ (take c.match-fill_buffer_beside.filled c.fill_buffer_beside.new.buffer) c.fill_buffer_beside.result
    c.reads.invariant.prompted (unfinished_none _ c.reads.invariant.waits) c.reads.invariant.through read
    c.fill_buffer_beside.ensures.tells c.fill_buffer_beside.ensures.beside in
    let fits : c.match-fill_buffer_beside.filled ≤ 12_288 =
    elim c.match-fill_buffer_beside.branch [
      | in-Ok w ↦ read_fits c.reads.filled w.in-Ok.n c.match-fill_buffer_beside.filled
          (length c.fill_buffer_beside.new.buffer) w.in-Ok.ensures.fits long w.filled-is
      | in-Err w ↦ kept_fits c.reads.filled c.match-fill_buffer_beside.filled c.reads.invariant.few w.filled-is
    ] in
    record {
      order = (from_none c.match-fill_buffer_beside.filled c.reads.served).0;
      fits = fits;
      bound = (from_none c.match-fill_buffer_beside.filled c.reads.served).1;
      prompted = rw range_all prompted;
      idle = c.reads.invariant.idle;
      spares = c.reads.invariant.spares;
      through = c.reads.invariant.through;
    }

pub messages-smaller : goal.messages-smaller
messages-smaller g c =
    let long = message_long c.in-Message.ensures in
    let fits : c.match-fill_buffer_beside.filled ≤ length c.fill_buffer_beside.new.buffer =
    rw (c.fill_buffer_beside.auto.buffer ∙ c.reads.invariant.room) c.messages.invariant.fits in
    let all = range_long c.fill_buffer_beside.new.buffer c.messages.used c.match-fill_buffer_beside.filled fits in
    fewer_left c.messages.used c.in-Message.message.length c.match-fill_buffer_beside.filled _ long.0 long.1 all
    c.messages.invariant.order

pub messages-preserved : goal.messages-preserved
messages-preserved g c =
    let long = message_long c.in-Message.ensures in
    let fits : c.match-fill_buffer_beside.filled ≤ length c.fill_buffer_beside.new.buffer =
    rw (c.fill_buffer_beside.auto.buffer ∙ c.reads.invariant.room) c.messages.invariant.fits in
    let all = range_long c.fill_buffer_beside.new.buffer c.messages.used c.match-fill_buffer_beside.filled fits in
    let order : c.messages.used + c.in-Message.message.length ≤ c.match-fill_buffer_beside.filled =
    message_within c.messages.used c.in-Message.message.length c.match-fill_buffer_beside.filled _ long.1 all
    c.messages.invariant.order in
    let answered = c.in_ok-answer_message-in-Message.ensures.answers in
    record {
      order = order;
      fits = c.messages.invariant.fits;
      bound = one_more c.reads.served c.messages.served c.messages.used c.in-Message.message.length
          c.messages.invariant.bound long.0;
      prompted = message_on g.C.Counter.seen c.messages.bank c.answer_message.new.bank _ _ _
          c.in-Message.message c.messages.invariant.prompted c.in-Message.ensures c.if-message.false
          (range_next c.fill_buffer_beside.new.buffer c.messages.used c.in-Message.message.length
          c.match-fill_buffer_beside.filled order)
          refl answered;
      idle = idle_after g.C.Counter.seen c.args.bank.now c.messages.bank c.messages.invariant.idle
          c.answer_message.new.bank answered.dealt.idle;
      spares = g.met.C.Counter.spares_then c.args.bank.now c.messages.bank c.answer_message.new.bank
          c.messages.invariant.spares c.in_ok-answer_message-in-Message.ensures.spares;
      through = through_batch c.messages.invariant.through answered.dealt.ends;
    }

pub returns-in_err-answer_message-in-Message : goal.returns-in_err-answer_message-in-Message
returns-in_err-answer_message-in-Message g c =
    let fault = c.in_err-answer_message-in-Message.field-0.0 in
    let failed = err_from_is_err_and c.from_residual-in_err-answer_message-in-Message.result
    c.from_residual-in_err-answer_message-in-Message.ensures.1 in
    let before = c.messages.invariant.prompted.going.answered in
    record {
      served = rw (failed.1, failed.2) (end_broken g.C.Counter.seen fault c.args.bank.now c.messages.bank
          c.answer_message.new.bank _ c.in-Message.message c.messages.invariant.prompted.going c.messages.invariant.idle
          c.in-Message.ensures c.in_err-answer_message-in-Message.ensures.answers);
      why = rw (failed.1, failed.2)
          (why_after g.C.Counter.seen g.C.Counter.reason c.args.bank.now c.messages.bank c.answer_message.new.bank
          _ before.takes before.honest c.messages.invariant.idle c.in_err-answer_message-in-Message.field-0.0
          c.in_err-answer_message-in-Message.ensures.answers.dealt.why);
      ends = rw (failed.1, failed.2) (sent_broken fault _ _ _ _ _ c.messages.invariant.through
          c.in_err-answer_message-in-Message.ensures.answers.dealt.ends);
      prompt = prompt_so_far _ c.in_err-answer_message-in-Message.ensures.answers.clock
          c.in_err-answer_message-in-Message.ensures.answers.dealt.honest c.messages.invariant.prompted;
      spares = g.met.C.Counter.spares_then c.args.bank.now c.messages.bank c.answer_message.new.bank
          c.messages.invariant.spares c.in_err-answer_message-in-Message.ensures.spares;
    }

pub returns-then-message : goal.returns-then-message
returns-then-message g c =
    record {
      served = end_closed g.C.Counter.seen c.args.bank.now c.messages.bank c.answer_message.new.bank _ _
          c.in-Message.message c.messages.invariant.prompted.going c.messages.invariant.idle c.in-Message.ensures
          c.if-message.true refl c.in_ok-answer_message-in-Message.ensures.answers;
      why = tt;
      ends = through_batch c.messages.invariant.through c.in_ok-answer_message-in-Message.ensures.answers.dealt.ends;
      prompt = prompt_so_far _ c.in_ok-answer_message-in-Message.ensures.answers.clock
          c.in_ok-answer_message-in-Message.ensures.answers.dealt.honest c.messages.invariant.prompted;
      spares = g.met.C.Counter.spares_then c.args.bank.now c.messages.bank c.answer_message.new.bank
          c.messages.invariant.spares c.in_ok-answer_message-in-Message.ensures.spares;
    }

pub returns-in_err-refuse-in-Refused : goal.returns-in_err-refuse-in-Refused
returns-in_err-refuse-in-Refused g c =
    let failed = err_from_is_err_and c.from_residual-in_err-refuse-in-Refused.result
    c.from_residual-in_err-refuse-in-Refused.ensures.1 in
    let w = c.in_err-refuse-in-Refused.ensures.written in
    let write : c.in_err-refuse-in-Refused.field-0.0 ≡ Write =
    error_is _ _ c.in_err-refuse-in-Refused.ensures.fault in
    let going = c.messages.invariant.prompted.going in
    record {
      served = rw (failed.1, failed.2, write) (end_untold g.C.Counter.seen c.args.bank.now c.messages.bank c.in-Refused.shows
          w.0 _ going (hopeless_walk _ going c.in-Refused.ensures) w.1 c.messages.invariant.idle);
      why = rw (failed.1, failed.2, write) tt;
      ends = rw (failed.1, failed.2) (sent_broken c.in_err-refuse-in-Refused.field-0.0 _ _ _ _ _
          c.messages.invariant.through c.in_err-refuse-in-Refused.ensures.ends);
      prompt = prompt_so_far [] refl (λ h. h) c.messages.invariant.prompted;
      spares = c.messages.invariant.spares;
    }

pub returns-in-Refused : goal.returns-in-Refused
returns-in-Refused g c =
    let w = c.in_ok-refuse-in-Refused.ensures.written in
    let going = c.messages.invariant.prompted.going in
    record {
      served = end_told g.C.Counter.seen c.args.bank.now c.messages.bank c.in-Refused.shows _ _ going
          (hopeless_walk _ going c.in-Refused.ensures) w refl c.messages.invariant.idle;
      why = tt;
      ends = through_batch c.messages.invariant.through c.in_ok-refuse-in-Refused.ensures.ends;
      prompt = prompt_so_far [] refl (λ h. h) c.messages.invariant.prompted;
      spares = c.messages.invariant.spares;
    }

pub reads-preserved : goal.reads-preserved
reads-preserved g c =
    let fits : c.match-fill_buffer_beside.filled ≤ length c.fill_buffer_beside.new.buffer =
    rw (c.fill_buffer_beside.auto.buffer ∙ c.reads.invariant.room) c.messages.invariant.fits in
    let all = range_long c.fill_buffer_beside.new.buffer c.messages.used c.match-fill_buffer_beside.filled fits in
    let moved = c.move_to_front.ensures in
    record {
      few = few_left c.messages.used c.match-fill_buffer_beside.filled _ all c.in-Unfinished.ensures.room;
      room = c.move_to_front.auto.buffer ∙ c.fill_buffer_beside.auto.buffer ∙ c.reads.invariant.room;
      bound = after_read c.reads.served c.messages.served c.messages.used c.match-fill_buffer_beside.filled
          c.reads.counter c.messages.invariant.bound c.messages.invariant.order c.messages.invariant.fits
          c.reads.invariant.bound;
      waits = rw moved c.in-Unfinished.ensures;
      prompted = rw moved c.messages.invariant.prompted;
      idle = c.messages.invariant.idle;
      spares = c.messages.invariant.spares;
      made = made_one _ _ c.reads.invariant.made c.fill_buffer_beside.ensures.tells refl;
      through = c.messages.invariant.through;
    }

-- ---- numbers that fit, and what the calls require

pub fill_buffer_beside-requires : goal.fill_buffer_beside-requires
fill_buffer_beside-requires g c = rw c.reads.invariant.room c.reads.invariant.few

pub overflow_add-result : goal.overflow_add-result
overflow_add-result g c = next_fits c.reads.served c.reads.counter c.reads.invariant.bound c.reads-test.true

pub overflow_add-filled : goal.overflow_add-filled
overflow_add-filled g c =
    place_fits (c.reads.filled + c.in-Ok.n) (length c.fill_buffer_beside.new.buffer) c.in-Ok.ensures.fits
    (c.fill_buffer_beside.auto.buffer ∙ c.reads.invariant.room)

pub overflow_add-served : goal.overflow_add-served
overflow_add-served g c =
    let m = c.messages.invariant in
    message_fits c.reads.served c.messages.served c.messages.used c.match-fill_buffer_beside.filled c.reads.counter
    m.bound m.order m.fits c.reads.invariant.bound c.reads-test.true

pub overflow_add-result-in-Refused : goal.overflow_add-result-in-Refused
overflow_add-result-in-Refused g c =
    let m = c.messages.invariant in
    message_fits c.reads.served c.messages.served c.messages.used c.match-fill_buffer_beside.filled c.reads.counter
    m.bound m.order m.fits c.reads.invariant.bound c.reads-test.true

pub move_to_front-requires-clause-order : goal.move_to_front-requires-clause-order
move_to_front-requires-clause-order g c = c.messages.invariant.order

pub move_to_front-requires-clause-within : goal.move_to_front-requires-clause-within
move_to_front-requires-clause-within g c =
    rw (c.fill_buffer_beside.auto.buffer ∙ c.reads.invariant.room) c.messages.invariant.fits

pub overflow_sub-filled : goal.overflow_sub-filled
overflow_sub-filled g c = c.messages.invariant.order

pub overflow_add-used : goal.overflow_add-used
overflow_add-used g c =
    let fits : c.match-fill_buffer_beside.filled ≤ length c.fill_buffer_beside.new.buffer =
    rw (c.fill_buffer_beside.auto.buffer ∙ c.reads.invariant.room) c.messages.invariant.fits in
    used_fits c.messages.used c.in-Message.message.length c.match-fill_buffer_beside.filled _
    (message_long c.in-Message.ensures).1
    (range_long c.fill_buffer_beside.new.buffer c.messages.used c.match-fill_buffer_beside.filled fits)
    c.messages.invariant.order c.messages.invariant.fits
