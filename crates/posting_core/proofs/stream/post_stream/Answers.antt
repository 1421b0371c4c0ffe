use Rattle.std.proofs.Common.{◌≡◌, ◌≤◌, ◌<◌, ◌+◌, ◌*◌, ◌/◌, ◌∙◌, [], ◌∷◌, inl, inr, refl, arith, length, take}
use Rattle.std.proofs.Common.{ℕ, List, Result, Ok, Err}
use Rattle.std.specs.{Prelude.◌%◌, declared.io.Error.Error}
use Rattle.std.proofs.lemmas.{List.length-take-le, Result.err_from_is_err_and}
use Rattle.posting_core.specs.{declared.stream.TheConstants.BUFFER, believed.Batches.Batch, Stream.given}
use Rattle.posting_core.specs.{EndCalls.read_call}
use Rattle.posting_core.proofs.{Batched.cut_into, Batched.cut_and_moved, StreamedBatches.going_batch}
use Rattle.posting_core.proofs.{Refused.refused_broken, Refused.up_broken, Output.streams_of, Through.ends_broken}
use Rattle.posting_core.proofs.{Through.through_batch, Through.through_first}
use Rattle.posting_core.proofs.ReadsFollowed.{following_batch, following_first, following_read, following_wrote, gave_none}
use Rattle.posting_core.proofs.ReadsFollowed.{gave_some, up_to}
use Rattle.posting_rules.specs.declared.limits.TheConstants.{RECORDS_PER_BATCH}
use Rattle.posting_rules.proofs.CounterCalls.{idle_after}
use Rattle.posting_core.proofs.Streaming.{going_first, going_filled, going_on, nothing_read, at_ok, few_left}
use Rattle.posting_core.proofs.StreamEnds.{end_whole, end_in_record, end_unread, end_broken}
use Rattle.posting_core.proofs.Telling.{made_many, made_none, made_one, other_kind, read_ended, read_failed}
use Rattle.posting_core.proofs.stream.post_stream.Goals as goal
use Rattle.posting_core.proofs.stream.post_stream.Goals.{then-filled-ge-REQUEST_BYTES+in_ok-reply_to_batch}
use Rattle.posting_core.proofs.stream.post_stream.Goals.{else-filled-ge-REQUEST_BYTES, in-Ok, in-Err}

nothing_more : (filled n : ℕ) → n ≡ 0 → filled ≡ filled + n
nothing_more filled n none = omega arith

-- what was there, and what a read gave
with_some : (r : Result ℕ Error) (n filled all : ℕ) → r ≡ Ok n → all ≡ filled + n
    → filled + given (read_call r ∷ []) ≡ all
with_some r n filled all is sum = omega (arith, gave_some r n is)

with_none : (r : Result ℕ Error) (e : Error) (filled all : ℕ) → r ≡ Err e → all ≡ filled
    → filled + given (read_call r ∷ []) ≡ all
with_none r e filled all is same = omega (arith, gave_none r e is)

-- whole records, and what is left of the bytes that they were cut off
record Sizes (all records left : ℕ) : Type 0 where
  some : 1 ≤ records
  few : records ≤ RECORDS_PER_BATCH
  rest : left < 100
  parts : all ≡ 100 * records + left

sizes : (bytes : List ℕ) (all records left room : ℕ) → length bytes ≡ all → records ≡ length bytes / 100
    → left ≡ length bytes % 100 → 100 ≤ all → all ≤ room → room ≡ BUFFER → Sizes all records left
sizes bytes all records left room len front back whole within long =
    record { some = omega arith; few = omega arith; rest = omega arith; parts = omega arith }

one_batch_more : (count records turns : ℕ) → count ≤ RECORDS_PER_BATCH * turns → records ≤ RECORDS_PER_BATCH
    → count + records ≤ RECORDS_PER_BATCH * (turns + 1)
one_batch_more count records turns bound few = omega arith

answered_some : (count records : ℕ) → 1 ≤ records → count + records ≡ 0 → ⊥
answered_some count records some none = omega arith

pub reads-init : goal.reads-init
reads-init g c = record {
  few = omega arith;
  room = refl;
  bound = omega arith;
  done = [];
  written = [];
  going = going_first _ refl;
  following = following_first _ _ _ _ 0 refl;
  first = λ none. refl;
  up = λ down. (down, refl);
  idle = λ down. refl;
  spares = g.met.C.Counter.spares_itself c.args.bank.now;
  made = made_none _;
  through = through_first _;
}

-- the reader was asked too often
pub returns : goal.returns
returns g c =
    let s = end_unread _ c.reads.invariant.going
    (few_left c.reads.filled c.reads.buffer c.reads.invariant.few c.reads.invariant.room)
    c.reads.invariant.following in
    record {
      streams = streams_of g.C.Counter.seen g.C.Counter.reason c.args.bank.now c.reads.bank _ s tt
          (λ down. (c.reads.invariant.up down).0) c.reads.invariant.idle
          (inr (made_many c.reads.invariant.made (omega arith)), c.reads.invariant.through);
      spares = c.reads.invariant.spares;
    }

-- the reader failed
pub returns-in-Err-2 : goal.returns-in-Err-2
returns-in-Err-2 g c =
    let long : length c.fill_buffer_beside.new.buffer ≡ BUFFER = c.fill_buffer_beside.auto.buffer
    ∙ c.reads.invariant.room in
    let s =
    end_unread _ (going_filled c.reads.buffer c.fill_buffer_beside.new.buffer c.reads.filled c.reads.filled 0
    c.reads.invariant.going
    (nothing_read _ _ c.reads.buffer c.fill_buffer_beside.new.buffer c.reads.filled c.in-Err.ensures.err)
    (nothing_more c.reads.filled 0 refl))
    (few_left c.reads.filled c.fill_buffer_beside.new.buffer c.reads.invariant.few long)
    (following_read _ _ _ c.reads.filled c.reads.filled c.reads.invariant.following (up_to c.reads.filled
    c.reads.invariant.going
    c.reads.invariant.few c.reads.invariant.through)
    c.fill_buffer_beside.ensures.tells c.fill_buffer_beside.ensures.beside
    (with_none _ _ c.reads.filled c.reads.filled c.in-Err.is refl) c.reads.invariant.few) in
    record {
      streams = streams_of g.C.Counter.seen g.C.Counter.reason c.args.bank.now c.reads.bank _ s tt
          (λ down. (c.reads.invariant.up down).0) c.reads.invariant.idle (
            read_failed c.fill_buffer_beside.result c.in-Err.e c.reads.invariant.made c.fill_buffer_beside.ensures.tells c.in-Err.is
                (other_kind c.kind.result c.in-Err.e c.if-eq.ensures c.kind.ensures),
            c.reads.invariant.through,
          );
      spares = c.reads.invariant.spares;
    }

-- the input ended
pub returns-in-Ok-eq0 : goal.returns-in-Ok-eq0
returns-in-Ok-eq0 g c =
    let n = c.in-Ok-eq0.field-0 in
    let none : c.in-Ok-eq0.field-0 ≡ 0 = c.in-Ok-eq0.field-0-test in
    let ended = read_ended c.fill_buffer_beside.result n c.reads.invariant.made c.fill_buffer_beside.ensures.tells
    c.in-Ok-eq0.is none in
    let empty : c.reads.filled ≡ 0 = c.if-filled-eq0.true in
    let s =
    end_whole (take c.reads.filled c.fill_buffer_beside.new.buffer)
    (going_filled c.reads.buffer c.fill_buffer_beside.new.buffer c.reads.filled c.reads.filled n c.reads.invariant.going
    (at_ok _ c.fill_buffer_beside.result n c.in-Ok-eq0.is c.fill_buffer_beside.ensures.ok) (nothing_more c.reads.filled n none))
    (at_ok _ c.fill_buffer_beside.result n c.in-Ok-eq0.is c.fill_buffer_beside.ensures.end none) (rw empty refl)
    (following_read _ _ _ c.reads.filled c.reads.filled c.reads.invariant.following (up_to c.reads.filled
    c.reads.invariant.going
    c.reads.invariant.few c.reads.invariant.through)
    c.fill_buffer_beside.ensures.tells c.fill_buffer_beside.ensures.beside
    (with_some _ n c.reads.filled c.reads.filled c.in-Ok-eq0.is (nothing_more c.reads.filled n none)) c.reads.invariant.few) in
    record {
      streams = streams_of g.C.Counter.seen g.C.Counter.reason c.args.bank.now c.reads.bank _ s tt
          (λ down. (c.reads.invariant.up down).0) c.reads.invariant.idle (ended, c.reads.invariant.through);
      spares = c.reads.invariant.spares;
    }

pub returns-in-Ok-eq0-2 : goal.returns-in-Ok-eq0-2
returns-in-Ok-eq0-2 g c =
    let n = c.in-Ok-eq0.field-0 in
    let none : c.in-Ok-eq0.field-0 ≡ 0 = c.in-Ok-eq0.field-0-test in
    let ended = read_ended c.fill_buffer_beside.result n c.reads.invariant.made c.fill_buffer_beside.ensures.tells
    c.in-Ok-eq0.is none in
    let within : c.reads.filled ≤ length c.fill_buffer_beside.new.buffer = omega
    (arith, c.reads.invariant.few, c.fill_buffer_beside.auto.buffer, c.reads.invariant.room) in
    let s =
    end_in_record (take c.reads.filled c.fill_buffer_beside.new.buffer) c.reads.filled
    (going_filled c.reads.buffer c.fill_buffer_beside.new.buffer c.reads.filled c.reads.filled n c.reads.invariant.going
    (at_ok _ c.fill_buffer_beside.result n c.in-Ok-eq0.is c.fill_buffer_beside.ensures.ok) (nothing_more c.reads.filled n none))
    (at_ok _ c.fill_buffer_beside.result n c.in-Ok-eq0.is c.fill_buffer_beside.ensures.end none)
    (length-take-le c.reads.filled c.fill_buffer_beside.new.buffer within) (omega arith) c.reads.invariant.few
    (following_read _ _ _ c.reads.filled c.reads.filled c.reads.invariant.following (up_to c.reads.filled
    c.reads.invariant.going
    c.reads.invariant.few c.reads.invariant.through)
    c.fill_buffer_beside.ensures.tells c.fill_buffer_beside.ensures.beside
    (with_some _ n c.reads.filled c.reads.filled c.in-Ok-eq0.is (nothing_more c.reads.filled n none)) c.reads.invariant.few) in
    record {
      streams = streams_of g.C.Counter.seen g.C.Counter.reason c.args.bank.now c.reads.bank _ s tt
          (λ down. (c.reads.invariant.up down).0) c.reads.invariant.idle (ended, c.reads.invariant.through);
      spares = c.reads.invariant.spares;
    }

-- a batch broke off
pub returns-in_err-reply_to_batch : goal.returns-in_err-reply_to_batch
returns-in_err-reply_to_batch g c =
    let fault = c.in_err-reply_to_batch.field-0.0 in
    let is = err_from_is_err_and c.from_residual.result c.from_residual.ensures.1 in
    let a = c.in_err-reply_to_batch.ensures.answers in
    let long : length c.fill_buffer_beside.new.buffer ≡ BUFFER = c.fill_buffer_beside.auto.buffer
    ∙ c.reads.invariant.room in
    let on =
    going_on c.reads.buffer c.fill_buffer_beside.new.buffer c.reads.filled c.match-fill_buffer_beside.filled c.reads.invariant.going
    c.reads.invariant.few long
    (elim c.match-fill_buffer_beside.branch [
      | in-Ok w ↦ inl (w.in-Ok.n, w.in-Ok.ensures.ok, w.in-Ok.ensures.fits, w.filled-is)
      | in-Err w ↦ inr (w.in-Err.ensures.err, w.filled-is)
    ]) in
    let len : length (take c.match-fill_buffer_beside.filled c.fill_buffer_beside.new.buffer) ≡ c.match-fill_buffer_beside.filled =
    length-take-le c.match-fill_buffer_beside.filled c.fill_buffer_beside.new.buffer on.1 in
    let cut = cut_into (take c.match-fill_buffer_beside.filled c.fill_buffer_beside.new.buffer) c.as_chunks.result.0.now
    c.as_chunks.result.1.now c.as_chunks.ensures.front c.as_chunks.ensures.back in
    let gave : c.reads.filled + given (read_call c.fill_buffer_beside.result ∷ []) ≡ c.match-fill_buffer_beside.filled =
    elim c.match-fill_buffer_beside.branch [
      | in-Ok w ↦ with_some _ w.in-Ok.n c.reads.filled _ w.in-Ok.is w.filled-is
      | in-Err w ↦ with_none _ w.in-Err.e c.reads.filled _ w.in-Err.is w.filled-is
    ] in
    let rs = c.as_chunks.result.0.now in
    let left = length c.as_chunks.result.1.now in
    let size = sizes (take c.match-fill_buffer_beside.filled c.fill_buffer_beside.new.buffer) _ (length rs) left _ len
    c.as_chunks.ensures.front_len c.as_chunks.ensures.back_len c.if-filled-ge-REQUEST_BYTES.true on.1 long in
    let b : Batch = record { moment = a.0; records = rs } in
    let s =
    end_broken fault a.0 (take c.match-fill_buffer_beside.filled c.fill_buffer_beside.new.buffer) c.as_chunks.result.1.now
    rs on.0 cut (size.some, size.few)
    size.rest a.1 c.in_err-reply_to_batch.ensures.honest a.2
    (following_batch _ b _ _ c.reads.filled left c.reads.invariant.following (up_to c.reads.filled
    c.reads.invariant.going c.reads.invariant.few c.reads.invariant.through) c.fill_buffer_beside.ensures.tells
    c.fill_buffer_beside.ensures.beside
    (gave ∙ size.parts) size.rest) in
    rw (is.1, is.2) (record {
      streams = streams_of g.C.Counter.seen g.C.Counter.reason c.args.bank.now c.reply_to_batch.new.bank _ s
          (refused_broken g.C.Counter.seen g.C.Counter.reason c.args.bank.now c.reads.bank
          c.reply_to_batch.new.bank _ _ fault a.0 _ _ c.as_chunks.result.0.now on.0 cut
          size.rest size.some size.few c.reads.invariant.first c.reads.invariant.up
          c.in_err-reply_to_batch.ensures.honest a.2
          (λ down. let e = (c.in_err-reply_to_batch.ensures.down down).0 in cc e)
          c.in_err-reply_to_batch.ensures.why)
          (up_broken _ _ (g.C.Counter.seen c.args.bank.now) (g.C.Counter.seen c.reads.bank)
          (g.C.Counter.seen c.reply_to_batch.new.bank) _ _ fault a.2 c.in_err-reply_to_batch.ensures.up
          (λ down. (c.reads.invariant.up down).0))
          (idle_after g.C.Counter.seen c.args.bank.now c.reads.bank c.reads.invariant.idle
          c.reply_to_batch.new.bank (λ down. (c.in_err-reply_to_batch.ensures.down down).1))
          (ends_broken _ _ _ _ _ _ _ _ _ _ _ fault c.reads.invariant.through a.2
          c.in_err-reply_to_batch.ensures.calls);
      spares = g.met.C.Counter.spares_then c.args.bank.now c.reads.bank c.reply_to_batch.new.bank
          c.reads.invariant.spares c.in_err-reply_to_batch.ensures.spares;
    })

pub reads-preserved : goal.reads-preserved
reads-preserved g c =
    let long : length c.fill_buffer_beside.new.buffer ≡ BUFFER = c.fill_buffer_beside.auto.buffer
    ∙ c.reads.invariant.room in
    let on =
    going_on c.reads.buffer c.fill_buffer_beside.new.buffer c.reads.filled c.match-fill_buffer_beside.filled c.reads.invariant.going
    c.reads.invariant.few long
    (elim c.match-fill_buffer_beside.branch [
      | in-Ok w ↦ inl (w.in-Ok.n, w.in-Ok.ensures.ok, w.in-Ok.ensures.fits, w.filled-is)
      | in-Err w ↦ inr (w.in-Err.ensures.err, w.filled-is)
    ]) in
    let gave : c.reads.filled + given (read_call c.fill_buffer_beside.result ∷ []) ≡ c.match-fill_buffer_beside.filled =
    elim c.match-fill_buffer_beside.branch [
      | in-Ok w ↦ with_some _ w.in-Ok.n c.reads.filled _ w.in-Ok.is w.filled-is
      | in-Err w ↦ with_none _ w.in-Err.e c.reads.filled _ w.in-Err.is w.filled-is
    ] in
    elim c.if-filled-ge-REQUEST_BYTES.branch [
      | then-filled-ge-REQUEST_BYTES+in_ok-reply_to_batch w ↦
          let a = w.in_ok-reply_to_batch.ensures.answers in
          let rs = w.as_chunks.result.0.now in
          let left = length w.as_chunks.result.1.now in
          let after = w.move_to_front.new.buffer in
          let len : length (take c.match-fill_buffer_beside.filled c.fill_buffer_beside.new.buffer) ≡ c.match-fill_buffer_beside.filled =
          length-take-le c.match-fill_buffer_beside.filled c.fill_buffer_beside.new.buffer on.1 in
          let cut = cut_and_moved c.fill_buffer_beside.new.buffer after c.match-fill_buffer_beside.filled left rs on.1
          w.as_chunks.ensures.front w.as_chunks.ensures.back_len w.move_to_front.ensures in
          let size = sizes (take c.match-fill_buffer_beside.filled c.fill_buffer_beside.new.buffer) _ (length rs) left _
          len w.as_chunks.ensures.front_len w.as_chunks.ensures.back_len w.if-filled-ge-REQUEST_BYTES.true on.1 long in
          rw (w.writer-is, w.clock-is, w.bank-is, w.buffer-is, w.filled-is, w.count-is) (record {
            few = size.rest;
            room = w.move_to_front.auto.buffer ∙ long;
            bound = one_batch_more c.reads.count (length rs) c.reads.counter c.reads.invariant.bound size.few;
            first = λ none. absurd (answered_some c.reads.count (length rs) size.some none);
            up = λ down. absurd (w.in_ok-reply_to_batch.ensures.up down);
            idle = idle_after g.C.Counter.seen c.args.bank.now c.reads.bank c.reads.invariant.idle
                w.reply_to_batch.new.bank (λ down. (w.in_ok-reply_to_batch.ensures.down down).1);
            spares = g.met.C.Counter.spares_then c.args.bank.now c.reads.bank w.reply_to_batch.new.bank
                c.reads.invariant.spares w.in_ok-reply_to_batch.ensures.spares;
            made = made_one _ _ c.reads.invariant.made c.fill_buffer_beside.ensures.tells refl;
            through = through_batch c.reads.invariant.through w.in_ok-reply_to_batch.ensures.calls;
            done = _;
            going = going_batch a.0 (take c.match-fill_buffer_beside.filled c.fill_buffer_beside.new.buffer)
                (take left after) _ rs on.0 cut (size.some, size.few) refl a.1 w.in_ok-reply_to_batch.ensures.honest a.2;
            written = _;
            following = following_wrote _ a.2.written (following_batch _
                (record { moment = a.0; records = rs }) _ _ c.reads.filled left c.reads.invariant.following
                (up_to c.reads.filled c.reads.invariant.going c.reads.invariant.few c.reads.invariant.through)
                c.fill_buffer_beside.ensures.tells c.fill_buffer_beside.ensures.beside
                (gave ∙ size.parts) size.rest);
          })
      | else-filled-ge-REQUEST_BYTES w ↦
          let low = w.if-filled-ge-REQUEST_BYTES.false in
          rw (w.writer-is, w.clock-is, w.bank-is, w.buffer-is, w.filled-is, w.count-is) (record {
            few = low;
            room = long;
            bound = omega (arith, c.reads.invariant.bound);
            done = _;
            going = on.0;
            written = _;
            following = following_read _ _ _ c.reads.filled c.match-fill_buffer_beside.filled c.reads.invariant.following
                (up_to c.reads.filled c.reads.invariant.going c.reads.invariant.few c.reads.invariant.through)
                c.fill_buffer_beside.ensures.tells c.fill_buffer_beside.ensures.beside gave low;
            first = c.reads.invariant.first;
            up = c.reads.invariant.up;
            idle = c.reads.invariant.idle;
            spares = c.reads.invariant.spares;
            made = made_one _ _ c.reads.invariant.made c.fill_buffer_beside.ensures.tells refl;
            through = c.reads.invariant.through;
          })
    ]
