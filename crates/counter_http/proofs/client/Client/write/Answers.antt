use Rattle.std.proofs.Common.{◌≡◌, ◌≤◌, ◌+◌, refl, sym, ap, ◌∙◌, inl, inr, arith, drop, length, Result, Ok, Err, true}
use Rattle.std.proofs.Common.{false}
use Rattle.std.specs.{Prelude.is_err, declared.io.Error.Error}
use Rattle.std.proofs.{lemmas.Bool.true≢false, Math.ListN.length-drop}
use Rattle.std.proofs.lemmas.List.{drop-drop}
use Rattle.posting_core.specs.EndCalls.{IsFlush, IsWriteFailure, flush_call}
use Rattle.posting_core.proofs.Telling.{made_none, other_kind, write_empty, write_failed}
use Rattle.counter_http.proofs.Buffers.{kept, kept_more, last_call, left_in, long_left, none_at_end, one_call}
use Rattle.counter_http.proofs.Buffers.{one_more_call, some_left, took}
use Rattle.counter_http.specs.Connections.{known_ends}
use Rattle.counter_http.proofs.Fronts.{ends_by}
use Rattle.counter_http.proofs.client.Client.write.Goals as goal

unflushed : (r : Result (Unit {0}) Error) → true ≡ is_err r → IsWriteFailure (flush_call r)
unflushed (Ok done) e = absurd (true≢false e)
unflushed (Err fault) e = tt

through : (r : Result (Unit {0}) Error) → false ≡ is_err r → IsFlush (flush_call r)
through (Ok done) e = tt
through (Err fault) e = absurd (true≢false (sym e))

-- no byte was taken
pub returns-in-Ok-eq0 : goal.returns-in-Ok-eq0
returns-in-Ok-eq0 g c =
    let old = c.args.self.now in
    let left = left_in c.deref.result.now old.output.items old.written c.deref.ensures.value in
    inr (inr (record {
      count = c.in-Ok-eq0.field-0;
      contents = g.W.Sink.contents c.take.new.self;
      writes = g.W.Sink.calls c.take.new.self;
      ends = ends_by (known_ends g.R.Source.remaining g.R.Source.calls g.R.Source.beside g.W.Sink.contents g.W.Sink.calls)
          c.lose.ensures.reader c.lose.ensures.writer;
      wrote = took _ _ c.take.result c.in-Ok-eq0.field-0 _ _ left c.in-Ok-eq0.is c.take.ensures.bytes;
      failed = write_empty _ c.take.result c.in-Ok-eq0.field-0 (made_none _) c.take.ensures.tells c.in-Ok-eq0.is
          c.in-Ok-eq0.field-0-test
          (long_left old.output.items _ old.written left old.written_within c.if-is_written.ensures);
      number = c.lose.ensures.number;
      parting = c.lose.ensures.parting;
      none = c.lose.ensures.none;
    }))

-- it takes nothing now
pub returns-then-eq : goal.returns-then-eq
returns-then-eq g c =
    let old = c.args.self.now in
    inr (inl (record {
      count = 0;
      contents = g.W.Sink.contents c.take.new.self;
      writes = g.W.Sink.calls c.take.new.self;
      ends = refl;
      wrote = kept _ _ c.take.result c.in-Err.e _ c.in-Err.is c.take.ensures.bytes;
      more = one_call _ c.take.ensures.tells;
      some = some_left old.output.items old.written old.written_within c.if-is_written.ensures;
      left = refl;
      flushed = λ e. absurd (some_left old.output.items old.written old.written_within c.if-is_written.ensures e);
      number = refl;
      unread_same = refl;
      parting = refl;
      has_more = refl;
      shows = refl;
    }))

-- it failed
pub returns-in-Err : goal.returns-in-Err
returns-in-Err g c =
    let lost = c.lose-in-Err.ensures in
    inr (inr (record {
      count = 0;
      contents = g.W.Sink.contents c.take.new.self;
      writes = g.W.Sink.calls c.take.new.self;
      ends = ends_by (known_ends g.R.Source.remaining g.R.Source.calls g.R.Source.beside g.W.Sink.contents g.W.Sink.calls)
          lost.reader lost.writer;
      wrote = kept _ _ c.take.result c.in-Err.e _ c.in-Err.is c.take.ensures.bytes;
      failed = write_failed _ c.take.result c.in-Err.e (made_none _) c.take.ensures.tells c.in-Err.is
          (other_kind c.kind.result c.in-Err.e c.if-eq.ensures c.kind.ensures);
      number = lost.number;
      parting = lost.parting;
      none = lost.none;
    }))

-- some is left
pub returns-then-not-is_written : goal.returns-then-not-is_written
returns-then-not-is_written g c =
    let old = c.args.self.now in
    let n = c.in-Ok.count in
    let left = left_in c.deref.result.now old.output.items old.written c.deref.ensures.value in
    let len = ap length left in
    let within : old.written + n ≤ length old.output.items =
    omega (arith, c.in-Ok.ensures.bound, len, length-drop old.written old.output.items, old.written_within) in
    inr (inl (record {
      count = n;
      contents = g.W.Sink.contents c.take.new.self;
      writes = g.W.Sink.calls c.take.new.self;
      ends = refl;
      wrote = took _ _ c.take.result n _ _ left c.in-Ok.is c.take.ensures.bytes;
      more = one_call _ c.take.ensures.tells;
      some = some_left old.output.items old.written old.written_within c.if-is_written.ensures;
      left = sym (drop-drop n old.written old.output.items);
      flushed = λ e. absurd (some_left old.output.items (old.written + n) within c.if-not-is_written.ensures e);
      number = refl;
      unread_same = refl;
      parting = refl;
      has_more = refl;
      shows = refl;
    }))

-- it wasn't flushed
pub returns-then-is_err : goal.returns-then-is_err
returns-then-is_err g c =
    let old = c.args.self.now in
    let n = c.in-Ok.count in
    let left = left_in c.deref.result.now old.output.items old.written c.deref.ensures.value in
    let lost = c.lose-then-is_err.ensures in
    inr (inr (record {
      count = n;
      contents = g.W.Sink.contents c.send_on.new.self;
      writes = g.W.Sink.calls c.send_on.new.self;
      ends = ends_by (known_ends g.R.Source.remaining g.R.Source.calls g.R.Source.beside g.W.Sink.contents g.W.Sink.calls)
          lost.reader lost.writer;
      wrote = kept_more _ _ _ _ (took _ _ c.take.result n _ _ left c.in-Ok.is c.take.ensures.bytes)
          c.send_on.ensures.bytes;
      failed = inl (last_call IsWriteFailure _ _ _ c.take.ensures.tells c.send_on.ensures.tells
          (unflushed c.send_on.result c.if-is_err.ensures.value));
      number = lost.number;
      parting = lost.parting;
      none = lost.none;
    }))

-- all was written and flushed
pub returns : goal.returns
returns g c =
    let old = c.args.self.now in
    let n = c.in-Ok.count in
    let left = left_in c.deref.result.now old.output.items old.written c.deref.ensures.value in
    inr (inl (record {
      count = n;
      contents = g.W.Sink.contents c.send_on.new.self;
      writes = g.W.Sink.calls c.send_on.new.self;
      ends = refl;
      wrote = kept_more _ _ _ _ (took _ _ c.take.result n _ _ left c.in-Ok.is c.take.ensures.bytes)
          c.send_on.ensures.bytes;
      more = one_more_call _ _ _ c.take.ensures.tells c.send_on.ensures.tells;
      some = some_left old.output.items old.written old.written_within c.if-is_written.ensures;
      left = ap (drop 0) c.clear.ensures.items
          ∙ sym (drop-drop n old.written old.output.items
          ∙ none_at_end old.output.items (old.written + n) c.if-not-is_written.ensures);
      flushed = λ e. last_call IsFlush _ _ _ c.take.ensures.tells c.send_on.ensures.tells
          (through c.send_on.result c.if-is_err.ensures.value);
      number = refl;
      unread_same = refl;
      parting = refl;
      has_more = refl;
      shows = refl;
    }))
