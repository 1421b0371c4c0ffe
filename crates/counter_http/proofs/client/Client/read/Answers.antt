use Rattle.std.proofs.Common.{◌≡◌, ◌≤◌, ◌+◌, ℕ, List, [], length, take, Option, Some, None, Bool, false, Result, Ok, Err}
use Rattle.std.proofs.Common.{refl, sym, ap, subst, ◌∙◌, append-nil, inl, inr, arith}
use Rattle.std.specs.Prelude.{◌≢◌, is_some}
use Rattle.std.specs.{IoError.error_kind, declared.io.Error.Error, declared.io.ErrorKind.TheVariants.Interrupted}
use Rattle.std.proofs.lemmas.{Bool.true≢false}
use Rattle.std.proofs.lemmas.List.{length-take-le, with_items_is}
use Rattle.posting_core.specs.EndCalls.{IsReadFailure, read_call}
use Rattle.posting_core.specs.believed.EndCalls.{IsEndOfInput}
use Rattle.posting_core.proofs.Telling.{other_kind}
use Rattle.counter_http.proofs.Buffers.{none_at_end}
use Rattle.counter_http.proofs.Prompts.{HasRead, has_failed, has_read}
use Rattle.counter_http.proofs.Readings.{made_read, none_came, none_failed, same_ended, says_at_end}
use Rattle.counter_http.specs.together.Reading.{Silent}
use Rattle.counter_http.proofs.client.Client.read.Goals as goal

none_if : {A : Type 0} (o : Option A) (b : Bool) → b ≡ is_some o → b ≡ false → o ≡ None
none_if None b e f = refl
none_if (Some x) b e f = absurd (true≢false (sym e ∙ f))

some_read : (items : List ℕ) (filled : ℕ) → filled ≤ length items → (filled ≡ 0 → ⊥) → take filled items ≢ []
some_read items filled within some e =
    let len = ap length e in
    some (omega (arith, len, length-take-le filled items within))

is_end : (r : Result ℕ Error) (n : ℕ) → r ≡ Ok n → n ≡ 0 → IsEndOfInput (read_call r)
is_end r n is none = subst (λ (x : Result ℕ Error). IsEndOfInput (read_call x)) (sym is) none

is_failure : (r : Result ℕ Error) (e : Error) → r ≡ Err e → error_kind e ≢ Interrupted → IsReadFailure (read_call r)
is_failure r e is kind = subst (λ (x : Result ℕ Error). IsReadFailure (read_call x)) (sym is) kind

still_within : (items old new : List ℕ) (n : ℕ) → items ≡ new → length new ≡ length old → n ≤ length old
    → n ≤ length items
still_within items old new n e same within = rw (e, same) within

now_within : (items new : List ℕ) (n : ℕ) → items ≡ new → n ≤ length new → n ≤ length items
now_within items new n e within = rw e within

-- ---- what stands in its buffers

pub invariant_of-self : goal.invariant_of-self
invariant_of-self g c = record {
  filled_within = c.args.self.now.filled_within;
  written_within = c.args.self.now.written_within;
}

pub invariant_of-self-then-self-len : goal.invariant_of-self-then-self-len
invariant_of-self-then-self-len g c = record {
  filled_within = c.args.self.now.filled_within;
  written_within = c.args.self.now.written_within;
}

pub invariant_of-self-in-Ok : goal.invariant_of-self-in-Ok
invariant_of-self-in-Ok g c =
    let old = c.args.self.now in
    let fill = c.fill_buffer_beside in
    record {
      filled_within = now_within _ fill.new.buffer (old.filled + c.in-Ok.n) (with_items_is old.input fill.new.buffer
          (fill.auto.buffer ∙ c.deref_mut.ensures.len)) c.in-Ok.ensures.fits;
      written_within = old.written_within;
    }

pub invariant_of-self-then-eq : goal.invariant_of-self-then-eq
invariant_of-self-then-eq g c =
    let old = c.args.self.now in
    let fill = c.fill_buffer_beside in
    record {
      filled_within = still_within _ old.input.items fill.new.buffer old.filled (with_items_is old.input fill.new.buffer
          (fill.auto.buffer ∙ c.deref_mut.ensures.len)) (fill.auto.buffer ∙ ap length c.deref_mut.ensures.value)
          old.filled_within;
      written_within = old.written_within;
    }

pub invariant_of-self-in-Err : goal.invariant_of-self-in-Err
invariant_of-self-in-Err g c =
    let old = c.args.self.now in
    let fill = c.fill_buffer_beside in
    record {
      filled_within = still_within _ old.input.items fill.new.buffer old.filled (with_items_is old.input fill.new.buffer
          (fill.auto.buffer ∙ c.deref_mut.ensures.len)) (fill.auto.buffer ∙ ap length c.deref_mut.ensures.value)
          old.filled_within;
      written_within = old.written_within;
    }

pub invariant_of-self-then-self-eq0 : goal.invariant_of-self-then-self-eq0
invariant_of-self-then-self-eq0 g c =
    let old = c.args.self.now in
    let fill = c.fill_buffer_beside in
    record {
      filled_within = still_within _ old.input.items fill.new.buffer old.filled (with_items_is old.input fill.new.buffer
          (fill.auto.buffer ∙ c.deref_mut.ensures.len)) (fill.auto.buffer ∙ ap length c.deref_mut.ensures.value)
          old.filled_within;
      written_within = old.written_within;
    }

pub invariant_of-self-else-self-eq0 : goal.invariant_of-self-else-self-eq0
invariant_of-self-else-self-eq0 g c =
    let old = c.args.self.now in
    let fill = c.fill_buffer_beside in
    record {
      filled_within = still_within _ old.input.items fill.new.buffer old.filled (with_items_is old.input fill.new.buffer
          (fill.auto.buffer ∙ c.deref_mut.ensures.len)) (fill.auto.buffer ∙ ap length c.deref_mut.ensures.value)
          old.filled_within;
      written_within = old.written_within;
    }

-- ---- what was read

-- bytes came
pub returns-in-Ok : goal.returns-in-Ok
returns-in-Ok g c =
    let old = c.args.self.now in
    let fill = c.fill_buffer_beside in
    let read : HasRead (g.R.Source.remaining old.reader) (g.R.Source.remaining fill.new.reader) fill.result
    (take old.filled old.input.items) (take (old.filled + c.in-Ok.n) fill.new.buffer) =
    has_read old.input.items fill.new.buffer old.filled (old.filled + c.in-Ok.n) c.in-Ok.n fill.result c.in-Ok.is
    c.in-Ok.ensures.fits old.filled_within (rw c.deref_mut.ensures.value at c.in-Ok.ensures.ok) refl in
    inr (inl (record {
      answer = fill.result;
      bytes = read.bytes;
      made = made_read g.R.Source.remaining g.R.Source.calls g.R.Source.beside g.W.Sink.contents g.W.Sink.calls old _
          fill.new.reader fill.result read.bytes
          (none_if old.parting c.is_some.result c.is_some.ensures c.if-is_some.false) c.if-self.false
          (none_at_end old.output.items old.written c.if-not-is_written.ensures) refl refl refl read.got read.long
          fill.ensures.tells fill.ensures.beside;
      goes_on = none_if old.parting c.is_some.result c.is_some.ensures c.if-is_some.false;
      more = λ e. absurd (true≢false e);
      shows = refl;
      added = ap (take (old.filled + c.in-Ok.n)) (with_items_is old.input fill.new.buffer
          (fill.auto.buffer ∙ c.deref_mut.ensures.len)) ∙ read.all_is;
      none = none_at_end old.output.items old.written c.if-not-is_written.ensures;
    }))

-- none came for now
pub returns-then-eq : goal.returns-then-eq
returns-then-eq g c =
    let old = c.args.self.now in
    let fill = c.fill_buffer_beside in
    let read : HasRead (g.R.Source.remaining old.reader) (g.R.Source.remaining fill.new.reader) fill.result
    (take old.filled old.input.items) (take old.filled fill.new.buffer) =
    has_failed old.input.items fill.new.buffer old.filled old.filled fill.result c.in-Err.e c.in-Err.is
    (rw c.deref_mut.ensures.value at c.in-Err.ensures.err) refl in
    let none = none_failed _ _ fill.result c.in-Err.e read.bytes c.in-Err.is read.long read.got in
    let kept : take old.filled fill.new.buffer ≡ take old.filled old.input.items =
    (rw c.deref_mut.ensures.value at c.in-Err.ensures.err).1 in
    inr (inl (record {
      answer = fill.result;
      bytes = [];
      made = made_read g.R.Source.remaining g.R.Source.calls g.R.Source.beside g.W.Sink.contents g.W.Sink.calls old _
          fill.new.reader fill.result []
          (none_if old.parting c.is_some.result c.is_some.ensures c.if-is_some.false) c.if-self.false
          (none_at_end old.output.items old.written c.if-not-is_written.ensures) refl refl refl none.0 none.1
          fill.ensures.tells fill.ensures.beside;
      goes_on = none_if old.parting c.is_some.result c.is_some.ensures c.if-is_some.false;
      more = λ e. refl;
      shows = refl;
      added = ap (take old.filled) (with_items_is old.input fill.new.buffer
          (fill.auto.buffer ∙ c.deref_mut.ensures.len)) ∙ kept ∙ sym (append-nil (take old.filled old.input.items));
      none = none_at_end old.output.items old.written c.if-not-is_written.ensures;
    }))

-- the reader failed
pub returns-else-eq : goal.returns-else-eq
returns-else-eq g c =
    let old = c.args.self.now in
    let fill = c.fill_buffer_beside in
    let read : HasRead (g.R.Source.remaining old.reader) (g.R.Source.remaining fill.new.reader) fill.result
    (take old.filled old.input.items) (take old.filled fill.new.buffer) =
    has_failed old.input.items fill.new.buffer old.filled old.filled fill.result c.in-Err.e c.in-Err.is
    (rw c.deref_mut.ensures.value at c.in-Err.ensures.err) refl in
    let none = none_failed _ _ fill.result c.in-Err.e read.bytes c.in-Err.is read.long read.got in
    inr (inr (inr (record {
      answer = fill.result;
      made = made_read g.R.Source.remaining g.R.Source.calls g.R.Source.beside g.W.Sink.contents g.W.Sink.calls old _
          fill.new.reader fill.result []
          (none_if old.parting c.is_some.result c.is_some.ensures c.if-is_some.false) c.if-self.false
          (none_at_end old.output.items old.written c.if-not-is_written.ensures) refl refl refl none.0 none.1
          fill.ensures.tells fill.ensures.beside;
      failed = is_failure fill.result c.in-Err.e c.in-Err.is
          (other_kind c.kind.result c.in-Err.e c.if-eq.ensures c.kind.ensures);
      none = none_at_end old.output.items old.written c.if-not-is_written.ensures;
      parting = refl;
    })))

-- the input ended, with nothing left
pub returns-then-self-eq0 : goal.returns-then-self-eq0
returns-then-self-eq0 g c =
    let old = c.args.self.now in
    let fill = c.fill_buffer_beside in
    let n = c.in-Ok-eq0.field-0 in
    let zero : c.in-Ok-eq0.field-0 ≡ 0 = c.in-Ok-eq0.field-0-test in
    let read : HasRead (g.R.Source.remaining old.reader) (g.R.Source.remaining fill.new.reader) fill.result
    (take old.filled old.input.items) (take (old.filled + n) fill.new.buffer) =
    has_read old.input.items fill.new.buffer old.filled (old.filled + n) n fill.result c.in-Ok-eq0.is
    c.in-Ok-eq0.ensures.fits old.filled_within (rw c.deref_mut.ensures.value at c.in-Ok-eq0.ensures.ok) refl in
    let none = none_came _ _ fill.result n read.bytes c.in-Ok-eq0.is zero read.long read.got in
    let empty : old.filled ≡ 0 = c.if-self-eq0.true in
    inr (inr (inl (record {
      answer = fill.result;
      made = made_read g.R.Source.remaining g.R.Source.calls g.R.Source.beside g.W.Sink.contents g.W.Sink.calls old _
          fill.new.reader fill.result []
          (none_if old.parting c.is_some.result c.is_some.ensures c.if-is_some.false) c.if-self.false
          (none_at_end old.output.items old.written c.if-not-is_written.ensures) refl refl refl none.0 none.1
          fill.ensures.tells fill.ensures.beside;
      end = is_end fill.result n c.in-Ok-eq0.is zero;
      none = c.in-Ok-eq0.ensures.end zero;
      says = Silent (ap (λ (k : ℕ). take k old.input.items) empty)
          (none_at_end old.output.items old.written c.if-not-is_written.ensures) refl;
    })))

-- the input ended in what is no message
pub returns-else-self-eq0 : goal.returns-else-self-eq0
returns-else-self-eq0 g c =
    let old = c.args.self.now in
    let fill = c.fill_buffer_beside in
    let n = c.in-Ok-eq0.field-0 in
    let zero : c.in-Ok-eq0.field-0 ≡ 0 = c.in-Ok-eq0.field-0-test in
    let read : HasRead (g.R.Source.remaining old.reader) (g.R.Source.remaining fill.new.reader) fill.result
    (take old.filled old.input.items) (take (old.filled + n) fill.new.buffer) =
    has_read old.input.items fill.new.buffer old.filled (old.filled + n) n fill.result c.in-Ok-eq0.is
    c.in-Ok-eq0.ensures.fits old.filled_within (rw c.deref_mut.ensures.value at c.in-Ok-eq0.ensures.ok) refl in
    let none = none_came _ _ fill.result n read.bytes c.in-Ok-eq0.is zero read.long read.got in
    let same = same_ended _ c.end_with.new.self c.end_with.ensures in
    let written = none_at_end old.output.items old.written c.if-not-is_written.ensures in
    inr (inr (inl (record {
      answer = fill.result;
      made = made_read g.R.Source.remaining g.R.Source.calls g.R.Source.beside g.W.Sink.contents g.W.Sink.calls old
          c.end_with.new.self fill.new.reader fill.result []
          (none_if old.parting c.is_some.result c.is_some.ensures c.if-is_some.false) c.if-self.false
          written same.number same.reader same.writer none.0 none.1
          fill.ensures.tells fill.ensures.beside;
      end = is_end fill.result n c.in-Ok-eq0.is zero;
      none = c.in-Ok-eq0.ensures.end zero;
      says = says_at_end old _ c.end_with.new.self _ c.bad_request.ensures
          (some_read old.input.items old.filled old.filled_within c.if-self-eq0.false) written c.end_with.ensures;
    })))
