use Rattle.std.proofs.Common.{◌≡◌, ℕ, List, [], false, ◌-◌, ◌∙◌, ap, refl, take, length, arith}
use Rattle.std.proofs.Math.Dec.{ltb}
use Rattle.std.proofs.lemmas.Bool.{ltb-false}
use Rattle.std.proofs.lemmas.List.{with_items_is}
use Rattle.counter_http.proofs.Buffers.{left_within, moved_front, told_onto, told_within}
use Rattle.counter_http.proofs.client.Client.answer_with.Goals as goal

nothing_left : (filled : ℕ) (items : List ℕ) → ltb 0 filled ≡ false → take filled items ≡ []
nothing_left filled items e = let none : filled ≡ 0 = omega (arith, ltb-false 0 filled e) in rw none refl

-- the connection ends
pub returns-then-head : goal.returns-then-head
returns-then-head g c =
    let old = c.args.self.now in
    record {
      same = record { number = refl; reader = refl; writer = refl };
      added = told_onto c.tell.result old.output.items c.tell.new.writer.items _ old.written old.written_within
          c.if-is_err.ensures.value c.tell.ensures.written;
      rest = ap (take (old.filled - c.args.head.length)) (with_items_is old.input c.move_to_front.new.buffer
          (c.move_to_front.auto.buffer ∙ c.deref_mut.ensures.len))
          ∙ moved_front old.input.items c.move_to_front.new.buffer old.filled c.args.head.length c.requires
          (rw c.deref_mut.ensures.value at c.move_to_front.ensures);
      parting = rw c.if-head.true refl;
      more = λ e. nothing_left _ _ e;
      shows = refl;
    }

-- it goes on
pub returns-else-head : goal.returns-else-head
returns-else-head g c =
    let old = c.args.self.now in
    record {
      same = record { number = refl; reader = refl; writer = refl };
      added = told_onto c.tell.result old.output.items c.tell.new.writer.items _ old.written old.written_within
          c.if-is_err.ensures.value c.tell.ensures.written;
      rest = ap (take (old.filled - c.args.head.length)) (with_items_is old.input c.move_to_front.new.buffer
          (c.move_to_front.auto.buffer ∙ c.deref_mut.ensures.len))
          ∙ moved_front old.input.items c.move_to_front.new.buffer old.filled c.args.head.length c.requires
          (rw c.deref_mut.ensures.value at c.move_to_front.ensures);
      parting = rw c.if-head.false refl;
      more = λ e. nothing_left _ _ e;
      shows = refl;
    }

-- ---- what is taken out is there

pub move_to_front-requires-clause-order : goal.move_to_front-requires-clause-order
move_to_front-requires-clause-order g c = c.requires

pub overflow_sub-self : goal.overflow_sub-self
overflow_sub-self g c = c.requires

-- ---- what stands in its buffers

pub invariant_of-self : goal.invariant_of-self
invariant_of-self g c = record {
  filled_within = c.args.self.now.filled_within;
  written_within = told_within c.args.self.now.output.items c.tell.new.writer.items _ c.args.self.now.written
      c.args.self.now.written_within c.tell.ensures.written.1;
}

pub invariant_of-self-then-head : goal.invariant_of-self-then-head
invariant_of-self-then-head g c =
    let old = c.args.self.now in
    record {
      filled_within = left_within _ old.input.items c.move_to_front.new.buffer old.filled c.args.head.length
          (with_items_is old.input c.move_to_front.new.buffer (c.move_to_front.auto.buffer ∙ c.deref_mut.ensures.len))
          (c.move_to_front.auto.buffer ∙ ap length c.deref_mut.ensures.value) old.filled_within;
      written_within = told_within old.output.items c.tell.new.writer.items _ old.written old.written_within
          c.tell.ensures.written.1;
    }

pub invariant_of-self-else-head : goal.invariant_of-self-else-head
invariant_of-self-else-head g c =
    let old = c.args.self.now in
    record {
      filled_within = left_within _ old.input.items c.move_to_front.new.buffer old.filled c.args.head.length
          (with_items_is old.input c.move_to_front.new.buffer (c.move_to_front.auto.buffer ∙ c.deref_mut.ensures.len))
          (c.move_to_front.auto.buffer ∙ ap length c.deref_mut.ensures.value) old.filled_within;
      written_within = told_within old.output.items c.tell.new.writer.items _ old.written old.written_within
          c.tell.ensures.written.1;
    }
