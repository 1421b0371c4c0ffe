-- A read, the entries that it completed, and each way to end.
use Rattle.std.proofs.Common.{◌≡◌, ◌≤◌, ◌<◌, ◌++◌, ◌∙◌, [], List, ℕ, inl, inr, refl, sym, ap, arith, length, take}
use Rattle.std.specs.Prelude.{Contains}
use Rattle.std.proofs.KnownBytes.{Consumes-nil}
use Rattle.std.proofs.lemmas.{List.length-append, List.length-map, List.length-take-le, Result.err_from_is_err_and}
use Rattle.posting_core.specs.{believed.Batches.joined, believed.LogEntries.entries_of, believed.LogEntries.entry_of}
use Rattle.posting_core.proofs.{Batched.chunks_whole, Streaming.at_ok, Streaming.nothing_read}
use Rattle.posting_core.proofs.Telling.{adds-none, made_many, made_none, made_one, other_kind, read_ended, read_failed}
use Rattle.branch_loader.proofs.{Followed.broke_off, Followed.cut_up, Followed.entries-append, Followed.followed_grows}
use Rattle.branch_loader.proofs.{Followed.followed_leaves, Followed.moved_up, Followed.read_entries, Followed.read_filled}
use Rattle.branch_loader.proofs.{Followed.read_on, Following.followed_none}
use Rattle.branch_loader.specs.declared.entry_stream.TheConstants.{BUFFER}
use Rattle.branch_loader.proofs.entry_stream.follow.Goals as goal
use Rattle.branch_loader.proofs.entry_stream.follow.Goals.{then-filled-ge-ENTRY_BYTES+in_ok-take_all}
use Rattle.branch_loader.proofs.entry_stream.follow.Goals.{else-filled-ge-ENTRY_BYTES, in-Ok-fill_buffer, in-Err}

no_elements : (b : ℕ) → Contains [] b → ⊥
no_elements b has = omega (arith, has.1)

few_left : (filled : ℕ) (buffer : List ℕ) → filled < 308 → length buffer ≡ BUFFER → length (take filled buffer) < 308
few_left filled buffer few long =
    let within : filled ≤ length buffer = omega arith in
    omega (arith, length-take-le filled buffer within)

-- no memory for the plan
pub returns-in_default : goal.returns-in_default
returns-in_default g c = record {
  entries = [];
  are = tt;
  rest = [];
  read = Consumes-nil (g.R.Source.remaining c.args.reader.now);
  ends = (adds-none (g.R.Source.calls c.args.reader.now), refl);
  did = (refl, refl);
  survives = tt;
  grows = tt;
}

pub reads-init : goal.reads-init
reads-init g c = record {
  few = omega arith;
  room = refl;
  bound = omega arith;
  entries = [];
  are = tt;
  count_is = refl;
  read = Consumes-nil (g.R.Source.remaining c.args.reader.now);
  made = made_none _;
  plan = c.in-Ok.ensures.0;
  waits = c.in-Ok.ensures.1;
  posted = record {
    opened = record {
      followed = followed_none g.C.Counter.seen g.C.Counter.spares c.args.plan.now c.args.bank.now
          (g.met.C.Counter.spares_itself c.args.bank.now);
      looks = record {
        there = λ b marked some. absurd (c.in-Ok.ensures.3 b marked);
        noted = λ b has. absurd (no_elements b has);
      };
    };
    counted = λ few. c.in-Ok.ensures.2;
  };
}

-- the reader was asked too often
pub returns : goal.returns
returns g c =
    let it = c.reads.invariant in
    record {
      entries = it.entries;
      are = it.are;
      rest = take c.reads.filled c.reads.buffer;
      read = it.read;
      ends = (
        inr (made_many it.made (omega arith)),
        few_left c.reads.filled c.reads.buffer it.few it.room,
      );
      did = it.posted.opened.followed;
      survives = followed_leaves g.C.Counter.seen g.C.Counter.spares g.C.Counter.reason c.args.plan.now c.args.bank.now
          c.reads.bank it.entries it.posted.opened.followed;
      grows = tt;
    }

-- the reader failed
pub returns-in-Err-2 : goal.returns-in-Err-2
returns-in-Err-2 g c =
    let it = c.reads.invariant in
    let long : length c.fill_buffer.new.buffer ≡ BUFFER = omega (arith, c.fill_buffer.auto.buffer, it.room) in
    record {
      entries = it.entries;
      are = it.are;
      rest = take c.reads.filled c.fill_buffer.new.buffer;
      read = read_filled _ _ _ (joined (entries_of it.entries)) c.reads.buffer c.fill_buffer.new.buffer c.reads.filled
          c.reads.filled 0 it.read
          (nothing_read _ _ c.reads.buffer c.fill_buffer.new.buffer c.reads.filled c.in-Err.ensures.err) (omega arith);
      ends = (
        read_failed c.fill_buffer.result c.in-Err.e it.made c.fill_buffer.ensures.tells c.in-Err.is
            (other_kind c.kind.result c.in-Err.e c.if-eq.ensures c.kind.ensures),
        few_left c.reads.filled c.fill_buffer.new.buffer it.few long,
      );
      did = it.posted.opened.followed;
      survives = followed_leaves g.C.Counter.seen g.C.Counter.spares g.C.Counter.reason c.args.plan.now c.args.bank.now
          c.reads.bank it.entries it.posted.opened.followed;
      grows = tt;
    }

-- the input ended
pub returns-in-Ok-eq0 : goal.returns-in-Ok-eq0
returns-in-Ok-eq0 g c =
    let it = c.reads.invariant in
    let n = c.in-Ok-eq0.field-0 in
    let none : c.in-Ok-eq0.field-0 ≡ 0 = c.in-Ok-eq0.field-0-test in
    let empty : c.reads.filled ≡ 0 = c.if-filled-eq0.true in
    record {
      entries = it.entries;
      are = it.are;
      rest = take c.reads.filled c.fill_buffer.new.buffer;
      read = read_filled _ _ _ (joined (entries_of it.entries)) c.reads.buffer c.fill_buffer.new.buffer c.reads.filled
          c.reads.filled n it.read (at_ok _ c.fill_buffer.result n c.in-Ok-eq0.is c.fill_buffer.ensures.ok)
          (omega arith);
      ends = (
        at_ok _ c.fill_buffer.result n c.in-Ok-eq0.is c.fill_buffer.ensures.end none,
        read_ended c.fill_buffer.result n it.made c.fill_buffer.ensures.tells c.in-Ok-eq0.is none,
        rw empty refl,
        it.count_is,
      );
      did = it.posted.opened.followed;
      survives = followed_leaves g.C.Counter.seen g.C.Counter.spares g.C.Counter.reason c.args.plan.now c.args.bank.now
          c.reads.bank it.entries it.posted.opened.followed;
      grows = followed_grows g.C.Counter.seen g.C.Counter.spares g.C.Counter.reason c.args.plan.now c.args.bank.now
          c.reads.bank it.entries it.are it.posted.opened.followed;
    }

pub returns-in-Ok-eq0-2 : goal.returns-in-Ok-eq0-2
returns-in-Ok-eq0-2 g c =
    let it = c.reads.invariant in
    let n = c.in-Ok-eq0.field-0 in
    let none : c.in-Ok-eq0.field-0 ≡ 0 = c.in-Ok-eq0.field-0-test in
    let within : c.reads.filled ≤ length c.fill_buffer.new.buffer = omega
    (arith, it.few, c.fill_buffer.auto.buffer, it.room) in
    record {
      entries = it.entries;
      are = it.are;
      rest = take c.reads.filled c.fill_buffer.new.buffer;
      read = read_filled _ _ _ (joined (entries_of it.entries)) c.reads.buffer c.fill_buffer.new.buffer c.reads.filled
          c.reads.filled n it.read (at_ok _ c.fill_buffer.result n c.in-Ok-eq0.is c.fill_buffer.ensures.ok)
          (omega arith);
      ends = (
        at_ok _ c.fill_buffer.result n c.in-Ok-eq0.is c.fill_buffer.ensures.end none,
        read_ended c.fill_buffer.result n it.made c.fill_buffer.ensures.tells c.in-Ok-eq0.is none,
        omega arith,
        it.few,
        length-take-le c.reads.filled c.fill_buffer.new.buffer within,
      );
      did = it.posted.opened.followed;
      survives = followed_leaves g.C.Counter.seen g.C.Counter.spares g.C.Counter.reason c.args.plan.now c.args.bank.now
          c.reads.bank it.entries it.posted.opened.followed;
      grows = tt;
    }

-- it stopped
pub returns-in_err-take_all : goal.returns-in_err-take_all
returns-in_err-take_all g c =
    let it = c.reads.invariant in
    let fault = c.in_err-take_all.field-0.0 in
    let is = err_from_is_err_and c.from_residual.result c.from_residual.ensures.1 in
    let long : length c.fill_buffer.new.buffer ≡ BUFFER = omega (arith, c.fill_buffer.auto.buffer, it.room) in
    let on =
    read_on _ _ _ (joined (entries_of it.entries)) c.reads.buffer c.fill_buffer.new.buffer c.reads.filled
    c.match-fill_buffer.filled it.read it.few long
    (elim c.match-fill_buffer.branch [
      | in-Ok-fill_buffer w ↦ inl (w.in-Ok-fill_buffer.n, w.in-Ok-fill_buffer.ensures.ok, omega (arith, w.in-Ok-fill_buffer.ensures.fits), w.filled-is)
      | in-Err w ↦ inr (w.in-Err.ensures.err, w.filled-is)
    ]) in
    let bytes = take c.match-fill_buffer.filled c.fill_buffer.new.buffer in
    rw (is.1, is.2)
    (broke_off g.C.Counter.seen g.C.Counter.spares g.C.Counter.reason c.args.plan.now _ _ _ _ c.args.bank.now
    c.take_all.new.counter it.entries c.as_chunks.result.0.now bytes c.as_chunks.result.1.now c.reads.count
    c.take_all.new.self.waiting c.take_all.new.self.looked.items on.0
    (cut_up bytes c.as_chunks.result.0.now c.as_chunks.result.1.now c.as_chunks.ensures.front c.as_chunks.ensures.back)
    (rw c.as_chunks.ensures.front (chunks_whole 308 _ bytes (omega arith))) it.are it.count_is
    (omega (arith, c.as_chunks.ensures.front_len, it.bound, long)) fault
    (c.in_err-take_all.ensures.follows c.args.bank.now c.args.plan.now it.entries it.plan it.posted))

pub reads-preserved : goal.reads-preserved
reads-preserved g c =
    let it = c.reads.invariant in
    let long : length c.fill_buffer.new.buffer ≡ BUFFER = omega (arith, c.fill_buffer.auto.buffer, it.room) in
    let on =
    read_on _ _ _ (joined (entries_of it.entries)) c.reads.buffer c.fill_buffer.new.buffer c.reads.filled
    c.match-fill_buffer.filled it.read it.few long
    (elim c.match-fill_buffer.branch [
      | in-Ok-fill_buffer w ↦ inl (w.in-Ok-fill_buffer.n, w.in-Ok-fill_buffer.ensures.ok, omega (arith, w.in-Ok-fill_buffer.ensures.fits), w.filled-is)
      | in-Err w ↦ inr (w.in-Err.ensures.err, w.filled-is)
    ]) in
    let bytes = take c.match-fill_buffer.filled c.fill_buffer.new.buffer in
    elim c.if-filled-ge-ENTRY_BYTES.branch [
      | then-filled-ge-ENTRY_BYTES+in_ok-take_all w ↦
          let texts = w.as_chunks.result.0.now in
          let left = length w.as_chunks.result.1.now in
          let after = w.move_to_front.new.buffer in
          let len : length bytes ≡ c.match-fill_buffer.filled =
          length-take-le c.match-fill_buffer.filled c.fill_buffer.new.buffer on.1 in
          let took = w.in_ok-take_all.ensures.follows c.args.bank.now c.args.plan.now it.entries it.plan it.posted in
          let moved =
          moved_up c.fill_buffer.new.buffer after c.match-fill_buffer.filled left on.1 w.as_chunks.ensures.back_len
          w.move_to_front.ensures in
          let cut = cut_up bytes texts (take left after) w.as_chunks.ensures.front moved in
          rw (w.follower-is, w.bank-is, w.buffer-is, w.filled-is, w.count-is) (record {
            few = omega (arith, w.as_chunks.ensures.back_len);
            room = w.move_to_front.auto.buffer ∙ long;
            bound = omega (arith, w.as_chunks.ensures.front_len, it.bound, long);
            entries = it.entries ++ took.0;
            are = entries-append it.entries took.0 it.are took.1;
            count_is = omega (
              arith,
              it.count_is,
              length-append it.entries took.0,
              length-map took.0 entry_of,
              ap (λ (l : List (List ℕ)). length l) took.2,
            );
            read = read_entries _ _ it.entries took.0 bytes (take left after) on.0
                (cut ∙ ap (λ (l : List (List ℕ)). joined l ++ take left after) (sym took.2));
            made = made_one _ _ it.made c.fill_buffer.ensures.tells refl;
            plan = w.in_ok-take_all.ensures.plan ∙ it.plan;
            waits = w.in_ok-take_all.ensures.empty;
            posted = took.3;
          })
      | else-filled-ge-ENTRY_BYTES w ↦
          let low = w.if-filled-ge-ENTRY_BYTES.false in
          rw (w.follower-is, w.bank-is, w.buffer-is, w.filled-is, w.count-is) (record {
            few = omega arith;
            room = long;
            bound = omega (arith, it.bound);
            entries = it.entries;
            are = it.are;
            count_is = it.count_is;
            read = on.0;
            made = made_one _ _ it.made c.fill_buffer.ensures.tells refl;
            plan = it.plan;
            waits = it.waits;
            posted = it.posted;
          })
    ]
