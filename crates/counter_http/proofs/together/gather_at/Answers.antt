use Rattle.std.proofs.Common.{ℕ, inl, inr, length, refl, slice_set, sym, ap, ◌∙◌}
use Rattle.std.proofs.lemmas.List.{set-get_or}
use Rattle.std.proofs.lemmas.Option.{slice_get_read}
use Rattle.std.proofs.lemmas.Result.{err_from_is_err_and}
use Rattle.counter_http.proofs.Gathering.{batch_still, batch_then, gathers_as, gathers_at, gathers_err, gathers_nothing}
use Rattle.counter_http.proofs.Moves.{in_batch}
use Rattle.counter_http.specs.{declared.batch.Batch.Batch, declared.client.Record.Record}
use Rattle.counter_http.specs.together.Submitting.{AddsIfRoom, MayAdd}
use Rattle.counter_http.proofs.together.gather_at.Goals as goal

may_add : (old new : Batch) (place : ℕ) (r : Record) → AddsIfRoom old new place r → MayAdd old new place
may_add old new place r (inl added) = inl (r, added)
may_add old new place r (inr full) = inr full.1

-- nothing of it is left
pub returns-then-is_idle : goal.returns-then-is_idle
returns-then-is_idle g c =
    let here = c.args.here.now.items in
    let client = c.index.result.now in
    record {
      gathers = gathers_nothing g.C.Counter.seen c.args.bank.now c.args.here.now.items c.args.batch.now c.requires.gives;
      adds = inr refl;
      looks = record {
        before = client;
        after = client;
        at = slice_get_read here (length here) c.args.place client refl c.requires.within c.index.ensures;
        is = sym (ap (λ x. slice_set here c.args.place x) c.index.ensures ∙ set-get_or here c.args.place client);
        moves = inl (inl (inl (c.is_idle.ensures c.if-is_idle.true)));
      };
      spares = g.met.C.Counter.spares_itself c.args.bank.now;
    }

-- the bank refused a call
pub returns-in_err-found : goal.returns-in_err-found
returns-in_err-found g c =
    let here = c.args.here.now.items in
    let at = slice_get_read here (length here) c.args.place c.index_mut.result.now refl c.requires.within
    c.index_mut.ensures.value in
    let failed = err_from_is_err_and c.from_residual.result c.from_residual.ensures.1 in
    record {
      gathers = rw (failed.1, failed.2)
          (gathers_err (gathers_at g.C.Counter.seen c.args.bank.now c.next_record.new.bank here c.args.place
          c.index_mut.result.now c.next_record.new.self c.args.batch.now _ c.requires.others at
          c.in_err-found.ensures.answers
          (batch_still here (slice_set here c.args.place c.next_record.new.self) c.args.place c.next_record.new.self
          c.args.batch.now refl c.requires.gives c.requires.elsewhere)));
      adds = inr refl;
      looks = rw failed.1 tt;
      spares = c.in_err-found.ensures.spares;
    }

-- a record was found
pub returns-in-Some : goal.returns-in-Some
returns-in-Some g c =
    let here = c.args.here.now.items in
    let at = slice_get_read here (length here) c.args.place c.index_mut.result.now refl c.requires.within
    c.index_mut.ensures.value in
    record {
      gathers = gathers_as tt (gathers_at g.C.Counter.seen c.args.bank.now c.next_record.new.bank here c.args.place
          c.index_mut.result.now c.next_record.new.self c.add.new.self _ c.requires.others at
          c.in_ok-found.ensures.answers
          (batch_then here c.args.place c.index_mut.result.now c.next_record.new.self c.args.batch.now c.add.new.self
          c.in-Some.found at (rw c.in-Some.is at c.in_ok-found.ensures.record) c.requires.gives c.requires.elsewhere
          c.add.ensures));
      adds = may_add c.args.batch.now c.add.new.self c.args.place c.in-Some.found c.add.ensures;
      looks = record {
        before = c.index_mut.result.now;
        after = c.next_record.new.self;
        at = slice_get_read here (length here) c.args.place c.index_mut.result.now refl c.requires.within
            c.index_mut.ensures.value;
        is = refl;
        moves = inr (in_batch here c.args.batch.now c.add.new.self c.args.place c.in-Some.found c.requires.gives c.add.ensures);
      };
      spares = c.in_ok-found.ensures.spares;
    }

-- none was
pub returns-in-None : goal.returns-in-None
returns-in-None g c =
    let here = c.args.here.now.items in
    let at = slice_get_read here (length here) c.args.place c.index_mut.result.now refl c.requires.within
    c.index_mut.ensures.value in
    record {
      gathers = gathers_as tt (gathers_at g.C.Counter.seen c.args.bank.now c.next_record.new.bank here c.args.place
          c.index_mut.result.now c.next_record.new.self c.args.batch.now _ c.requires.others at
          c.in_ok-found.ensures.answers
          (batch_still here (slice_set here c.args.place c.next_record.new.self) c.args.place c.next_record.new.self
          c.args.batch.now refl c.requires.gives c.requires.elsewhere));
      adds = inr refl;
      looks = record {
        before = c.index_mut.result.now;
        after = c.next_record.new.self;
        at = slice_get_read here (length here) c.args.place c.index_mut.result.now refl c.requires.within
            c.index_mut.ensures.value;
        is = refl;
        moves = inl (c.in_ok-found.ensures.rests c.in-None.is);
      };
      spares = c.in_ok-found.ensures.spares;
    }
