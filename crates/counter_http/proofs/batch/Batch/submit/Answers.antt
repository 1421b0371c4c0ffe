use Rattle.std.proofs.Common.{◌≡◌, ◌<◌, ◌∙◌, ℕ, List, [], ◌∷◌, ap, arith, eqb, false, inl, inr, length, refl, subst, sym}
use Rattle.std.proofs.lemmas.{Bool.eqb-true, Bool.true≢false}
use Rattle.posting_rules.specs.believed.AnyTables.{AnswersByTables}
use Rattle.counter_http.specs.together.Submitting.{AreGiven}
use Rattle.counter_http.proofs.FaredEach.{all_go, all_told, none_go}
use Rattle.counter_http.proofs.Submitted.{refused_all, spared_all, spared_by, submitted_after, submitted_nothing}
use Rattle.counter_http.proofs.Submitted.{taken_all}
use Rattle.counter_http.proofs.batch.Batch.submit.Goals as goal

some_of : (rs : List (List ℕ)) → eqb (length rs) 0 ≡ false → 0 < length rs
some_of [] e = absurd (true≢false e)
some_of (r ∷ rs) e = omega arith

holds_some : {rs all : List (List ℕ)} → rs ≡ all → eqb (length rs) 0 ≡ false → 0 < length all
holds_some {rs = rs} same some = omega (arith, ap length same, some_of rs some)

-- there is no record
pub returns-then-is_empty : goal.returns-then-is_empty
returns-then-is_empty g c =
    let none : length c.as_slice-records.result.now ≡ 0 =
    eqb-true (length c.as_slice-records.result.now) 0 (sym c.is_empty.ensures ∙ c.if-is_empty.true) in
    record {
      submits = record {
        readings = [];
        once = omega arith;
        some = λ read. absurd (omega (arith, read));
        clock = refl;
        few = omega (arith, c.as_slice-records.ensures.fits, ap length c.as_slice-records.ensures.value);
        did = rw (sym c.as_slice-records.ensures.value, none)
            (submitted_nothing g.C.Counter.seen [] c.args.bank.now c.args.here.now.items c.args.tally.now);
      };
      each = inl (none_go c.args.here.now.items c.args.here.now.items c.args.self.now.senders.items
          c.args.self.now.records.items c.requires.gives.given (sym (ap length c.as_slice-records.ensures.value) ∙ none));
      spares = g.met.C.Counter.spares_itself c.args.bank.now;
    }

-- the bank took them
pub returns-in-Ok : goal.returns-in-Ok
returns-in-Ok g c =
    let ss = c.args.self.now.senders.items in
    let rs = c.as_slice-records.result.now in
    let here = c.args.here.now.items in
    let given : AreGiven here ss rs =
    subst (λ (l : List (List ℕ)). AreGiven here ss l) (sym c.as_slice-records.ensures.value) c.requires.gives.given in
    let some : 0 < length rs =
    some_of rs (sym c.is_empty.ensures ∙ c.if-is_empty.false) in
    record {
      submits = record {
        readings = c.now-moment.result ∷ [];
        once = omega arith;
        some = λ read. holds_some c.as_slice-records.ensures.value (sym c.is_empty.ensures ∙ c.if-is_empty.false);
        clock = (c.now-moment.ensures.0, c.now-moment.ensures.1);
        few = omega (arith, c.as_slice-records.ensures.fits, ap length c.as_slice-records.ensures.value);
        did = rw (sym c.as_slice-records.ensures.value)
            (taken_all g.C.Counter.seen g.C.Counter.contents g.C.Counter.reason c.now-moment.result c.args.bank.now
            c.submit_all.new.self here c.answer.new.here.items c.args.tally.now c.count_commit.new.self ss rs given
            c.requires.gives.apart c.deref.result.now c.in-Ok.replies c.requires.others c.in-Ok.ensures.call
            (λ h log shown. c.deref.ensures.value ∙ c.in-Ok.ensures.answer h log shown)
            (subst (λ (qs : List (List ℕ)). AnswersByTables (g.C.Counter.seen c.args.bank.now)
            (g.C.Counter.seen c.submit_all.new.self) c.now-moment.result rs qs) (sym c.deref.ensures.value)
            c.in-Ok.ensures.by_tables) c.answer.ensures
            (rw (c.deref-in-Ok.ensures.value, sym c.deref.ensures.value) at c.count_commit.ensures) some);
      };
      each = inl (all_go here c.answer.new.here.items ss rs c.deref.result.now given c.requires.gives.apart c.answer.ensures);
      spares = c.in-Ok.ensures.spares;
    }

-- memory was refused for all of them together
pub returns-in-Err-Memory : goal.returns-in-Err-Memory
returns-in-Err-Memory g c =
    record {
      submits = record {
        readings = c.now-moment.result ∷ [];
        once = omega arith;
        some = λ read. holds_some c.as_slice-records.ensures.value (sym c.is_empty.ensures ∙ c.if-is_empty.false);
        clock = (c.now-moment.ensures.0, c.now-moment.ensures.1);
        few = omega (arith, c.as_slice-records.ensures.fits, ap length c.as_slice-records.ensures.value);
        did = submitted_after g.C.Counter.seen (c.now-moment.result ∷ []) c.args.bank.now c.submit_all.new.self
            c.submit_each.new.bank c.args.here.now.items c.args.here.now.items c.submit_each.new.here.items
            (length c.args.self.now.records.items) c.submit_each.result
            (spared_all g.C.Counter.seen g.C.Counter.contents g.C.Counter.reason (c.now-moment.result ∷ []) c.args.bank.now
            c.submit_all.new.self c.args.here.now.items _ c.args.tally.now c.in-Err-Memory.field-0
            c.in-Err-Memory.field-0-is c.in-Err-Memory.ensures.call) c.submit_each.ensures.submits;
      };
      each = inr (spared_by c.in-Err-Memory.field-0 c.in-Err-Memory.field-0-is c.in-Err-Memory.ensures.call);
      spares = g.met.C.Counter.spares_then c.args.bank.now c.submit_all.new.self c.submit_each.new.bank
          c.in-Err-Memory.ensures.spares c.submit_each.ensures.spares;
    }

-- the bank refused them
pub returns-in-Err : goal.returns-in-Err
returns-in-Err g c =
    let ss = c.args.self.now.senders.items in
    let rs = c.as_slice-records.result.now in
    let here = c.args.here.now.items in
    let given : AreGiven here ss rs =
    subst (λ (l : List (List ℕ)). AreGiven here ss l) (sym c.as_slice-records.ensures.value) c.requires.gives.given in
    record {
      submits = record {
        readings = c.now-moment.result ∷ [];
        once = omega arith;
        some = λ read. holds_some c.as_slice-records.ensures.value (sym c.is_empty.ensures ∙ c.if-is_empty.false);
        clock = (c.now-moment.ensures.0, c.now-moment.ensures.1);
        few = omega (arith, c.as_slice-records.ensures.fits, ap length c.as_slice-records.ensures.value);
        did = rw (sym c.as_slice-records.ensures.value)
            (refused_all g.C.Counter.seen g.C.Counter.contents g.C.Counter.reason c.now-moment.result c.args.bank.now
            c.submit_all.new.self here c.refuse.new.here.items c.args.tally.now c.args.tally.now ss rs given
            c.requires.gives.apart c.in-Err.fault
            c.requires.others c.in-Err.ensures.call c.refuse.ensures
            (some_of rs (sym c.is_empty.ensures ∙ c.if-is_empty.false)));
      };
      each = inl (all_told here c.refuse.new.here.items ss rs c.in-Err.fault given c.requires.gives.apart c.refuse.ensures);
      spares = c.in-Err.ensures.spares;
    }

-- ---- what the calls ask for

pub answer-requires-clause-gives : goal.answer-requires-clause-gives
answer-requires-clause-gives g c = c.requires.gives

pub submit_each-requires : goal.submit_each-requires
submit_each-requires g c = record {
  others = c.requires.others;
  spared = spared_by c.in-Err-Memory.field-0 c.in-Err-Memory.field-0-is c.in-Err-Memory.ensures.call;
  gives = c.requires.gives;
}

pub refuse-requires : goal.refuse-requires
refuse-requires g c = c.requires.gives
