use Rattle.std.proofs.Common.{ℕ, List, [], ◌∷◌, ap, arith, refl}
use Rattle.std.proofs.lemmas.Option.{slice_get_within}
use Rattle.counter_http.proofs.Submitted.{refused_all, spared_each, taken_all}
use Rattle.counter_http.proofs.batch.submit_one.Goals as goal

-- the bank took it
pub returns-in-Ok : goal.returns-in-Ok
returns-in-Ok g c = record {
  submits = taken_all g.C.Counter.seen g.C.Counter.contents g.C.Counter.reason c.args.moment c.args.bank.now
      c.submit.new.self c.args.here.now.items c.answer_at.new.here.items c.args.tally.now c.count_commit.new.self
      (c.args.sender ∷ []) (c.args.bytes.now ∷ []) (c.requires.gives, tt) (tt, tt) (c.in-Ok.reply ∷ []) c.in-Ok.reply
      c.requires.others c.in-Ok.ensures.call
      (λ h log shown. ap (λ (q : List ℕ). q ∷ []) (c.in-Ok.ensures.answer h log shown)) c.in-Ok.ensures.by_tables
      (c.answer_at.new.here.items, c.answer_at.ensures, refl) c.count_commit.ensures (omega arith);
  only = record { client = c.answer_at.ensures.after; is = c.answer_at.ensures.is };
  spares = c.in-Ok.ensures.spares;
}

-- memory was refused
pub returns-in-Memory : goal.returns-in-Memory
returns-in-Memory g c = record {
  submits = spared_each {X = List ℕ} g.C.Counter.seen g.C.Counter.contents g.C.Counter.reason c.args.moment
      c.args.bank.now c.submit.new.self c.args.here.now.items c.refuse_at.new.here.items c.args.tally.now
      c.args.tally.now (c.args.sender ∷ []) (c.args.bytes.now ∷ []) (c.requires.gives, tt) (tt, tt) c.in-Err.fault
      c.in-Memory.is c.in-Err.ensures.call (c.refuse_at.new.here.items, c.refuse_at.ensures, refl);
  only = record { client = c.refuse_at.ensures.after; is = c.refuse_at.ensures.is };
  spares = c.in-Err.ensures.spares;
}

-- the bank refused it
pub returns-in_default : goal.returns-in_default
returns-in_default g c = record {
  submits = refused_all {X = List ℕ} g.C.Counter.seen g.C.Counter.contents g.C.Counter.reason c.args.moment
      c.args.bank.now c.submit.new.self c.args.here.now.items c.refuse_at.new.here.items c.args.tally.now
      c.args.tally.now (c.args.sender ∷ []) (c.args.bytes.now ∷ []) (c.requires.gives, tt) (tt, tt) c.in-Err.fault c.requires.others c.in-Err.ensures.call
      (c.refuse_at.new.here.items, c.refuse_at.ensures, refl) (omega arith);
  only = record { client = c.refuse_at.ensures.after; is = c.refuse_at.ensures.is };
  spares = c.in-Err.ensures.spares;
}

-- the sender is at the place of a client
pub answer_at-requires : goal.answer_at-requires
answer_at-requires g c = slice_get_within c.args.here.now.items c.args.sender.place c.requires.gives.client c.requires.gives.at

pub refuse_at-requires : goal.refuse_at-requires
refuse_at-requires g c = slice_get_within c.args.here.now.items c.args.sender.place c.requires.gives.client c.requires.gives.at
