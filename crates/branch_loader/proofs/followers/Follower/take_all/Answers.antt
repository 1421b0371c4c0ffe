-- One entry more, and how it ends.
use Rattle.std.proofs.Common.{rules, ◌≡◌, ◌<◌, ◌≤◌, ◌+◌, ◌++◌, ◌∷◌, [], ◌∙◌, ℕ, List, Err, length, take, drop, get_or}
use Rattle.std.proofs.Common.{refl, sym, ap, subst, add-one, arith}
use Rattle.std.proofs.lemmas.List.{length-take-le, take-append-drop, take_all, take_more}
use Rattle.std.proofs.Math.Seq.{drop-cons}
use Rattle.posting_core.specs.Entries.{answered}
use Rattle.branch_loader.specs.Following.{TakesSome}
use Rattle.branch_loader.proofs.Following.{some_more, took_last, took_some, took_up_to}
use Rattle.branch_loader.proofs.followers.Follower.take_all.Goals as goal

apart : (texts : List (List ℕ)) (i : ℕ) → i < length texts → take i texts ++ get_or texts i [] ∷ drop (i + 1) texts ≡ texts
apart texts i low =
    let parts : drop i texts ≡ get_or texts i [] ∷ drop (i + 1) texts = rw add-one (drop-cons texts i [] low) in
    ap (λ (l : List (List ℕ)). take i texts ++ l) (sym parts) ∙ take-append-drop i texts

pub loop-i-init : goal.loop-i-init
loop-i-init g c = record {
  plan = refl;
  some = λ first rows given is posted. (
    [],
    tt,
    refl,
    record { done = given; left = []; all = refl; posted = posted; waits = c.requires.waits; ready = tt },
  );
}

pub loop-i-preserved : goal.loop-i-preserved
loop-i-preserved g c =
    let texts = c.args.entries.now in
    let low : c.loop-i.i < length texts = omega (arith, c.loop-i-test.true) in
    record {
      plan = c.in_ok-take.ensures.plan ∙ c.loop-i.invariant.plan;
      some = subst (λ (l : List (List ℕ)). TakesSome g.C.Counter.seen g.C.Counter.spares c.args.counter.now
          c.take.new.counter c.args.self.now.plan.now c.args.self.now.waiting c.args.self.now.looked.items l
          c.take.new.self.waiting c.take.new.self.looked.items)
          (sym (take_more texts c.loop-i.i [] low))
          (some_more g.C.Counter.seen g.C.Counter.spares g.C.Counter.reason c.args.counter.now c.loop-i.counter
          c.take.new.counter c.args.self.now.plan.now c.args.self.now.waiting c.args.self.now.looked.items
          (take c.loop-i.i texts) c.loop-i.self.waiting c.take.new.self.waiting c.loop-i.self.looked.items
          c.take.new.self.looked.items c.loop-i.invariant.some (get_or texts c.loop-i.i []) (answered c.in-Some.entry)
          c.in-Some.ensures.0 c.in-Some.ensures.1
          (λ first rows given is it. c.in_ok-take.ensures.follows first rows given (c.loop-i.invariant.plan ∙ is) it));
    }

pub returns-in_err-take-clause-follows : goal.returns-in_err-take-clause-follows
returns-in_err-take-clause-follows g c first rows given is followed =
    let fault = c.in_err-take.field-0.0 in
    let same : c.from_residual-in_err-take.result ≡ Err fault = search rules in
    rw same (took_some g.C.Counter.seen g.C.Counter.spares g.C.Counter.reason c.args.counter.now c.loop-i.counter
    c.take.new.counter c.args.self.now.plan.now c.args.self.now.waiting c.args.self.now.looked.items
    (take c.loop-i.i c.args.entries.now) c.loop-i.self.waiting c.take.new.self.waiting c.loop-i.self.looked.items
    c.take.new.self.looked.items c.loop-i.invariant.some c.args.entries.now c.args.before first rows given is followed
    (answered c.in-Some.entry ∷ []) (drop (c.loop-i.i + 1) c.args.entries.now) fault (c.in-Some.ensures.0, tt)
    (ap (λ (t : List ℕ). take c.loop-i.i c.args.entries.now ++ t ∷ drop (c.loop-i.i + 1) c.args.entries.now)
    c.in-Some.ensures.1
    ∙ apart c.args.entries.now c.loop-i.i (omega (arith, c.loop-i-test.true)))
    (λ more it. c.in_err-take.ensures.follows first rows more (c.loop-i.invariant.plan ∙ is) it))

pub returns-in_err-post-in-None-clause-follows : goal.returns-in_err-post-in-None-clause-follows
returns-in_err-post-in-None-clause-follows g c first rows given is followed =
    let fault = c.in_err-post-in-None.field-0.0 in
    let same : c.from_residual.result ≡ Err fault = search rules in
    rw same (took_some g.C.Counter.seen g.C.Counter.spares g.C.Counter.reason c.args.counter.now c.loop-i.counter
    c.post.new.counter c.args.self.now.plan.now c.args.self.now.waiting c.args.self.now.looked.items
    (take c.loop-i.i c.args.entries.now) c.loop-i.self.waiting c.post.new.self.waiting c.loop-i.self.looked.items
    c.post.new.self.looked.items c.loop-i.invariant.some c.args.entries.now c.args.before first rows given is followed
    [] (drop c.loop-i.i c.args.entries.now) fault tt (take-append-drop c.loop-i.i c.args.entries.now)
    (λ more it. c.in_err-post-in-None.ensures.follows first rows c.loop-i.self.looked.items more [] it))

pub returns-in-None-clause-follows : goal.returns-in-None-clause-follows
returns-in-None-clause-follows g c first rows given is followed =
    let texts = c.args.entries.now in
    let low : c.loop-i.i < length texts = omega (arith, c.loop-i-test.true) in
    let front : length (take c.loop-i.i texts) ≡ c.loop-i.i = length-take-le c.loop-i.i texts (omega (arith, low)) in
    took_up_to g.C.Counter.seen g.C.Counter.spares g.C.Counter.reason c.args.counter.now c.loop-i.counter
    c.post.new.counter c.args.self.now.plan.now c.args.self.now.waiting c.args.self.now.looked.items
    (take c.loop-i.i texts) c.loop-i.self.waiting c.post.new.self.waiting c.loop-i.self.looked.items
    c.post.new.self.looked.items c.loop-i.invariant.some texts c.args.before first rows given is followed
    (get_or texts c.loop-i.i []) (drop (c.loop-i.i + 1) texts) _ (apart texts c.loop-i.i low)
    (omega (arith, front)) c.in-None.ensures
    (λ more it. rw (c.in_ok-post-in-None.ensures.looked) (c.in_ok-post-in-None.ensures.follows first rows c.loop-i.self.looked.items more [] it))

pub returns-clause-follows : goal.returns-clause-follows
returns-clause-follows g c first rows given is followed =
    let texts = c.args.entries.now in
    let high : length texts ≤ c.loop-i.i = omega (arith, c.loop-i-test.false) in
    took_last g.C.Counter.seen g.C.Counter.spares g.C.Counter.reason c.args.counter.now c.loop-i.counter
    c.post-2.new.counter c.args.self.now.plan.now c.args.self.now.waiting c.args.self.now.looked.items
    (take c.loop-i.i texts) c.loop-i.self.waiting c.post-2.new.self.waiting c.loop-i.self.looked.items
    c.post-2.new.self.looked.items c.loop-i.invariant.some texts c.args.before first rows given is followed
    c.post-2.result (take_all c.loop-i.i texts high)
    (λ more it. rw (c.post-2.ensures.looked) (c.post-2.ensures.follows first rows c.loop-i.self.looked.items more [] it))
